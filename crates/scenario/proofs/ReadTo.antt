-- Texts that are read one after another.
use Rattle.std.proofs.Common.{◌≡◌, ℕ, List, ◌++◌, drop, map}
use Rattle.std.specs.List.{AllByRecursion}

-- So many texts were read, each as one of the values, and all can be read only where the rest can.
pub record IsReadTo {T X Y : Type 0} (IsGood : X → Type 0) (text_of : X → Y) (IsReadable : Y → Type 0)
    (seen : T → Y) (texts : List T) (count : ℕ) (values : List X) : Type 0 where
  pub spelled : map seen texts ≡ map text_of values ++ map seen (drop count texts)
  pub good : AllByRecursion IsGood values
  pub left : AllByRecursion IsReadable (map seen texts) → AllByRecursion IsReadable (map seen (drop count texts))
