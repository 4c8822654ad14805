-- What was read of a history's source.
use Rattle.std.specs.Prelude.{◌≡◌, ℕ, true, false, List, ◌++◌, Option, IfErr, IfOk, IfSome}
use Rattle.devices.specs.Source.{Gives}
use Rattle.rmm_spec.specs.HistoryText.{InHistories, IsHistoryText}
use Rattle.rmm_spec.specs.Text.{IsBadLine}
use Rattle.file_programs.specs.declared.history_text.HistoryRead.{HistoryRead}

-- The source gave the bytes. Where they are not all that it has to give, they have a line that is bad whatever follows them.
pub record IsHistoryRead {S : Type 0} (gives : S → List ℕ → S → Type 0) (is_ended : S → Type 0)
    (left : Option (List ℕ)) (old new : S) (read : HistoryRead) : Type 0 where
  pub given : Gives gives old read.bytes.items new
  pub whole : read.is_whole ≡ true → IfSome left (λ all. read.bytes.items ≡ all)
  pub ended : read.is_whole ≡ true → is_ended new
  pub found : IfOk read.history (λ history. (read.is_whole ≡ true) × IsHistoryText read.bytes.items history.recorded)
  pub bad : IfErr read.history (IsBadLine InHistories read.bytes.items)
  pub final : read.is_whole ≡ false → IfErr read.history (λ line. (more : List ℕ) → IsBadLine InHistories (read.bytes.items ++ more) line)
