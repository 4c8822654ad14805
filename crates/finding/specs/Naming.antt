-- What is found of a history's first events.
use Rattle.std.specs.Prelude.{⊤, ℕ}
use Rattle.rmm_spec.specs.HistoryText.{History}
use Rattle.finding.specs.Found.{HasNoneUpTo}
use Rattle.finding.specs.declared.naming.Beginning.{Beginning}
use Rattle.finding.specs.declared.naming.Beginning.TheVariants as beginning
use Rattle.finding.specs.declared.slices.Sliced.{Sliced}
use Rattle.finding.specs.declared.slices.Sliced.TheVariants as sliced

-- of those that are said to have no order none is a linearization
abbrev pub IsBeginning : History → ℕ → Beginning → Type 0
IsBeginning history place (beginning.Lost lost) = HasNoneUpTo history place
IsBeginning history place beginning.Ordered = ⊤
IsBeginning history place beginning.Open = ⊤

-- where slices show that the events up to a place have no order, they have none
abbrev pub IsSliced : History → Sliced → Type 0
IsSliced history (sliced.Lost place) = HasNoneUpTo history place
IsSliced history (sliced.Open suspect) = ⊤
