-- What a guess shows.
use Rattle.std.specs.Prelude.{⊤}
use Rattle.rmm_spec.specs.HistoryText.{History}
use Rattle.rmm_spec.specs.Linearization.{IsLinearization}
use Rattle.finding.specs.declared.guessed.Shown.{Shown}
use Rattle.finding.specs.declared.guessed.Shown.TheVariants as shown
use Rattle.finding.specs.Found.{HasNoneUpTo}

-- a linearization is one, and the events that are said to have no order have none
abbrev pub IsShown : History → Shown → Type 0
IsShown history (shown.Linearization order) = IsLinearization history order.lines
IsShown history (shown.Fails suspect) = ⊤
IsShown history (shown.Lost place) = HasNoneUpTo history place
