-- What is found of a history.
use Rattle.std.specs.Prelude.{ℕ, ◌+◌, ◌≤◌, ◌⊎◌, List, take, IfSome}
use Rattle.rmm_spec.specs.declared.line.Line.{Line}
use Rattle.rmm_spec.specs.HistoryText.{History}
use Rattle.rmm_spec.specs.Linearization.{IsLinearization}
use Rattle.finding.specs.declared.finding.Found.{Found}
use Rattle.finding.specs.declared.finding.Found.TheVariants as found

-- no certificate is a linearization
abbrev pub HasNone : History → Type 0
HasNone history = (lines : List Line) → ¬ IsLinearization history lines

-- of the events up to the place none is
abbrev pub HasNoneUpTo : History → ℕ → Type 0
HasNoneUpTo history place = HasNone (record history { events = take (place + 1) history.events })

-- the order is a linearization, or no certificate is one, or so many offers were made, or a watch has stopped the search
abbrev pub IsFoundWatched : History → ℕ → Type 0 → Found → Type 0
IsFoundWatched history limit stopped (found.Order certificate) = IsLinearization history certificate.lines
IsFoundWatched history limit stopped (found.None place) = HasNone history × IfSome place (HasNoneUpTo history)
IsFoundWatched history limit stopped (found.GaveUp offers) = (limit ≤ offers.count) ⊎ stopped

-- one of the two
abbrev pub IsDecided : History → Found → Type 0
IsDecided history (found.Order certificate) = IsLinearization history certificate.lines
IsDecided history (found.None place) = HasNone history × IfSome place (HasNoneUpTo history)
IsDecided history (found.GaveUp offers) = ⊥

-- the same where nobody follows it
abbrev pub IsFound : History → ℕ → Found → Type 0
IsFound history limit (found.Order certificate) = IsLinearization history certificate.lines
IsFound history limit (found.None place) = HasNone history × IfSome place (HasNoneUpTo history)
IsFound history limit (found.GaveUp offers) = limit ≤ offers.count
