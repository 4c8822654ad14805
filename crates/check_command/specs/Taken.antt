-- What a history's reader was given.
use Rattle.std.specs.Prelude.{◌≡◌, ◌≢◌, ℕ, List, ◌++◌, Result, MatchResult}
use Rattle.history.specs.Faults.{IsFaultOf}
use Rattle.history.specs.declared.fault.HistoryFault.{HistoryFault}
use Rattle.history.specs.declared.fault.HistoryFault.TheVariants.{NoMemory}

-- the text, or one with a bad line whatever follows
abbrev pub HasTaken : Result (List ℕ) HistoryFault → List ℕ → Type 0
HasTaken reader text = MatchResult reader (λ given. given ≡ text) (λ fault. (fault ≢ NoMemory) × ((more : List ℕ) → IsFaultOf (text ++ more) fault))

-- memory for the piece may be refused: with it an event was read
abbrev pub RefusesEvent : Result (List ℕ) HistoryFault → List ℕ → Type 0
RefusesEvent reader piece = MatchResult reader (λ given. IsFaultOf (given ++ piece) NoMemory) (λ fault. fault ≡ NoMemory)
