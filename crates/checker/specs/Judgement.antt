-- What the judgement of two texts takes memory for.
use Rattle.std.specs.Prelude.{◌⊎◌, ℕ, List}
use Rattle.history.specs.Faults.{IsFaultOf}
use Rattle.history.specs.declared.fault.HistoryFault.TheVariants.{NoMemory}
use Rattle.rmm_spec.specs.HistoryText.{InHistories}

-- an event with which the history's text begins, or the machine of a whole history
abbrev pub TakesMemory : List ℕ → Type 0
TakesMemory text = IsFaultOf text NoMemory ⊎ InHistories text
