-- What an update of a REC's record requires of the record.
use Rattle.std.specs.Prelude.{IsTrue, is_some}
use Rattle.rmm_spec.specs.declared.change.RecUpdate.{RecUpdate}
use Rattle.rmm_spec.specs.declared.change.RecUpdate.TheVariants.{RequestMoved}
use Rattle.rmm_spec.specs.State.{RecRecord}

-- a request can be moved where there is one
abbrev pub IsRecUpdate : RecRecord → RecUpdate → Type 0
IsRecUpdate rec (RequestMoved base) = IsTrue (is_some rec.request)
IsRecUpdate rec _ = Unit {0}
