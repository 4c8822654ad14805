-- The open calls of the CPUs before this one are found.
use Rattle.std.proofs.Common.{◌≡◌, ◌<◌, ℕ, Some}
use Rattle.std.specs.List.{slice_get}
use Rattle.registers.specs.declared.open_call.OpenCall.{OpenCall}
use Rattle.registers.specs.Opens.{HaveBelow}
use Rattle.registers.proofs.opens.open_calls.Given as goal

abbrev pub invariant-loop-other : goal.invariant-loop-other
invariant-loop-other l = record {
  few : (i : ℕ) (one : OpenCall) → slice_get l.opens.items i ≡ Some one → one.cpu < 8;
  all : HaveBelow l.setting.history.now.recorded l.setting.owners.now l.place l.cpu l.slot l.other l.opens.items;
}
