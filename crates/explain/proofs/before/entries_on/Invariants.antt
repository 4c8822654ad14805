-- No more than levels so far, each of the state.
use Rattle.explain.proofs.Common.{◌≤◌, state_of}
use Rattle.std.proofs.Common.{All}
use Rattle.arrayvec.specs.ArrayVec.{array_vec_len}
use Rattle.explain.specs.Before.{IsEntryBefore}
use Rattle.explain.proofs.before.entries_on.Given as goal

abbrev pub invariant-loop-level : goal.invariant-loop-level
invariant-loop-level l = (array_vec_len l.entries ≤ l.level) × All (IsEntryBefore (state_of l.machine) l.rd l.ipa) l.entries.items
