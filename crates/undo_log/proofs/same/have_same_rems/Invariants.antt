-- The measurements so far are the same.
use Rattle.undo_log.proofs.SameLists.{SameTo}
use Rattle.undo_log.proofs.same.have_same_rems.Given as goal

abbrev pub invariant-loop-index : goal.invariant-loop-index
invariant-loop-index l = SameTo l.index l.one l.other
