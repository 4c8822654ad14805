-- The first lines are replayed, and counted.
use Rattle.std.proofs.Common.{◌≡◌, ℕ, List, length}
use Rattle.rmm_spec.specs.declared.line.Line.{Line}
use Rattle.rmm_spec.specs.HistoryText.{History}
use Rattle.rmm_spec.specs.State.{State}
use Rattle.spec_machine.specs.View.{state_of}
use Rattle.run_steps.specs.Places.{place_count}
use Rattle.run_steps.specs.Replayed.{Told}
use Rattle.run_steps.proofs.CountLaws.{AreCounted}
use Rattle.run_steps.proofs.Taking.{AreFirst}
use Rattle.run_steps.proofs.counting.count_conditions.Given as goal

pub record AreCountedSoFar (history : History) (lines : List Line) (count : ℕ) (counts : List ℕ) (state : State) : Type 0 where
  pub told : List Told
  pub first : AreFirst history lines count told state
  pub counted : AreCounted counts told
  pub whole : length counts ≡ place_count

abbrev pub invariant-loop-i : goal.invariant-loop-i
invariant-loop-i l = AreCountedSoFar l.history.recorded l.certificate.lines l.i l.counts.items (state_of l.machine)
