-- The first lines are replayed, and their steps are kept.
use Rattle.std.proofs.Common.{◌≡◌, ℕ, List, map}
use Rattle.std.specs.Prelude.{All}
use Rattle.rmm_spec.specs.declared.line.Line.{Line}
use Rattle.rmm_spec.specs.HistoryText.{History}
use Rattle.rmm_spec.specs.State.{State}
use Rattle.spec_machine.specs.View.{state_of}
use Rattle.run_steps.specs.Granule.{IsNamedStep, mark_of}
use Rattle.run_steps.specs.Replayed.{Told}
use Rattle.run_steps.specs.Touched.{marks_from}
use Rattle.run_steps.specs.declared.granule_history.GranuleStep.{GranuleStep}
use Rattle.run_steps.proofs.Taking.{AreFirst}
use Rattle.run_steps.proofs.granule_history.granule_steps.Given as goal

pub record AreKept (history : History) (lines : List Line) (granule count : ℕ) (steps : List GranuleStep) (state : State) : Type 0 where
  pub told : List Told
  pub first : AreFirst history lines count told state
  pub marks : map mark_of steps ≡ marks_from granule 1 told
  pub calls : All (IsNamedStep history lines) steps

abbrev pub invariant-loop-i : goal.invariant-loop-i
invariant-loop-i l = AreKept l.history.recorded l.certificate.lines l.granule l.i l.steps.items (state_of l.machine)
