-- The lines so far: where each leads nowhere, so does each line that isn't left.
use Rattle.finding.proofs.Common.{Line, List, TriedIn, state_of}
use Rattle.finding.specs.Begun.{Holds}
use Rattle.finding.specs.Group.{is_inside}
use Rattle.finding.specs.Waiting.{AllLeadNowhere, AllMayCome}
use Rattle.finding.proofs.group_lines.group_lines.Given as goal

abbrev pub invariant-lines : goal.invariant-lines
invariant-lines l = record {
  come : AllMayCome l.history.recorded l.begun.front.counts (state_of l.begun.machine) l.lines.items;
  tried : AllLeadNowhere l.history.recorded l.begun.front.counts (state_of l.begun.machine) l.lines.items → (lines : List Line)
      → Holds l.history.recorded l.begun lines → TriedIn l.history.recorded (is_inside l.group) lines l.left.from l.left.above;
}
