-- The lines so far pass, and what is kept of them is so.
use Rattle.explain.proofs.Common.{Passes, state_of, take}
use Rattle.explain.specs.Track.{IsTrack}
use Rattle.explain.proofs.since.since_of.Given as goal

abbrev pub invariant-loop-i : goal.invariant-loop-i
invariant-loop-i l = record {
  passes : Passes l.history.recorded (take l.i l.certificate.lines) (state_of l.machine);
  track : IsTrack l.history.recorded l.certificate.lines l.watch l.i l.track;
}
