-- Line by line, from the opening.
use Rattle.explain.proofs.Common.{◌≡◌, Passes, arith, state_of, subst, take, ℕ}
use Rattle.explain.specs.Track.{IsTrack}
use Rattle.checker.proofs.Progress.{Passes-nil}
use Rattle.explain.proofs.since.since_of.Goals as goal

pub loop-i-init : goal.loop-i-init
loop-i-init c =
    let history = c.args.history.now.recorded in record {
      passes = rw (c.in_ok-machine.ensures.opening, c.config.ensures) (Passes-nil history);
      track = c.no_track-track.ensures history c.args.certificate.now.lines c.args.watch.now;
    }

pub take_line-requires-clause-passing : goal.take_line-requires-clause-passing
take_line-requires-clause-passing c = record {
  last = c.requires.now.0;
  count = c.args.index;
  below = c.loop-i-test.true;
  passes = c.requires.now.1;
}

pub loop-i-preserved : goal.loop-i-preserved
loop-i-preserved c = record {
  passes = c.in_ok-take_line.ensures;
  track = c.track_with-track.ensures c.args.history.now.recorded c.args.certificate.now.lines c.args.watch.now
      (state_of c.loop-i.machine) c.loop-i.invariant.passes
      c.sample_of.ensures c.loop-i.invariant.track;
}

pub since_from-requires-clause-track : goal.since_from-requires-clause-track
since_from-requires-clause-track c =
    let history = c.args.history.now.recorded in
    let lines = c.args.certificate.now.lines in
    let s = state_of c.loop-i.machine in
    let last : c.loop-i.i ≡ c.args.index = omega (arith, c.loop-i-test.false, c.loop-i.auto.i-end) in
    c.track_with-track-2.ensures history lines c.args.watch.now s (subst (λ (i : ℕ). Passes history (take i lines) s) last c.loop-i.invariant.passes)
    c.sample_of-2.ensures (subst (λ (i : ℕ). IsTrack history lines c.args.watch.now i c.loop-i.track) last c.loop-i.invariant.track)
