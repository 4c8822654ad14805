-- By what was kept.
use Rattle.std.proofs.Common.{sym, subst, arith}
use Rattle.explain.specs.Watch.{IsSince}
use Rattle.explain.proofs.Sinces.{IsSince-told, since-within}
use Rattle.explain.proofs.since.since_from.Goals as goal

pub step_if_any-made-requires-clause-before : goal.step_if_any-made-requires-clause-before
step_if_any-made-requires-clause-before c =
    let now = c.requires.now in
    since-within c.args.history.now.recorded c.well_formed-fact.ensures c.args.certificate.now.lines c.args.index c.args.watch.now now.0 now.1 now.2
    c.args.track.now c.requires.track

pub step_if_any-made-requires-clause-passing : goal.step_if_any-made-requires-clause-passing
step_if_any-made-requires-clause-passing c = (c.requires.now.0, c.requires.now.1)

pub step_if_any-set-requires-clause-before : goal.step_if_any-set-requires-clause-before
step_if_any-set-requires-clause-before c = omega (arith, c.requires.track.kept.within)

pub step_if_any-set-requires-clause-passing : goal.step_if_any-set-requires-clause-passing
step_if_any-set-requires-clause-passing c = (c.requires.now.0, c.requires.now.1)

pub returns : goal.returns
returns c =
    let h = c.args.history.now.recorded in
    let lines = c.args.certificate.now.lines in
    let now = c.requires.now in
    subst (IsSince h lines c.args.index c.args.watch.now) (sym c.since_told.ensures)
    (IsSince-told h c.well_formed-fact.ensures lines c.args.index c.args.watch.now now.0 now.1 now.2 c.args.track.now c.requires.track
    c.step_if_any-made.result c.step_if_any-set.result
    (record { some = c.step_if_any-made.ensures.some; none = c.step_if_any-made.ensures.none })
    (record { some = c.step_if_any-set.ensures.some; none = c.step_if_any-set.ensures.none }))
