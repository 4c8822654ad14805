-- One place more is quiet, and what was made before the first returned before the last call on the granule was made.
use Rattle.std.proofs.Common.{arith, below_more, inl, inr, refl}
use Rattle.std.proofs.lemmas.Bool.{cases_lt}
use Rattle.std.proofs.lemmas.List.{length-take-le}
use Rattle.std.proofs.lemmas.Option.{slice_get_within}
use Rattle.slicing.specs.Calls.{events_to}
use Rattle.slicing.proofs.UnusedLaws.{early_no_later}
use Rattle.slicing.proofs.unused.are_quiet.Goals as goal

pub loop-place-preserved : goal.loop-place-preserved
loop-place-preserved c = below_more _ _ c.loop-place.invariant (λ behind. c.if-not-is_quiet.ensures refl)

pub returns : goal.returns
returns c is early place cpu number command is_called left changes =
    let plan = c.args.plan.now in
    let events = events_to c.args.count c.args.history.now.recorded.events in
    elim (cases_lt place plan.from) [
      | inl before ↦
          inr (early_no_later events plan c.args.last early (c.if-not-begins_before.ensures refl) place cpu number command is_called before)
      | inr behind ↦
          let within = slice_get_within events place _ is_called in
          let all = length-take-le c.args.count c.args.history.now.recorded.events c.requires in
          c.loop-place.invariant place (omega (arith, within, all, c.loop-place-test.false)) behind cpu number command is_called left changes
    ]
