-- One place more is such, past the last one nothing is called, and before that are those that come after the call returned.
use Rattle.std.proofs.Common.{arith, below_more, inl, inr, refl}
use Rattle.std.proofs.lemmas.Bool.{cases_lt}
use Rattle.std.proofs.lemmas.List.{length-take-le}
use Rattle.std.proofs.lemmas.Option.{slice_get_within}
use Rattle.slicing.specs.Calls.{events_to}
use Rattle.slicing.proofs.beside.are_left_beside.Goals as goal

pub loop-at-preserved : goal.loop-at-preserved
loop-at-preserved c = below_more _ _ c.loop-at.invariant (c.if-not-is_left_or_beside.ensures refl)

pub returns : goal.returns
returns c is at cpu number command is_called =
    let events = events_to c.args.count c.args.history.now.recorded.events in
    let within = slice_get_within events at _ is_called in
    let all = length-take-le c.args.count c.args.history.now.recorded.events c.requires in
    elim (cases_lt at c.looked_to-to.result) [
      | inl below ↦ c.loop-at.invariant at (omega (arith, below, c.loop-at-test.false)) cpu number command is_called
      | inr past ↦ elim (c.looked_to-to.ensures.over at (omega (arith, past))) [
        | inl beyond ↦ absurd (omega (arith, within, all, beyond))
        | inr over ↦ inr (inl (inr (inr (inl over))))
      ]
    ]
