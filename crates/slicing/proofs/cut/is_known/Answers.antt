-- The call that is found at the place is kept, and makes the granule known.
use Rattle.std.proofs.Common.{◌∙◌, ap, arith, sym}
use Rattle.std.specs.Option.{is_some}
use Rattle.std.proofs.lemmas.Bool.{false≢true, ltb-true}
use Rattle.slicing.proofs.CallLaws.{IsKnownAt-from_call}
use Rattle.slicing.proofs.cut.is_known.Goals as goal
use Rattle.slicing.proofs.cut.is_known.Goals.{then-is_some, else-is_some}

pub returns-then-back-call : goal.returns-then-back-call
returns-then-back-call c is = elim c.if-is_some.branch [
  | then-is_some w ↦
      let place = c.args.call.now.place in
      let before = ltb-true w.back.result place (sym w.value-is ∙ c.if-back-call.true) in
      IsKnownAt-from_call _ _ c.in-Some.known c.in-Some-call_at.earlier place c.args.granule c.in-Some-call_at.ensures.some
      (sym (ap is_some c.number_at.ensures) ∙ c.if-is_none.ensures) (sym c.is_some.ensures ∙ w.if-is_some.true)
      (omega (arith, before, w.back.ensures)) (sym c.changes.ensures ∙ is)
  | else-is_some w ↦ absurd (false≢true (sym w.if-is_some.false ∙ sym w.value-is ∙ c.if-back-call.true))
]
