use Rattle.std.proofs.Common.{◌∷◌, ◌∙◌, sym, ap, length, arith}
use Rattle.std.proofs.lemmas.Bool.Decides.{Decides-eqb, not_from_Decides}
use Rattle.std.proofs.lemmas.Slice.Eq.{slice_eq-Decides}
use Rattle.rmm_spec.specs.CommandText.{reply_parts}
use Rattle.spec_lemmas.proofs.Texts.{reply_parts-some, reply_parts-are_parts}
use Rattle.rmi_codec.proofs.PartLaws.{no_empty_first_part, no_other_form}
use Rattle.rmi_codec.proofs.reply.other_from.Goals as goal

pub returns-in_default-clause-only : goal.returns-in_default-clause-only
returns-in_default-clause-only c = λ r is e.
    absurd (omega (arith, ap length (sym c.in_default.ensures.over ∙ e), reply_parts-some r))

pub returns-then-is_empty-clause-only : goal.returns-then-is_empty-clause-only
returns-then-is_empty-clause-only c = λ r is e.
    absurd (no_empty_first_part c.in-Some.form.now _ _ (reply_parts r)
    (sym c.is_empty.ensures ∙ c.if-is_empty.true) c.in-Some.ensures.next e (reply_parts-are_parts r))

pub returns-clause-only : goal.returns-clause-only
returns-clause-only c = λ r is e.
    absurd (no_other_form r c.in-Some.form.now _ _ c.in-Some.ensures.next e
    (λ same. c.requires _ (c.in-Some.ensures.next ∙ ap (λ part. part ∷ c.next_part.new.self) same))
    (λ same. not_from_Decides c.eq.result (slice_eq-Decides Decides-eqb _ _ _ c.eq.ensures) c.if-eq.false (same ∙ sym c.as_slice.ensures))
    (λ same. not_from_Decides c.eq-2.result (slice_eq-Decides Decides-eqb _ _ _ c.eq-2.ensures) c.if-eq-2.false (same ∙ sym c.as_slice-2.ensures)))
