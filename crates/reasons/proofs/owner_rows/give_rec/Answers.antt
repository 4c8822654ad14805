use Rattle.reasons.proofs.Common.{◌∙◌, ◌≡◌, ◌⊎◌, IsOf, RecRecord, Some, ap, inl, inr, state_of, subst, subst₂, sym}
use Rattle.std.proofs.lemmas.Option.{same_Some}
use Rattle.std.specs.Option.{option_copied}
use Rattle.reasons.proofs.Owners.{gives-both, rec-is_of}
use Rattle.reasons.proofs.owner_rows.give_rec.Goals as goal

pub returns-in-Some : goal.returns-in-Some
returns-in-Some c =
    let m = c.args.machine.now in
    let s = state_of m in
    let rec : RecRecord = c.in-Some.rec.now in
    let is : s.rec c.args.granule ≡ Some rec = sym c.rec_in.ensures ∙ ap option_copied c.in-Some.is in
    let of = rec-is_of m c.args.granule rec is in
    let here = c.give.ensures s (subst (IsOf s c.args.granule) (sym c.owner.ensures) of.0) in
    let first = c.give-in-Some.ensures s (subst₂ (IsOf s) (sym c.aux0.ensures) (sym c.owner-in-Some.ensures) of.1) in
    let second = c.give-in-Some-2.ensures s (subst₂ (IsOf s) (sym c.aux1.ensures) (sym c.owner-in-Some-2.ensures) of.2) in
    gives-both s c.args.first _ (λ x. x ≡ c.aux1.result) _ c.args.rows.now.items c.give-in-Some.new.rows.items _
    (gives-both s c.args.first _ (λ x. x ≡ c.aux0.result)
    (λ x. (x ≡ c.args.granule) ⊎ (x ≡ c.aux0.result)) c.args.rows.now.items c.give.new.rows.items _ here first (λ x is. is))
    second
    (λ x gives.
    let same : gives.0 ≡ rec = same_Some gives.0 rec (sym gives.1 ∙ is) in
    elim gives.2 [
      | inl itself ↦ inl (inl itself)
      | inr aux ↦ elim aux [
        | inl one ↦ inl (inr (one ∙ ap (λ (r : RecRecord). r.aux0) same ∙ sym c.aux0.ensures))
        | inr two ↦ inr (two ∙ ap (λ (r : RecRecord). r.aux1) same ∙ sym c.aux1.ensures)
      ]
    ])
