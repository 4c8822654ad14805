-- What a sound state ties to a realm: a tie tells the granule's tag, and its one realm.
use Rattle.rmm_laws.proofs.Common.{◌==◌, ◌∙◌, ◌≡◌, ◌⊎◌, Delegated, IsSound, IsTrue, Rd, Rtt, Some, State, Tag, ap, eq-eqb, has_tag, inl, inr, refl, subst, sym, tag-has_tag, true, ℕ}
use Rattle.std.proofs.Common.{◌||◌}
use Rattle.rmm_spec.specs.declared.tag.Tag.TheVariants.{Undelegated, Rec, RecAux, Data}
use Rattle.rmm_spec.specs.State.{RecRecord}
use Rattle.rmm_spec.specs.Sound.{has_aux}
use Rattle.rmm_spec.specs.Ownership.{IsTied}
use Rattle.rmm_laws.proofs.Tests.{there, same_value}
use Rattle.lemmas.proofs.Tests.{or_second}

-- a tag that no realm's granule has
abbrev pub IsUnused : Tag → Type 0
IsUnused tag = (tag ≡ Undelegated) ⊎ (tag ≡ Delegated)

-- a granule that is tied has the tag of its role
pub tied-tag : (s : State) (role : Tag) (granule realm : ℕ) → IsSound s → IsTied role s granule realm → IsTrue (has_tag s granule role)
tied-tag s Rd granule realm sound (here, some) = rw here (sym (sound.realms.tagged realm) ∙ some)
tied-tag s Rec granule realm sound (r, is, _) = sym (sound.recs.tagged granule) ∙ there is
tied-tag s RecAux granule realm sound (rec, r, is, _, inl aux) = rw (← aux) (sound.recs.aux0 rec r is)
tied-tag s RecAux granule realm sound (rec, r, is, _, inr aux) = rw (← aux) (sound.recs.aux1 rec r is)
tied-tag s Rtt granule realm sound (level, number, is) = sound.tables.tagged realm level number granule is
tied-tag s Data granule realm sound (level, number, ripas, is) = sound.leaves.pages realm level number granule ripas is
tied-tag s _ granule realm sound tied = absurd tied

-- a role is no unused tag
role_used : (s : State) (role : Tag) (granule realm : ℕ) → IsTied role s granule realm → IsUnused role → ⊥
role_used s Undelegated granule realm tied unused = tied
role_used s Delegated granule realm tied unused = tied
role_used s _ granule realm tied unused = elim unused [ inl bad ↦ cc | inr bad ↦ cc ]

-- a granule that is tied is in use
pub tied-used : (s : State) (role : Tag) (granule realm : ℕ) → IsSound s → IsTied role s granule realm → IsUnused (s.tag granule) → ⊥
tied-used s role granule realm sound tied unused =
    role_used s role granule realm tied (subst IsUnused (tag-has_tag s granule role (tied-tag s role granule realm sound tied)) unused)

-- a REC has the one or the other auxiliary granule
aux_is : (r : RecRecord) (granule : ℕ) → (r.aux0 ≡ granule) ⊎ (r.aux1 ≡ granule) → (r.aux0 == granule || r.aux1 == granule) ≡ true
aux_is r granule (inl aux) = rw (eq-eqb r.aux0 granule aux) refl
aux_is r granule (inr aux) = or_second (r.aux0 == granule) (r.aux1 == granule) (eq-eqb r.aux1 granule aux)

-- a granule is an auxiliary granule of the REC
pub aux-has_aux : (s : State) (rec granule : ℕ) (r : RecRecord)
    → s.rec rec ≡ Some r → (r.aux0 ≡ granule) ⊎ (r.aux1 ≡ granule) → IsTrue (has_aux granule (s.rec rec))
aux-has_aux s rec granule r is aux = rw is (aux_is r granule aux)

-- a granule is tied to one realm in a role
pub tied-once : (s : State) (role : Tag) (granule realm other : ℕ)
    → IsSound s → IsTied role s granule realm → IsTied role s granule other → realm ≡ other
tied-once s Rd granule realm other sound (here, _) (there, _) = sym here ∙ there
tied-once s Rec granule realm other sound (r, is, owner) (q, is_too, owner_too) =
    sym owner ∙ ap (λ (x : RecRecord). x.owner) (same_value is is_too) ∙ owner_too
tied-once s RecAux granule realm other sound (rec, r, is, owner, aux) (rec_too, q, is_too, owner_too, aux_too) =
    let one = sound.recs.apart rec rec_too granule (aux-has_aux s rec granule r is aux) (aux-has_aux s rec_too granule q is_too aux_too) in
    sym owner ∙ ap (λ (x : RecRecord). x.owner) (same_value is (ap s.rec one ∙ is_too)) ∙ owner_too
tied-once s Rtt granule realm other sound (level, number, is) (level_too, number_too, is_too) =
    (sound.tables.apart realm level number other level_too number_too granule is is_too).0
tied-once s Data granule realm other sound (level, number, ripas, is) (level_too, number_too, ripas_too, is_too) =
    (sound.leaves.apart realm level number other level_too number_too granule ripas ripas_too is is_too).0
tied-once s Undelegated granule realm other sound tied tied_too = absurd tied
tied-once s Delegated granule realm other sound tied tied_too = absurd tied
