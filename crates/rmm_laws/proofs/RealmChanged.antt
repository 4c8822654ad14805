-- A realm's record is replaced by one like it.
use Rattle.rmm_laws.proofs.SoundCommon.{◌∙◌, ◌≡◌, IsSound, Rd, RealmRecord, Some, State, ap, has_tag, is_some, refl, subst, sym, ℕ}
use Rattle.rmm_spec.specs.Update.{with_realm}
use Rattle.rmm_laws.proofs.Cases.{by_address}
use Rattle.rmm_laws.proofs.Kept.{IsLike, like_itself, space_of_like, AreLikeRealms, recs_kept, tables_kept, leaves_kept}

-- the other realms stay, and this one is like it was
like_realms : (s : State) (rd : ℕ) (old new : RealmRecord) → s.realm rd ≡ Some old → IsLike old new → AreLikeRealms s (with_realm s rd new)
like_realms s rd old new there like = record {
  before = λ g r. by_address (λ found. found ≡ Some r → (q : RealmRecord) × (s.realm g ≡ Some q) × IsLike q r) g rd (Some new) (s.realm g)
      (λ here e. let is : new ≡ r = cc in (old, rw here there, subst (IsLike old) is like)) (λ _ e. (r, e, like_itself r));
  after = λ g q e. by_address (λ found. (r : RealmRecord) × (found ≡ Some r) × IsLike q r) g rd (Some new) (s.realm g)
      (λ here.
      let is : old ≡ q = let e : s.realm rd ≡ Some q = rw here at e in let f : Some old ≡ Some q = sym there ∙ e in cc in
      (new, refl, subst (λ o. IsLike o new) is like))
      (λ _. (q, e, like_itself q));
}

-- a realm's record is replaced by one like it
pub with_realm_sound : (s : State) (rd : ℕ) (old new : RealmRecord)
    → IsSound s → s.realm rd ≡ Some old → IsLike old new → IsSound (with_realm s rd new)
unfolding has_tag
with_realm_sound s rd old new sound there like =
    let t : State = with_realm s rd new in
    let realms : AreLikeRealms s t = like_realms s rd old new there like in
    record {
      outside = sound.outside;
      realms = record {
        tagged = λ g. by_address (λ found. is_some found ≡ has_tag s g Rd) g rd (Some new) (s.realm g)
            (λ here. rw here (sym (ap is_some there) ∙ sound.realms.tagged rd)) (λ _. sound.realms.tagged g);
        spaces = λ g r e. let q = realms.before g r e in space_of_like q.0 r q.2 (sound.realms.spaces g q.0 q.1);
        measured = λ g r e. let q = realms.before g r e in q.2.measured ∙ sound.realms.measured g q.0 q.1;
        apart = λ g h r p e f same. let q = realms.before g r e in let o = realms.before h p f in
            sound.realms.apart g h q.0 o.0 q.1 o.1 (sym q.2.vmid ∙ same ∙ o.2.vmid);
      };
      recs = recs_kept s t refl (λ _. refl) (λ _ _ _ has. has) (λ _ has. has)
          (λ g c r _ e. let q = realms.before c.owner r e in (q.0, q.1, q.2.width)) sound.recs;
      tables = tables_kept s t refl realms (λ _ _ _ _ _ has. has) sound.tables;
      leaves = leaves_kept s t refl refl realms (λ _ _ _ _ _ _ has. has) sound.leaves;
    }
