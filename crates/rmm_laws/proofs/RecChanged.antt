-- A REC's record is replaced, put in or taken out.
use Rattle.rmm_laws.proofs.SoundCommon.{◌==◌, ◌∙◌, ◌≡◌, IsRequest, IsSound, IsTrue, Rd, RealmRecord, Rec, RecAux, RecRecord, Request, Some, State, ap, both_ways, false, has_tag, is_some, refl, runs_on, sym, ℕ}
use Rattle.rmm_spec.specs.State.{Pending, RipasChange}
use Rattle.rmm_spec.specs.Update.{with_rec}
use Rattle.rmm_spec.specs.Sound.{has_aux}
use Rattle.rmm_laws.proofs.Cases.{by_address}
use Rattle.rmm_laws.proofs.Kept.{same_realms, realms_kept, tables_kept, leaves_kept}

-- What a REC's record must say where it is put in the place of another: it is of the same realm, with the same auxiliary
-- granules, and alone on its CPU.
pub record CanStandFor (s : State) (a : ℕ) (old new : RecRecord) : Type 0 where
  pub there : s.rec a ≡ Some old
  pub owner : new.owner ≡ old.owner
  pub aux0 : new.aux0 ≡ old.aux0
  pub aux1 : new.aux1 ≡ old.aux1
  pub alone : (g cpu : ℕ) → IsTrue (runs_on cpu (Some new)) → (g == a) ≡ false → runs_on cpu (s.rec g) ≡ false
  pub running : (p : Pending) → new.pending ≡ Some p → IsTrue (is_some new.cpu)
  pub asked : new.pending ≡ Some RipasChange → IsTrue (is_some new.request)
  pub requests : (r : RealmRecord) (q : Request) → s.realm old.owner ≡ Some r → new.request ≡ Some q → IsRequest r q

-- a record is replaced by one of the same realm and auxiliary granules
pub with_rec_sound : (s : State) (a : ℕ) (old new : RecRecord) → IsSound s → CanStandFor s a old new → IsSound (with_rec s a new)
unfolding has_tag
with_rec_sound s a old new sound can =
    let t : State = with_rec s a new in
    let same_aux : (x g : ℕ) → has_aux x (t.rec g) ≡ has_aux x (s.rec g) = λ x g.
    by_address (λ found. has_aux x found ≡ has_aux x (s.rec g)) g a (Some new) (s.rec g)
    (λ here. rw (here, can.there) (rw (can.aux0, can.aux1) refl)) (λ _. refl) in
    record {
      outside = sound.outside;
      realms = realms_kept s t refl (λ _. refl) sound.realms;
      recs = record {
        tagged = λ g. by_address (λ found. is_some found ≡ has_tag s g Rec) g a (Some new) (s.rec g)
            (λ here. rw here (sym (ap is_some can.there) ∙ sound.recs.tagged a)) (λ _. sound.recs.tagged g);
        owned = λ g. by_address (λ found. (c : RecRecord) → found ≡ Some c → IsTrue (has_tag s c.owner Rd)) g a (Some new) (s.rec g)
            (λ here c e. let is : new ≡ c = cc in rw (← is) (rw can.owner (sound.recs.owned a old can.there))) (λ _. sound.recs.owned g);
        aux0 = λ g. by_address (λ found. (c : RecRecord) → found ≡ Some c → IsTrue (has_tag s c.aux0 RecAux)) g a (Some new) (s.rec g)
            (λ here c e. let is : new ≡ c = cc in rw (← is) (rw can.aux0 (sound.recs.aux0 a old can.there))) (λ _. sound.recs.aux0 g);
        aux1 = λ g. by_address (λ found. (c : RecRecord) → found ≡ Some c → IsTrue (has_tag s c.aux1 RecAux)) g a (Some new) (s.rec g)
            (λ here c e. let is : new ≡ c = cc in rw (← is) (rw can.aux1 (sound.recs.aux1 a old can.there))) (λ _. sound.recs.aux1 g);
        two = λ g. by_address (λ found. (c : RecRecord) → found ≡ Some c → (c.aux0 == c.aux1) ≡ false) g a (Some new) (s.rec g)
            (λ here c e. let is : new ≡ c = cc in rw (← is) (rw (can.aux0, can.aux1) (sound.recs.two a old can.there))) (λ _. sound.recs.two g);
        apart = λ g h x e f. sound.recs.apart g h x (sym (same_aux x g) ∙ e) (sym (same_aux x h) ∙ f);
        alone = λ g h cpu.
            by_address (λ found. IsTrue (runs_on cpu found) → IsTrue (runs_on cpu (t.rec h)) → g ≡ h) g a (Some new) (s.rec g)
            (λ here. by_address (λ found. IsTrue (runs_on cpu (Some new)) → IsTrue (runs_on cpu found) → g ≡ h) h a (Some new) (s.rec h)
            (λ too _ _. here ∙ sym too) (λ apart runs other. both_ways other (can.alone h cpu runs apart)))
            (λ apart. by_address (λ found. IsTrue (runs_on cpu (s.rec g)) → IsTrue (runs_on cpu found) → g ≡ h) h a (Some new) (s.rec h)
            (λ too other runs. both_ways other (can.alone g cpu runs apart)) (λ _. sound.recs.alone g h cpu));
        running = λ g c p. by_address (λ found. found ≡ Some c → c.pending ≡ Some p → IsTrue (is_some c.cpu)) g a (Some new) (s.rec g)
            (λ here e. let is : new ≡ c = cc in rw (← is) (can.running p)) (λ _. sound.recs.running g c p);
        asked = λ g c. by_address (λ found. found ≡ Some c → c.pending ≡ Some RipasChange → IsTrue (is_some c.request)) g a (Some new) (s.rec g)
            (λ here e. let is : new ≡ c = cc in rw (← is) can.asked) (λ _. sound.recs.asked g c);
        requests = λ g c r q. by_address
            (λ found. found ≡ Some c → s.realm c.owner ≡ Some r → c.request ≡ Some q → IsRequest r q) g a (Some new) (s.rec g)
            (λ here e. let is : new ≡ c = cc in rw (← is) (rw can.owner (can.requests r q))) (λ _. sound.recs.requests g c r q);
      };
      tables = tables_kept s t refl (same_realms s t refl) (λ _ _ _ _ _ has. has) sound.tables;
      leaves = leaves_kept s t refl refl (same_realms s t refl) (λ _ _ _ _ _ _ has. has) sound.leaves;
    }
