-- A REC is put in at a granule, or taken out.
use Rattle.rmm_laws.proofs.SoundCommon.{◌==◌, ◌∙◌, ◌≡◌, Data, IsRequest, IsSound, IsTrue, None, Rd, Rec, RecAux, RecRecord, Rtt, Some, State, Tag, Undelegated, both_ways, eq-eqb, false, granule_from_tag, has_tag, is_some, refl, runs_on, sym, tag-has_tag, with_tag, ℕ}
use Rattle.rmm_spec.specs.declared.tag.Tag.TheVariants.{Delegated}
use Rattle.rmm_spec.specs.State.{RipasChange}
use Rattle.rmm_spec.specs.Update.{with_rec, without_rec}
use Rattle.rmm_spec.specs.Sound.{has_aux}
use Rattle.rmm_laws.proofs.Cases.{by_address, nothing_there}
use Rattle.rmm_laws.proofs.Kept.{same_realms, realms_kept, tables_kept, leaves_kept}
use Rattle.rmm_laws.proofs.Tags.{AreOther, has_tag-here, has_tag-elsewhere, has_tag-beside, has_tag-gone}

-- What a REC must be where it is put in: one of a realm, idle, and with two auxiliary granules that no other has.
pub record CanBePut (s : State) (a : ℕ) (c : RecRecord) : Type 0 where
  pub tag : IsTrue (has_tag s a Delegated)
  pub owned : IsTrue (has_tag s c.owner Rd)
  pub aux0 : IsTrue (has_tag s c.aux0 RecAux)
  pub aux1 : IsTrue (has_tag s c.aux1 RecAux)
  pub two : (c.aux0 == c.aux1) ≡ false
  pub unshared : (g x : ℕ) → IsTrue (has_aux x (Some c)) → has_aux x (s.rec g) ≡ false
  pub cpu : c.cpu ≡ None
  pub request : c.request ≡ None
  pub pending : c.pending ≡ None

-- a REC is made
pub put_rec_sound : (s : State) (a : ℕ) (c : RecRecord) → IsSound s → CanBePut s a c → IsSound (with_rec (with_tag s a Rec) a c)
unfolding has_tag
put_rec_sound s a c sound can =
    let t : State = with_rec (with_tag s a Rec) a c in
    let was : s.tag a ≡ Delegated = tag-has_tag s a Delegated can.tag in
    let kept : (g : ℕ) (tag : Tag) → AreOther Delegated tag → AreOther Rec tag → has_tag t g tag ≡ has_tag s g tag =
    λ g tag had gets. has_tag-beside s a g Rec tag (rw was had) gets in
    record {
      outside = λ g none. by_address (λ tag. tag ≡ Undelegated) g a Rec (s.tag g)
          (λ here. both_ways (rw here (granule_from_tag s a Delegated can.tag)) none) (λ _. sound.outside g none);
      realms = realms_kept s t refl (λ g. kept g Rd refl refl) sound.realms;
      recs = record {
        tagged = λ g. by_address (λ found. is_some found ≡ has_tag t g Rec) g a (Some c) (s.rec g)
            (λ here. rw here (sym (has_tag-here s a Rec (granule_from_tag s a Delegated can.tag))))
            (λ apart. sound.recs.tagged g ∙ sym (has_tag-elsewhere s a g Rec Rec apart));
        owned = λ g d. by_address (λ found. found ≡ Some d → IsTrue (has_tag t d.owner Rd)) g a (Some c) (s.rec g)
            (λ here e. let is : c ≡ d = cc in rw (← is) (kept c.owner Rd refl refl ∙ can.owned))
            (λ _ e. kept d.owner Rd refl refl ∙ sound.recs.owned g d e);
        aux0 = λ g d. by_address (λ found. found ≡ Some d → IsTrue (has_tag t d.aux0 RecAux)) g a (Some c) (s.rec g)
            (λ here e. let is : c ≡ d = cc in rw (← is) (kept c.aux0 RecAux refl refl ∙ can.aux0))
            (λ _ e. kept d.aux0 RecAux refl refl ∙ sound.recs.aux0 g d e);
        aux1 = λ g d. by_address (λ found. found ≡ Some d → IsTrue (has_tag t d.aux1 RecAux)) g a (Some c) (s.rec g)
            (λ here e. let is : c ≡ d = cc in rw (← is) (kept c.aux1 RecAux refl refl ∙ can.aux1))
            (λ _ e. kept d.aux1 RecAux refl refl ∙ sound.recs.aux1 g d e);
        two = λ g d. by_address (λ found. found ≡ Some d → (d.aux0 == d.aux1) ≡ false) g a (Some c) (s.rec g)
            (λ here e. let is : c ≡ d = cc in rw (← is) can.two) (λ _. sound.recs.two g d);
        apart = λ g h x.
            by_address (λ found. IsTrue (has_aux x found) → IsTrue (has_aux x (t.rec h)) → g ≡ h) g a (Some c) (s.rec g)
            (λ here. by_address (λ found. IsTrue (has_aux x (Some c)) → IsTrue (has_aux x found) → g ≡ h) h a (Some c) (s.rec h)
            (λ too _ _. here ∙ sym too) (λ _ has other. both_ways other (can.unshared h x has)))
            (λ _. by_address (λ found. IsTrue (has_aux x (s.rec g)) → IsTrue (has_aux x found) → g ≡ h) h a (Some c) (s.rec h)
            (λ _ other has. both_ways other (can.unshared g x has)) (λ _. sound.recs.apart g h x));
        alone = λ g h cpu.
            by_address (λ found. IsTrue (runs_on cpu found) → IsTrue (runs_on cpu (t.rec h)) → g ≡ h) g a (Some c) (s.rec g)
            (λ _ runs. both_ways runs (rw can.cpu refl))
            (λ _. by_address (λ found. IsTrue (runs_on cpu (s.rec g)) → IsTrue (runs_on cpu found) → g ≡ h) h a (Some c) (s.rec h)
            (λ _ _ runs. both_ways runs (rw can.cpu refl)) (λ _. sound.recs.alone g h cpu));
        running = λ g d p. by_address (λ found. found ≡ Some d → d.pending ≡ Some p → IsTrue (is_some d.cpu)) g a (Some c) (s.rec g)
            (λ here e. let is : c ≡ d = cc in rw (← is) (nothing_there can.pending)) (λ _. sound.recs.running g d p);
        asked = λ g d. by_address (λ found. found ≡ Some d → d.pending ≡ Some RipasChange → IsTrue (is_some d.request)) g a (Some c) (s.rec g)
            (λ here e. let is : c ≡ d = cc in rw (← is) (nothing_there can.pending)) (λ _. sound.recs.asked g d);
        requests = λ g d r q. by_address
            (λ found. found ≡ Some d → s.realm d.owner ≡ Some r → d.request ≡ Some q → IsRequest r q) g a (Some c) (s.rec g)
            (λ here e. let is : c ≡ d = cc in rw (← is) (λ _. nothing_there can.request)) (λ _. sound.recs.requests g d r q);
      };
      tables = tables_kept s t refl (same_realms s t refl) (λ _ _ _ granule _ has. kept granule Rtt refl refl ∙ has) sound.tables;
      leaves = leaves_kept s t refl refl (same_realms s t refl) (λ _ _ _ granule _ _ has. kept granule Data refl refl ∙ has) sound.leaves;
    }

-- a REC is gone
pub taken_rec_sound : (s : State) (a : ℕ) → IsSound s → IsTrue (has_tag s a Rec) → IsSound (without_rec (with_tag s a Delegated) a)
unfolding has_tag
taken_rec_sound s a sound tag =
    let t : State = without_rec (with_tag s a Delegated) a in
    let was : s.tag a ≡ Rec = tag-has_tag s a Rec tag in
    let kept : (g : ℕ) (asked : Tag) → AreOther Rec asked → AreOther Delegated asked → has_tag t g asked ≡ has_tag s g asked =
    λ g asked had gets. has_tag-beside s a g Delegated asked (rw was had) gets in
    let before : (g : ℕ) (c : RecRecord) → t.rec g ≡ Some c → s.rec g ≡ Some c =
    λ g c. by_address (λ found. found ≡ Some c → s.rec g ≡ Some c) g a None (s.rec g) (λ _ none. nothing_there refl none) (λ _ e. e) in
    record {
      outside = λ g none. by_address (λ found. found ≡ Undelegated) g a Delegated (s.tag g)
          (λ here. both_ways (rw here (granule_from_tag s a Rec tag)) none) (λ _. sound.outside g none);
      realms = realms_kept s t refl (λ g. kept g Rd refl refl) sound.realms;
      recs = record {
        tagged = λ g. by_address (λ found. is_some found ≡ has_tag t g Rec) g a None (s.rec g)
            (λ here. rw here (sym (has_tag-gone s a Delegated Rec refl)))
            (λ apart. sound.recs.tagged g ∙ sym (has_tag-elsewhere s a g Delegated Rec apart));
        owned = λ g c e. kept c.owner Rd refl refl ∙ sound.recs.owned g c (before g c e);
        aux0 = λ g c e. kept c.aux0 RecAux refl refl ∙ sound.recs.aux0 g c (before g c e);
        aux1 = λ g c e. kept c.aux1 RecAux refl refl ∙ sound.recs.aux1 g c (before g c e);
        two = λ g c e. sound.recs.two g c (before g c e);
        apart = λ g h x.
            by_address (λ found. IsTrue (has_aux x found) → IsTrue (has_aux x (t.rec h)) → g ≡ h) g a None (s.rec g) (λ _ bad. both_ways bad refl)
            (λ _. by_address (λ found. IsTrue (has_aux x (s.rec g)) → IsTrue (has_aux x found) → g ≡ h) h a None (s.rec h)
            (λ _ _ bad. both_ways bad refl) (λ _. sound.recs.apart g h x));
        alone = λ g h cpu.
            by_address (λ found. IsTrue (runs_on cpu found) → IsTrue (runs_on cpu (t.rec h)) → g ≡ h) g a None (s.rec g) (λ _ bad. both_ways bad refl)
            (λ _. by_address (λ found. IsTrue (runs_on cpu (s.rec g)) → IsTrue (runs_on cpu found) → g ≡ h) h a None (s.rec h)
            (λ _ _ bad. both_ways bad refl) (λ _. sound.recs.alone g h cpu));
        running = λ g c p e. sound.recs.running g c p (before g c e);
        asked = λ g c e. sound.recs.asked g c (before g c e);
        requests = λ g c r q e. sound.recs.requests g c r q (before g c e);
      };
      tables = tables_kept s t refl (same_realms s t refl) (λ _ _ _ granule _ has. kept granule Rtt refl refl ∙ has) sound.tables;
      leaves = leaves_kept s t refl refl (same_realms s t refl) (λ _ _ _ granule _ _ has. kept granule Data refl refl ∙ has) sound.leaves;
    }

-- a REC's tag is given before those of its auxiliary granules, or after them
pub tags_swapped : (s : State) (rec aux0 aux1 : ℕ) → (rec == aux0) ≡ false → (rec == aux1) ≡ false → (g : ℕ)
    → (with_tag (with_tag (with_tag s aux0 RecAux) aux1 RecAux) rec Rec).tag g
    ≡ (with_tag (with_tag (with_tag s rec Rec) aux0 RecAux) aux1 RecAux).tag g
tags_swapped s rec aux0 aux1 apart0 apart1 g =
    by_address (λ tag. tag ≡ (with_tag (with_tag (with_tag s rec Rec) aux0 RecAux) aux1 RecAux).tag g) g rec Rec
    ((with_tag (with_tag s aux0 RecAux) aux1 RecAux).tag g)
    (λ here. rw here (rw (apart0, apart1, eq-eqb rec rec refl) refl)) (λ apart. rw apart refl)
