-- A table is put in below an entry, or taken out.
use Rattle.rmm_laws.proofs.SoundCommon.{◌+◌, ◌/◌, ◌==◌, ◌∙◌, ◌≡◌, ◌≤◌, Assigned, Bool, Entry, IsLeafOf, IsSound, IsTrue, None, Option, RealmRecord, Ripas, Rtt, Some, State, Unassigned, UnassignedNs, ap, arith, both_ways, eq-eqb, false, false_from_ne_true, has_tag, if◌then◌else◌, is_some, refl, subst, suc, sym, true, ℕ}
use Rattle.std.proofs.Common.{◌||◌, add-one}
use Rattle.rmm_spec.specs.Update.{with_table, without_table, is_same_entry}
use Rattle.rmm_spec.specs.Sound.{IsTableOf}
use Rattle.rmm_spec.specs.Applicable.{IsVacant}
use Rattle.rmm_laws.proofs.Cases.{by_spot, nothing_there, spot_hit, spot_level, some_either, left_of, by_two}
use Rattle.rmm_laws.proofs.Kept.{realms_kept, recs_kept}
use Rattle.rmm_laws.proofs.Spaces.{copies_fit}
use Rattle.lemmas.proofs.Options.{none_of}

-- an entry that keeps no table in use names no page
vacant_unassigned : (e : Entry) (ripas : Ripas) (granule : ℕ) → IsVacant e → e ≡ Assigned ripas granule → ⊥
vacant_unassigned (Unassigned old) ripas granule vacant same = cc
vacant_unassigned UnassignedNs ripas granule vacant same = cc
vacant_unassigned _ ripas granule vacant same = vacant

-- a table that stands below another has that one above it
parent_there : (s : State) → IsSound s → (rd level number : ℕ) (r : RealmRecord) → s.realm rd ≡ Some r → r.start_level ≤ level
    → (found : Option ℕ) → s.table rd (suc level) number ≡ found → IsTrue (is_some found) → IsTrue (is_some (s.table rd level (number / 512)))
parent_there s sound rd level number r realm above None at there = both_ways there refl
parent_there s sound rd level number r realm above (Some granule) at there = sound.tables.below rd level number granule r at realm above

-- one realm stands at an address
one_realm : (s : State) (rd other : ℕ) (r q : RealmRecord) → s.realm rd ≡ Some r → other ≡ rd → s.realm other ≡ Some q → r ≡ q
one_realm s rd other r q realm here at = let e : s.realm rd ≡ Some q = rw here at at in let f : Some r ≡ Some q = sym realm ∙ e in cc

-- What is needed where a table is put in: a leaf that keeps no page, in the place of which it stands, and a granule that is
-- no table yet.
pub record CanPutTable (s : State) (rd up number granule : ℕ) (entry : Entry) (r : RealmRecord) : Type 0 where
  pub realm : s.realm rd ≡ Some r
  pub above : r.start_level ≤ up
  pub place : IsTableOf r (suc up) number
  pub tag : IsTrue (has_tag s granule Rtt)
  pub fresh : (other l n held : ℕ) → s.table other l n ≡ Some held → (held == granule) ≡ false
  pub leaf : s.leaf rd up number ≡ Some entry
  pub vacant : IsVacant entry

-- an entry of the table is a leaf, one that is replaced by it is a link, and another is what it was
complete_put : (own linked : Bool) (granule : ℕ) (table below : Option ℕ) (new : Entry) (leaf : Option Entry)
    → (IsTrue (is_some table) → IsTrue (is_some leaf || is_some below)) → IsTrue (is_some (if own then Some granule else table))
    → IsTrue (is_some (if own then Some new else (if linked then None else leaf)) || is_some (if linked then Some granule else below))
complete_put true linked granule table below new leaf old there = refl
complete_put false true granule table below new leaf old there = refl
complete_put false false granule table below new leaf old there = old there

-- a table is made
pub put_table_sound : (s : State) (rd up number granule : ℕ) (entry : Entry) (r : RealmRecord) → IsSound s
    → CanPutTable s rd up number granule entry r → IsSound (with_table s rd (suc up) number granule entry)
unfolding has_tag
put_table_sound s rd up number granule entry r sound can =
    let t : State = with_table s rd (suc up) number granule entry in
    let own : ℕ → ℕ → ℕ → Bool = λ other l n. is_same_entry rd (suc up) number other l n in
    let next : (other l n : ℕ) → own other (l + 1) n ≡ own other (suc l) n = λ other l n. ap (λ m. own other m n) (add-one l) in
    let unlinked : s.table rd (suc up) number ≡ None = sound.leaves.unlinked rd up number entry can.leaf in
    let page_was : (a l n page : ℕ) (ripas : Ripas) → t.leaf a l n ≡ Some (Assigned ripas page) → s.leaf a l n ≡ Some (Assigned ripas page) =
    λ a l n page ripas. by_two (λ found. found ≡ Some (Assigned ripas page) → s.leaf a l n ≡ Some (Assigned ripas page))
    (own a l (n / 512)) (own a (l + 1) n) (Some entry) None (s.leaf a l n)
    (λ _ same. absurd (let is : entry ≡ Assigned ripas page = cc in vacant_unassigned entry ripas page can.vacant is))
    (λ _ _ none. nothing_there refl none) (λ _ _ at. at) in
    record {
      outside = sound.outside;
      realms = realms_kept s t refl (λ _. refl) sound.realms;
      recs = recs_kept s t refl (λ _. refl) (λ _ _ _ has. has) (λ _ has. has) (λ _ _ q _ at. (q, at, refl)) sound.recs;
      tables = record {
        roots = λ other q at. by_spot (λ found. found ≡ Some q.root) rd
            (suc up) number other q.start_level 0 (Some granule) (s.table other q.start_level 0)
            (λ here level _. absurd (let same : r.start_level ≡ q.start_level =
            ap (λ (x : RealmRecord). x.start_level) (one_realm s rd other r q can.realm here at) in omega (arith, can.above)))
            (λ _. sound.tables.roots other q at);
        tagged = λ other l n held. by_spot (λ found. found ≡ Some held → IsTrue (has_tag s held Rtt)) rd
            (suc up) number other l n (Some granule) (s.table other l n)
            (λ _ _ _ same. let is : granule ≡ held = cc in rw (← is) can.tag) (λ _. sound.tables.tagged other l n held);
        owned = λ other l n held. by_spot (λ found. found ≡ Some held → (q : RealmRecord) × (s.realm other ≡ Some q) × IsTableOf q l n) rd
            (suc up) number other l n (Some granule) (s.table other l n)
            (λ here level first _. (r, rw here can.realm, rw (level, first) can.place)) (λ _. sound.tables.owned other l n held);
        below = λ other l n held q.
            by_spot (λ found. found ≡ Some held → s.realm other ≡ Some q → q.start_level ≤ l → IsTrue (is_some (t.table other l (n / 512)))) rd
            (suc up) number other (suc l) n (Some granule) (s.table other (suc l) n)
            (λ here level first _ _ _. some_either _ granule (s.table other l (n / 512))
            (let at : l ≡ up = omega arith in rw (here, at, first) (sound.leaves.placed rd up number entry can.leaf)))
            (λ _ e at under. some_either _ granule (s.table other l (n / 512)) (sound.tables.below other l n held q e at under));
        apart = λ a l n b m k held.
            by_spot (λ found. found ≡ Some held → t.table b m k ≡ Some held → (a ≡ b) × (l ≡ m) × (n ≡ k)) rd
            (suc up) number a l n (Some granule) (s.table a l n)
            (λ here level first same. by_spot (λ found. found ≡ Some held → (a ≡ b) × (l ≡ m) × (n ≡ k)) rd
            (suc up) number b m k (Some granule) (s.table b m k)
            (λ too level_too first_too _. (here ∙ sym too, level ∙ sym level_too, first ∙ sym first_too))
            (λ _ other. let is : granule ≡ held = cc in both_ways (eq-eqb held granule (sym is)) (can.fresh b m k held other)))
            (λ _ other. by_spot (λ found. found ≡ Some held → (a ≡ b) × (l ≡ m) × (n ≡ k)) rd (suc up) number b m k (Some granule) (s.table b m k)
            (λ _ _ _ same. let is : granule ≡ held = cc in both_ways (eq-eqb held granule (sym is)) (can.fresh a l n held other))
            (λ _ too. sound.tables.apart a l n b m k held other too));
      };
      leaves = record {
        placed = λ other l n e. by_two (λ found. found ≡ Some e → IsTrue (is_some (t.table other l (n / 512))))
            (own other l (n / 512)) (own other (l + 1) n) (Some entry) None (s.leaf other l n)
            (λ hit _. rw hit refl) (λ _ _ none. nothing_there refl none)
            (λ _ _ at. some_either _ granule (s.table other l (n / 512)) (sound.leaves.placed other l n e at));
        unlinked = λ other l n e. by_two (λ found. found ≡ Some e → t.table other (suc l) n ≡ None)
            (own other l (n / 512)) (own other (l + 1) n) (Some entry) None (s.leaf other l n)
            (λ hit _. spot_hit rd (suc up) number other l (n / 512) hit (λ here level in_table.
            rw (spot_level rd (suc up) number other (suc l) n (λ same. omega arith))
            (none_of (s.table other (suc l) n) (false_from_ne_true _ (λ there.
            let realm : s.realm other ≡ Some r = rw here can.realm in
            let parent = parent_there s sound other l n r realm (omega (arith, can.above)) _ refl there in
            both_ways (rw (here, level, in_table) at parent) (ap is_some unlinked))))))
            (λ _ _ none. nothing_there refl none)
            (λ _ miss at. rw (sym (next other l n) ∙ miss) (sound.leaves.unlinked other l n e at));
        complete = λ other l n there.
            subst (λ linked. IsTrue (is_some (t.leaf other l n) || is_some (if linked then Some granule else s.table other (suc l) n)))
            (next other l n)
            (complete_put (own other l (n / 512)) (own other (l + 1) n) granule (s.table other l (n / 512))
            (s.table other (suc l) n) entry (s.leaf other l n) (sound.leaves.complete other l n) there);
        kinds = λ other l n e q. by_two (λ found. found ≡ Some e → s.realm other ≡ Some q → IsLeafOf e q l n)
            (own other l (n / 512)) (own other (l + 1) n) (Some entry) None (s.leaf other l n)
            (λ hit same at. spot_hit rd (suc up) number other l (n / 512) hit (λ here level in_table.
            let is : entry ≡ e = cc in
            let same_realm : r ≡ q = one_realm s rd other r q can.realm here at in
            rw (← is) (rw level (subst (λ x. IsLeafOf entry x (suc up) n) same_realm
            (copies_fit entry r (sound.realms.spaces rd r can.realm) up number n can.vacant can.above can.place.last in_table
            (sound.leaves.kinds rd up number entry r can.leaf can.realm))))))
            (λ _ _ none. nothing_there refl none) (λ _ _. sound.leaves.kinds other l n e q);
        pages = λ other l n page ripas at. sound.leaves.pages other l n page ripas (page_was other l n page ripas at);
        apart = λ a l n b m k page ripas ripas_too at too.
            sound.leaves.apart a l n b m k page ripas ripas_too (page_was a l n page ripas at) (page_was b m k page ripas_too too);
      };
    }

-- What is needed where a table is taken out: it has none below it, and an entry without a page fits where it was.
pub record CanTakeTable (s : State) (rd up number granule : ℕ) (entry : Entry) (r : RealmRecord) : Type 0 where
  pub realm : s.realm rd ≡ Some r
  pub above : r.start_level ≤ up
  pub there : s.table rd (suc up) number ≡ Some granule
  pub childless : (n : ℕ) → n / 512 ≡ number → s.table rd (suc (suc up)) n ≡ None
  pub vacant : IsVacant entry
  pub kind : IsLeafOf entry r up number

-- an entry of another table is what it was, and the one above the table is a leaf
complete_taken : (own linked : Bool) (table below : Option ℕ) (new : Entry) (leaf : Option Entry)
    → (IsTrue (is_some table) → IsTrue (is_some leaf || is_some below)) → IsTrue (is_some (if own then None else table))
    → IsTrue (is_some (if own then None else (if linked then Some new else leaf)) || is_some (if linked then None else below))
complete_taken true linked table below new leaf old there = both_ways there refl
complete_taken false true table below new leaf old there = refl
complete_taken false false table below new leaf old there = old there

-- a table is gone with its entries
pub taken_table_sound : (s : State) (rd up number granule : ℕ) (entry : Entry) (r : RealmRecord) → IsSound s
    → CanTakeTable s rd up number granule entry r → IsSound (without_table s rd (suc up) number entry)
unfolding has_tag
taken_table_sound s rd up number granule entry r sound can =
    let t : State = without_table s rd (suc up) number entry in
    let own : ℕ → ℕ → ℕ → Bool = λ other l n. is_same_entry rd (suc up) number other l n in
    let next : (other l n : ℕ) → own other (l + 1) n ≡ own other (suc l) n = λ other l n. ap (λ m. own other m n) (add-one l) in
    let table : (a l n held : ℕ) → t.table a l n ≡ Some held → s.table a l n ≡ Some held =
    λ a l n held at. (left_of (own a l n) (s.table a l n) held at).1 in
    let page_was : (a l n page : ℕ) (ripas : Ripas) → t.leaf a l n ≡ Some (Assigned ripas page) → s.leaf a l n ≡ Some (Assigned ripas page) =
    λ a l n page ripas. by_two (λ found. found ≡ Some (Assigned ripas page) → s.leaf a l n ≡ Some (Assigned ripas page))
    (own a l (n / 512)) (own a (l + 1) n) None (Some entry) (s.leaf a l n)
    (λ _ none. nothing_there refl none)
    (λ _ _ same. absurd (let is : entry ≡ Assigned ripas page = cc in vacant_unassigned entry ripas page can.vacant is)) (λ _ _ at. at) in
    record {
      outside = sound.outside;
      realms = realms_kept s t refl (λ _. refl) sound.realms;
      recs = recs_kept s t refl (λ _. refl) (λ _ _ _ has. has) (λ _ has. has) (λ _ _ q _ at. (q, at, refl)) sound.recs;
      tables = record {
        roots = λ other q at. by_spot (λ found. found ≡ Some q.root) rd (suc up) number other q.start_level 0 None (s.table other q.start_level 0)
            (λ here level _. absurd (let same : r.start_level ≡ q.start_level =
            ap (λ (x : RealmRecord). x.start_level) (one_realm s rd other r q can.realm here at) in omega (arith, can.above)))
            (λ _. sound.tables.roots other q at);
        tagged = λ other l n held e. sound.tables.tagged other l n held (table other l n held e);
        owned = λ other l n held e. sound.tables.owned other l n held (table other l n held e);
        below = λ other l n held q e at under. by_spot (λ found. IsTrue (is_some found)) rd
            (suc up) number other l (n / 512) None (s.table other l (n / 512))
            (λ here level in_table.
            let none : s.table other (suc l) n ≡ None = rw (here, level) (can.childless n in_table) in
            nothing_there none (table other (suc l) n held e))
            (λ _. sound.tables.below other l n held q (table other (suc l) n held e) at under);
        apart = λ a l n b m k held e f. sound.tables.apart a l n b m k held (table a l n held e) (table b m k held f);
      };
      leaves = record {
        placed = λ other l n e. by_two (λ found. found ≡ Some e → IsTrue (is_some (t.table other l (n / 512))))
            (own other l (n / 512)) (own other (l + 1) n) None (Some entry) (s.leaf other l n)
            (λ _ none. nothing_there refl none)
            (λ miss hit _. rw miss (spot_hit rd (suc up) number other (l + 1) n hit (λ here level first.
            let at : l ≡ up = omega arith in rw (here, at, first) (sound.tables.below rd up number granule r can.there can.realm can.above))))
            (λ miss _ at. rw miss (sound.leaves.placed other l n e at));
        unlinked = λ other l n e. by_two (λ found. found ≡ Some e → t.table other (suc l) n ≡ None)
            (own other l (n / 512)) (own other (l + 1) n) None (Some entry) (s.leaf other l n)
            (λ _ none. nothing_there refl none)
            (λ _ hit _. rw (sym (next other l n) ∙ hit) refl)
            (λ _ miss at. rw (sym (next other l n) ∙ miss) (sound.leaves.unlinked other l n e at));
        complete = λ other l n there.
            subst (λ linked. IsTrue (is_some (t.leaf other l n) || is_some (if linked then None else s.table other (suc l) n))) (next other l n)
            (complete_taken (own other l (n / 512)) (own other (l + 1) n) (s.table other l (n / 512))
            (s.table other (suc l) n) entry (s.leaf other l n) (sound.leaves.complete other l n) there);
        kinds = λ other l n e q. by_two (λ found. found ≡ Some e → s.realm other ≡ Some q → IsLeafOf e q l n)
            (own other l (n / 512)) (own other (l + 1) n) None (Some entry) (s.leaf other l n)
            (λ _ none. nothing_there refl none)
            (λ _ hit same at. spot_hit rd (suc up) number other (l + 1) n hit (λ here level first.
            let is : entry ≡ e = cc in
            let up_here : l ≡ up = omega arith in
            let same_realm : r ≡ q = one_realm s rd other r q can.realm here at in
            rw (← is) (rw (up_here, first) (subst (λ x. IsLeafOf entry x up number) same_realm can.kind))))
            (λ _ _. sound.leaves.kinds other l n e q);
        pages = λ other l n page ripas at. sound.leaves.pages other l n page ripas (page_was other l n page ripas at);
        apart = λ a l n b m k page ripas ripas_too at too.
            sound.leaves.apart a l n b m k page ripas ripas_too (page_was a l n page ripas at) (page_was b m k page ripas_too too);
      };
    }
