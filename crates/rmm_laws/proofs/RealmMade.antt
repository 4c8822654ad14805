-- A realm is put in with its root, or taken out with its tables and leaves.
use Rattle.rmm_laws.proofs.SoundCommon.{◌/◌, ◌==◌, ◌∙◌, ◌≡◌, ◌≤◌, Assigned, Bool, Data, Entry, IsLeafOf, IsSound, IsTrue, None, Option, Rd, RealmRecord, Rec, RecAux, RecRecord, Ripas, Rtt, Some, State, Tag, Unassigned, UnassignedNs, Undelegated, ap, arith, both_ways, eq-eqb, false, false_from_ne_true, granule_from_tag, has_tag, if◌then◌else◌, is_some, nat_lt, refl, suc, sym, tag-has_tag, true, with_tag, ℕ}
use Rattle.std.proofs.Common.{◌||◌, length}
use Rattle.std.proofs.lemmas.Bool.{ne_eqb, or_right}
use Rattle.rmm_spec.specs.declared.tag.Ripas.TheVariants.{Empty}
use Rattle.rmm_spec.specs.declared.tag.Tag.TheVariants.{Delegated}
use Rattle.rmm_spec.specs.Update.{with_realm, without_realm, with_root, is_same_entry}
use Rattle.rmm_spec.specs.Lookup.{has_vmid, is_owned_by}
use Rattle.rmm_spec.specs.Change.{new_realm}
use Rattle.rmm_spec.specs.Step.Terms.{is_space}
use Rattle.rmm_spec.specs.Sound.{IsTableOf}
use Rattle.rmm_laws.proofs.Cases.{by_address, by_spot, nothing_there, spot_itself, spot_other, spot_level, at_itself, some_either, left_of, left_at}
use Rattle.rmm_laws.proofs.Kept.{recs_kept}
use Rattle.rmm_laws.proofs.Spaces.{root_is_table, root_leaf}
use Rattle.rmm_laws.proofs.Tags.{AreOther, has_tag-here, has_tag-elsewhere, has_tag-beside, has_tag-gone, has_tag-other, tags_apart}
use Rattle.lemmas.proofs.Options.{none_of}

-- What has no realm has no tables and leaves, so who has one is another.
pub record IsElsewhere (s : State) (rd : ℕ) : Type 0 where
  pub realm : (other : ℕ) (r : RealmRecord) → s.realm other ≡ Some r → (other == rd) ≡ false
  pub table : (other level number : ℕ) → IsTrue (is_some (s.table other level number)) → (other == rd) ≡ false
  pub leaf : (other level number : ℕ) (e : Entry) → s.leaf other level number ≡ Some e → (other == rd) ≡ false

-- a table that stands is of a realm that does
table_realm : (s : State) → IsSound s → (rd level number : ℕ) (found : Option ℕ) → s.table rd level number ≡ found → IsTrue (is_some found)
    → (r : RealmRecord) × (s.realm rd ≡ Some r)
table_realm s sound rd level number None at there = both_ways there refl
table_realm s sound rd level number (Some granule) at there = let owner = sound.tables.owned rd level number granule at in (owner.0, owner.1)

-- where no realm stands, nothing else of one does
pub all_elsewhere : (s : State) (rd : ℕ) → IsSound s → s.realm rd ≡ None → IsElsewhere s rd
all_elsewhere s rd sound none =
    let apart : (other : ℕ) (r : RealmRecord) → s.realm other ≡ Some r → (other == rd) ≡ false =
    λ other r at. ne_eqb other rd (λ same. let here : s.realm rd ≡ Some r = rw same at at in nothing_there none here) in
    let tabled : (other level number : ℕ) → IsTrue (is_some (s.table other level number)) → (other == rd) ≡ false =
    λ other level number there. let owner = table_realm s sound other level number _ refl there in apart other owner.0 owner.1 in
    record {
      realm = apart;
      table = tabled;
      leaf = λ other level number e at. tabled other level (number / 512) (sound.leaves.placed other level number e at);
    }

-- What is needed where a realm is put in: a granule for it, a root that is no table yet, and a VMID of its own.
pub record CanBeginRealm (s : State) (rd root width level vmid : ℕ) : Type 0 where
  pub rd_tag : IsTrue (has_tag s rd Delegated)
  pub root_tag : IsTrue (has_tag s root Rtt)
  pub fresh : (other l n granule : ℕ) → s.table other l n ≡ Some granule → (granule == root) ≡ false
  pub space : IsTrue (is_space width level)
  pub unused : (g : ℕ) → has_vmid vmid (s.realm g) ≡ false

-- an entry of a root that was just made
abbrev root_entry : ℕ → Entry
root_entry n = if nat_lt n 256 then Unassigned Empty else UnassignedNs

-- it names no page
root_unassigned : (lower : Bool) (ripas : Ripas) (granule : ℕ)
    → Some (if lower then Unassigned Empty else UnassignedNs) ≡ Some (Assigned ripas granule) → ⊥
root_unassigned true ripas granule same = let bad : Some (Unassigned Empty) ≡ Some (Assigned ripas granule) = same in cc
root_unassigned false ripas granule same = let bad : Some UnassignedNs ≡ Some (Assigned ripas granule) = same in cc

-- an entry of the root is a leaf, and another was a leaf or a link
complete_by : (own linked : Bool) (root : ℕ) (table below : Option ℕ) (new : Entry) (leaf : Option Entry)
    → (IsTrue (is_some table) → IsTrue (is_some leaf || is_some below))
    → IsTrue (is_some (if own then Some root else table))
    → IsTrue (is_some (if own then Some new else leaf) || is_some (if linked then Some root else below))
complete_by true linked root table below new leaf old there = refl
complete_by false true root table below new leaf old there = or_right (is_some leaf) true refl
complete_by false false root table below new leaf old there = old there

-- a realm is made
pub put_realm_sound : (s : State) (rd root width level vmid algo : ℕ) → IsSound s → CanBeginRealm s rd root width level vmid
    → IsSound (with_root (with_realm (with_tag s rd Rd) rd (new_realm root width level vmid algo)) rd level root)
unfolding has_tag
put_realm_sound s rd root width level vmid algo sound can =
    let new : RealmRecord = new_realm root width level vmid algo in
    let t : State = with_root (with_realm (with_tag s rd Rd) rd new) rd level root in
    let was : s.tag rd ≡ Delegated = tag-has_tag s rd Delegated can.rd_tag in
    let kept : (g : ℕ) (tag : Tag) → AreOther Delegated tag → AreOther Rd tag → has_tag t g tag ≡ has_tag s g tag =
    λ g tag had gets. has_tag-beside s rd g Rd tag (rw was had) gets in
    let others : IsElsewhere s rd =
    all_elsewhere s rd sound (none_of (s.realm rd) (sound.realms.tagged rd ∙ has_tag-other s rd Delegated Rd can.rd_tag refl)) in
    let own : t.realm rd ≡ Some new = at_itself rd (Some new) (s.realm rd) in
    let unused : (g : ℕ) (q : RealmRecord) → s.realm g ≡ Some q → q.vmid ≡ vmid → ⊥ =
    λ g q at same. both_ways (eq-eqb q.vmid vmid same) (sym (ap (has_vmid vmid) at) ∙ can.unused g) in
    record {
      outside = λ g none. by_address (λ tag. tag ≡ Undelegated) g rd Rd (s.tag g)
          (λ here. both_ways (rw here (granule_from_tag s rd Delegated can.rd_tag)) none) (λ _. sound.outside g none);
      realms = record {
        tagged = λ g. by_address (λ found. is_some found ≡ has_tag t g Rd) g rd (Some new) (s.realm g)
            (λ here. rw here (sym (has_tag-here s rd Rd (granule_from_tag s rd Delegated can.rd_tag))))
            (λ apart. sound.realms.tagged g ∙ sym (has_tag-elsewhere s rd g Rd Rd apart));
        spaces = λ g r. by_address (λ found. found ≡ Some r → IsTrue (is_space r.width r.start_level)) g rd (Some new) (s.realm g)
            (λ _ e. let is : new ≡ r = cc in rw (← is) can.space) (λ _. sound.realms.spaces g r);
        measured = λ g r. by_address (λ found. found ≡ Some r → length r.rems ≡ 4) g rd (Some new) (s.realm g)
            (λ _ e. let is : new ≡ r = cc in rw (← is) refl) (λ _. sound.realms.measured g r);
        apart = λ g h r q.
            by_address (λ found. found ≡ Some r → t.realm h ≡ Some q → r.vmid ≡ q.vmid → g ≡ h) g rd (Some new) (s.realm g)
            (λ here e. by_address (λ found. found ≡ Some q → r.vmid ≡ q.vmid → g ≡ h) h rd (Some new) (s.realm h)
            (λ too _ _. here ∙ sym too)
            (λ _ f same. absurd (let is : new ≡ r = cc in unused h q f (sym same ∙ sym (ap (λ (x : RealmRecord). x.vmid) is)))))
            (λ _ e. by_address (λ found. found ≡ Some q → r.vmid ≡ q.vmid → g ≡ h) h rd (Some new) (s.realm h)
            (λ _ f same. absurd (let is : new ≡ q = cc in unused g r e (same ∙ sym (ap (λ (x : RealmRecord). x.vmid) is))))
            (λ _ f. sound.realms.apart g h r q e f));
      };
      recs = recs_kept s t refl (λ g. kept g Rec refl refl)
          (λ g c at has. has_tag-elsewhere s rd c.owner Rd Rd (tags_apart s c.owner rd Rd Delegated has can.rd_tag refl) ∙ has)
          (λ g has. kept g RecAux refl refl ∙ has)
          (λ g c r at. by_address (λ found. found ≡ Some r → (q : RealmRecord) × (s.realm c.owner ≡ Some q) × (r.width ≡ q.width))
          c.owner rd (Some new) (s.realm c.owner)
          (λ here. both_ways (eq-eqb c.owner rd here) (tags_apart s c.owner rd Rd Delegated (sound.recs.owned g c at) can.rd_tag refl))
          (λ _ e. (r, e, refl)))
          sound.recs;
      tables = record {
        roots = λ other r. by_address (λ found. found ≡ Some r → t.table other r.start_level 0 ≡ Some r.root) other rd (Some new) (s.realm other)
            (λ here e. let is : new ≡ r = cc in rw (← is) (rw here (rw (spot_itself rd level 0) refl)))
            (λ apart e. rw (spot_other rd level 0 other r.start_level 0 apart) (sound.tables.roots other r e));
        tagged = λ other l n granule. by_spot (λ found. found ≡ Some granule → IsTrue (has_tag t granule Rtt))
            rd level 0 other l n (Some root) (s.table other l n)
            (λ _ _ _ e. let is : root ≡ granule = cc in rw (← is) (kept root Rtt refl refl ∙ can.root_tag))
            (λ _ e. kept granule Rtt refl refl ∙ sound.tables.tagged other l n granule e);
        owned = λ other l n granule. by_spot (λ found. found ≡ Some granule → (r : RealmRecord) × (t.realm other ≡ Some r) × IsTableOf r l n)
            rd level 0 other l n (Some root) (s.table other l n)
            (λ here at first _. (new, rw here own, root_is_table new can.space l n at first))
            (λ _ e. let owner = sound.tables.owned other l n granule e in (owner.0, rw (others.realm other owner.0 owner.1) owner.1, owner.2));
        below = λ other l n granule r.
            by_spot (λ found. found ≡ Some granule → t.realm other ≡ Some r → r.start_level ≤ l → IsTrue (is_some (t.table other l (n / 512))))
            rd level 0 other (suc l) n (Some root) (s.table other (suc l) n)
            (λ here at first _ realm under. absurd (
            let is : new ≡ r = let e : t.realm rd ≡ Some r = rw here at realm in let f : Some new ≡ Some r = sym own ∙ e in cc in
            let start : level ≡ r.start_level = ap (λ (x : RealmRecord). x.start_level) is in omega arith))
            (λ _ e realm under.
            let apart = others.table other (suc l) n (ap is_some e) in
            let there : s.realm other ≡ Some r = rw apart at realm in
            rw (spot_other rd level 0 other l (n / 512) apart) (sound.tables.below other l n granule r e there under));
        apart = λ a l n b m k granule.
            by_spot (λ found. found ≡ Some granule → t.table b m k ≡ Some granule → (a ≡ b) × (l ≡ m) × (n ≡ k))
            rd level 0 a l n (Some root) (s.table a l n)
            (λ here at first e. by_spot (λ found. found ≡ Some granule → (a ≡ b) × (l ≡ m) × (n ≡ k)) rd level 0 b m k (Some root) (s.table b m k)
            (λ too at_too first_too _. (here ∙ sym too, at ∙ sym at_too, first ∙ sym first_too))
            (λ _ f. let is : root ≡ granule = cc in both_ways (eq-eqb granule root (sym is)) (can.fresh b m k granule f)))
            (λ _ e. by_spot (λ found. found ≡ Some granule → (a ≡ b) × (l ≡ m) × (n ≡ k)) rd level 0 b m k (Some root) (s.table b m k)
            (λ _ _ _ f. let is : root ≡ granule = cc in both_ways (eq-eqb granule root (sym is)) (can.fresh a l n granule e))
            (λ _ f. sound.tables.apart a l n b m k granule e f));
      };
      leaves = record {
        placed = λ other l n e. by_spot (λ found. found ≡ Some e → IsTrue (is_some (t.table other l (n / 512)))) rd level 0 other l
            (n / 512) (Some (root_entry n)) (s.leaf other l n)
            (λ here at first _. rw (here, at, first) (rw (spot_itself rd level 0) refl))
            (λ _ at. some_either _ root (s.table other l (n / 512)) (sound.leaves.placed other l n e at));
        unlinked = λ other l n e. by_spot (λ found. found ≡ Some e → t.table other (suc l) n ≡ None) rd level 0 other l
            (n / 512) (Some (root_entry n)) (s.leaf other l n)
            (λ here at first _. rw (spot_level rd level 0 other (suc l) n (λ same. omega arith))
            (none_of (s.table other (suc l) n)
            (false_from_ne_true _ (λ there. both_ways (eq-eqb other rd here) (others.table other (suc l) n there)))))
            (λ _ at. rw (spot_other rd level 0 other (suc l) n (others.leaf other l n e at)) (sound.leaves.unlinked other l n e at));
        complete = λ other l n. complete_by (is_same_entry rd level 0 other l (n / 512))
            (is_same_entry rd level 0 other (suc l) n) root (s.table other l (n / 512)) (s.table other (suc l) n)
            (root_entry n) (s.leaf other l n) (sound.leaves.complete other l n);
        kinds = λ other l n e r. by_spot (λ found. found ≡ Some e → t.realm other ≡ Some r → IsLeafOf e r l n) rd level 0 other l
            (n / 512) (Some (root_entry n)) (s.leaf other l n)
            (λ here at first same realm.
            let is : new ≡ r = let f : t.realm rd ≡ Some r = rw here at realm in let g : Some new ≡ Some r = sym own ∙ f in cc in
            let entry : root_entry n ≡ e = cc in
            rw (← is) (rw (← entry) (root_leaf new can.space l n at)))
            (λ _ at realm.
            let there : s.realm other ≡ Some r = rw (others.leaf other l n e at) at realm in sound.leaves.kinds other l n e r at there);
        pages = λ other l n granule ripas. by_spot (λ found. found ≡ Some (Assigned ripas granule) → IsTrue (has_tag t granule Data))
            rd level 0 other l (n / 512) (Some (root_entry n)) (s.leaf other l n)
            (λ _ _ _ e. absurd (root_unassigned (nat_lt n 256) ripas granule e))
            (λ _ at. kept granule Data refl refl ∙ sound.leaves.pages other l n granule ripas at);
        apart = λ a l n b m k granule ripas ripas_too.
            by_spot (λ found. found ≡ Some (Assigned ripas granule) → t.leaf b m k ≡ Some (Assigned ripas_too granule) → (a ≡ b) × (l ≡ m) × (n ≡ k))
            rd level 0 a l (n / 512) (Some (root_entry n)) (s.leaf a l n)
            (λ _ _ _ e. absurd (root_unassigned (nat_lt n 256) ripas granule e))
            (λ _ at. by_spot (λ found. found ≡ Some (Assigned ripas_too granule) → (a ≡ b) × (l ≡ m) × (n ≡ k)) rd level 0 b m
            (k / 512) (Some (root_entry k)) (s.leaf b m k)
            (λ _ _ _ e. absurd (root_unassigned (nat_lt k 256) ripas_too granule e))
            (λ _ too. sound.leaves.apart a l n b m k granule ripas ripas_too at too));
      };
    }

-- an entry that is left is a leaf or a link, as it was
complete_left : (gone : Bool) (table below : Option ℕ) (leaf : Option Entry) → (IsTrue (is_some table) → IsTrue (is_some leaf || is_some below))
    → IsTrue (is_some (if gone then None else table)) → IsTrue (is_some (if gone then None else leaf) || is_some (if gone then None else below))
complete_left true table below leaf old there = both_ways there refl
complete_left false table below leaf old there = old there

-- a realm is gone with its tables and leaves
pub taken_realm_sound : (s : State) (rd : ℕ) → IsSound s → IsTrue (has_tag s rd Rd) → ((g : ℕ) → is_owned_by rd (s.rec g) ≡ false)
    → IsSound (without_realm (with_tag s rd Delegated) rd)
unfolding has_tag
taken_realm_sound s rd sound tag childless =
    let t : State = without_realm (with_tag s rd Delegated) rd in
    let was : s.tag rd ≡ Rd = tag-has_tag s rd Rd tag in
    let kept : (g : ℕ) (asked : Tag) → AreOther Rd asked → AreOther Delegated asked → has_tag t g asked ≡ has_tag s g asked =
    λ g asked had gets. has_tag-beside s rd g Delegated asked (rw was had) gets in
    let realm : (g : ℕ) (r : RealmRecord) → t.realm g ≡ Some r → ((g == rd) ≡ false) × (s.realm g ≡ Some r) =
    λ g r. left_of (g == rd) (s.realm g) r in
    let table : (g l n granule : ℕ) → t.table g l n ≡ Some granule → ((g == rd) ≡ false) × (s.table g l n ≡ Some granule) =
    λ g l n granule. left_of (g == rd) (s.table g l n) granule in
    let leaf : (g l n : ℕ) (e : Entry) → t.leaf g l n ≡ Some e → ((g == rd) ≡ false) × (s.leaf g l n ≡ Some e) =
    λ g l n e. left_of (g == rd) (s.leaf g l n) e in
    let owners : (g : ℕ) (c : RecRecord) → s.rec g ≡ Some c → (c.owner == rd) ≡ false = λ g c at. sym (ap (is_owned_by rd) at) ∙ childless g in
    record {
      outside = λ g none. by_address (λ found. found ≡ Undelegated) g rd Delegated (s.tag g)
          (λ here. both_ways (rw here (granule_from_tag s rd Rd tag)) none) (λ _. sound.outside g none);
      realms = record {
        tagged = λ g. by_address (λ found. is_some found ≡ has_tag t g Rd) g rd None (s.realm g)
            (λ here. rw here (sym (has_tag-gone s rd Delegated Rd refl)))
            (λ apart. sound.realms.tagged g ∙ sym (has_tag-elsewhere s rd g Delegated Rd apart));
        spaces = λ g r e. sound.realms.spaces g r (realm g r e).1;
        measured = λ g r e. sound.realms.measured g r (realm g r e).1;
        apart = λ g h r q e f. sound.realms.apart g h r q (realm g r e).1 (realm h q f).1;
      };
      recs = recs_kept s t refl (λ g. kept g Rec refl refl)
          (λ g c at has. has_tag-elsewhere s rd c.owner Delegated Rd (owners g c at) ∙ has)
          (λ g has. kept g RecAux refl refl ∙ has)
          (λ g c r at e. (r, (realm c.owner r e).1, refl))
          sound.recs;
      tables = record {
        roots = λ g r e. rw (realm g r e).0 (sound.tables.roots g r (realm g r e).1);
        tagged = λ g l n granule e. kept granule Rtt refl refl ∙ sound.tables.tagged g l n granule (table g l n granule e).1;
        owned = λ g l n granule e. let owner = sound.tables.owned g l n granule (table g l n granule e).1 in
            (owner.0, left_at (g == rd) (s.realm g) owner.0 (table g l n granule e).0 owner.1, owner.2);
        below = λ g l n granule r e f under. rw (realm g r f).0
            (sound.tables.below g l n granule r (table g (suc l) n granule e).1 (realm g r f).1 under);
        apart = λ a l n b m k granule e f. sound.tables.apart a l n b m k granule (table a l n granule e).1 (table b m k granule f).1;
      };
      leaves = record {
        placed = λ g l n e at. rw (leaf g l n e at).0 (sound.leaves.placed g l n e (leaf g l n e at).1);
        unlinked = λ g l n e at. rw (leaf g l n e at).0 (sound.leaves.unlinked g l n e (leaf g l n e at).1);
        complete = λ g l n there. complete_left (g == rd) (s.table g l (n / 512))
            (s.table g (suc l) n) (s.leaf g l n) (sound.leaves.complete g l n) there;
        kinds = λ g l n e r at f. sound.leaves.kinds g l n e r (leaf g l n e at).1 (realm g r f).1;
        pages = λ g l n granule ripas at. kept granule Data refl refl ∙ sound.leaves.pages g l n granule ripas (leaf g l n _ at).1;
        apart = λ a l n b m k granule ripas ripas_too at too.
            sound.leaves.apart a l n b m k granule ripas ripas_too (leaf a l n _ at).1 (leaf b m k _ too).1;
      };
    }
