-- Groups of what a sound state keeps, where a change leaves alone what they speak of.
use Rattle.rmm_laws.proofs.SoundCommon.{◌/◌, ◌∙◌, ◌≡◌, Assigned, Data, Entry, IsLeafOf, IsRequest, IsTrue, Option, Rd, RealmRecord, Rec, RecAux, RecRecord, Request, Ripas, Rtt, Some, State, ap, has_tag, is_some, refl, runs_on, suc, sym, ℕ}
use Rattle.std.proofs.Common.{length}
use Rattle.rmm_spec.specs.declared.entry.Entry.TheVariants.{Table}
use Rattle.rmm_spec.specs.Step.Terms.{is_space}
use Rattle.rmm_spec.specs.Sound.{AreRealms, AreRecs, AreTables, AreLeaves, has_aux}

-- ---- realms that agree in what does not change

-- one address space, root and VMID, and measurements as many
pub record IsLike (old new : RealmRecord) : Type 0 where
  pub width : new.width ≡ old.width
  pub start_level : new.start_level ≡ old.start_level
  pub vmid : new.vmid ≡ old.vmid
  pub root : new.root ≡ old.root
  pub measured : length new.rems ≡ length old.rems

-- a realm is like itself
pub like_itself : (r : RealmRecord) → IsLike r r
like_itself r = record { width = refl; start_level = refl; vmid = refl; root = refl; measured = refl }

-- realms stand at the same addresses, each like what stood there
pub record AreLikeRealms (s t : State) : Type 0 where
  pub before : (g : ℕ) (r : RealmRecord) → t.realm g ≡ Some r → (q : RealmRecord) × (s.realm g ≡ Some q) × IsLike q r
  pub after : (g : ℕ) (q : RealmRecord) → s.realm g ≡ Some q → (r : RealmRecord) × (t.realm g ≡ Some r) × IsLike q r

-- realms that are the same are alike
pub same_realms : (s t : State) → t.realm ≡ s.realm → AreLikeRealms s t
same_realms s t same = record {
  before = λ g r e. (r, sym (ap (λ m. m g) same) ∙ e, like_itself r);
  after = λ g q e. (q, ap (λ m. m g) same ∙ e, like_itself q);
}

-- what a REC asks for fits a realm of the same width
pub request_of_width : (q r : RealmRecord) (request : Request) → r.width ≡ q.width → IsRequest q request → IsRequest r request
request_of_width q r request same is = record {
  pages = is.pages;
  ordered = is.ordered;
  protected = rw same is.protected;
}

-- a leaf fits a realm of the same width
pub leaf_of_width : (e : Entry) (q r : RealmRecord) (level number : ℕ) → r.width ≡ q.width → IsLeafOf e q level number → IsLeafOf e r level number
leaf_of_width (Table granule) q r level number same is = is
leaf_of_width _ q r level number same is = rw same is

-- a root is that of a realm like the one that had it
pub root_of_like : (table : ℕ → ℕ → Option ℕ) (q r : RealmRecord)
    → IsLike q r → table q.start_level 0 ≡ Some q.root → table r.start_level 0 ≡ Some r.root
root_of_like table q r like root = ap (λ level. table level 0) like.start_level ∙ root ∙ ap Some (sym like.root)

-- an address space is one that a realm can have, where it is that of one
pub space_of_like : (q r : RealmRecord) → IsLike q r → IsTrue (is_space q.width q.start_level) → IsTrue (is_space r.width r.start_level)
space_of_like q r like space = rw (like.width, like.start_level) space

-- ---- groups

-- realms, where their records and the RD tags stay
pub realms_kept : (s t : State) → t.realm ≡ s.realm → ((g : ℕ) → has_tag t g Rd ≡ has_tag s g Rd) → AreRealms s → AreRealms t
realms_kept s t same rds old =
    let back : (g : ℕ) → t.realm g ≡ s.realm g = λ g. ap (λ m. m g) same in
    record {
      tagged = λ g. ap is_some (back g) ∙ old.tagged g ∙ sym (rds g);
      spaces = λ g r e. old.spaces g r (sym (back g) ∙ e);
      measured = λ g r e. old.measured g r (sym (back g) ∙ e);
      apart = λ g h r q e f. old.apart g h r q (sym (back g) ∙ e) (sym (back h) ∙ f);
    }

-- a REC's realm has the width that it had
abbrev pub KeepsWidths : State → State → Type 0
KeepsWidths s t = (g : ℕ) (c : RecRecord) (r : RealmRecord) → s.rec g ≡ Some c → t.realm c.owner ≡ Some r
    → (q : RealmRecord) × (s.realm c.owner ≡ Some q) × (r.width ≡ q.width)

-- RECs, where their records stay, and their tags and the widths of their realms
pub recs_kept : (s t : State) → t.rec ≡ s.rec → ((g : ℕ) → has_tag t g Rec ≡ has_tag s g Rec)
    → ((g : ℕ) (c : RecRecord) → s.rec g ≡ Some c → IsTrue (has_tag s c.owner Rd) → IsTrue (has_tag t c.owner Rd))
    → ((g : ℕ) → IsTrue (has_tag s g RecAux) → IsTrue (has_tag t g RecAux)) → KeepsWidths s t → AreRecs s → AreRecs t
recs_kept s t same recs rds auxes widths old =
    let is : (g : ℕ) → t.rec g ≡ s.rec g = λ g. ap (λ m. m g) same in
    let back : (g : ℕ) (c : RecRecord) → t.rec g ≡ Some c → s.rec g ≡ Some c = λ g c e. sym (is g) ∙ e in
    record {
      tagged = λ g. ap is_some (is g) ∙ old.tagged g ∙ sym (recs g);
      owned = λ g c e. rds g c (back g c e) (old.owned g c (back g c e));
      aux0 = λ g c e. auxes c.aux0 (old.aux0 g c (back g c e));
      aux1 = λ g c e. auxes c.aux1 (old.aux1 g c (back g c e));
      two = λ g c e. old.two g c (back g c e);
      apart = λ g h x e f. old.apart g h x (sym (ap (has_aux x) (is g)) ∙ e) (sym (ap (has_aux x) (is h)) ∙ f);
      alone = λ g h cpu e f. old.alone g h cpu (sym (ap (runs_on cpu) (is g)) ∙ e) (sym (ap (runs_on cpu) (is h)) ∙ f);
      running = λ g c p e. old.running g c p (back g c e);
      asked = λ g c e. old.asked g c (back g c e);
      requests = λ g c r q e f. let owner = widths g c r (back g c e) f in
          λ asks. request_of_width owner.0 r q owner.2 (old.requests g c owner.0 q (back g c e) owner.1 asks);
    }

-- tables, where they stay and realms are alike
pub tables_kept : (s t : State) → t.table ≡ s.table → AreLikeRealms s t
    → ((rd level number granule : ℕ) → s.table rd level number ≡ Some granule → IsTrue (has_tag s granule Rtt) → IsTrue (has_tag t granule Rtt))
    → AreTables s → AreTables t
tables_kept s t same like rtts old =
    let is : (rd level number : ℕ) → t.table rd level number ≡ s.table rd level number = λ rd level number. ap (λ m. m rd level number) same in
    record {
      roots = λ rd r e. let q = like.before rd r e in
          is rd r.start_level 0 ∙ root_of_like (s.table rd) q.0 r q.2 (old.roots rd q.0 q.1);
      tagged = λ rd level number granule e. rtts rd level number granule (sym (is rd level number) ∙ e)
          (old.tagged rd level number granule (sym (is rd level number) ∙ e));
      owned = λ rd level number granule e.
          let q = old.owned rd level number granule (sym (is rd level number) ∙ e) in
          let r = like.after rd q.0 q.1 in
          (r.0, r.1, record { below_root = rw r.2.start_level q.2.below_root; last = q.2.last; inside = rw r.2.width q.2.inside });
      below = λ rd level number granule r e f below_root.
          let q = like.before rd r f in
          ap is_some (is rd level (number / 512))
          ∙ old.below rd level number granule q.0 (sym (is rd (suc level) number) ∙ e) q.1 (rw q.2.start_level at below_root);
      apart = λ rd level number other l n granule e f.
          old.apart rd level number other l n granule (sym (is rd level number) ∙ e) (sym (is other l n) ∙ f);
    }

-- leaves, where they and the tables stay and realms are alike
pub leaves_kept : (s t : State) → t.table ≡ s.table → t.leaf ≡ s.leaf → AreLikeRealms s t
    → ((rd level number granule : ℕ) (ripas : Ripas)
    → s.leaf rd level number ≡ Some (Assigned ripas granule) → IsTrue (has_tag s granule Data) → IsTrue (has_tag t granule Data))
    → AreLeaves s → AreLeaves t
leaves_kept s t same_table same_leaf like pages old =
    let table_is : (rd level number : ℕ) → t.table rd level number ≡ s.table rd level number =
    λ rd level number. ap (λ m. m rd level number) same_table in
    let leaf_is : (rd level number : ℕ) → t.leaf rd level number ≡ s.leaf rd level number =
    λ rd level number. ap (λ m. m rd level number) same_leaf in
    record {
      placed = λ rd level number e at. ap is_some (table_is rd level (number / 512))
          ∙ old.placed rd level number e (sym (leaf_is rd level number) ∙ at);
      unlinked = λ rd level number e at. table_is rd (suc level) number ∙ old.unlinked rd level number e (sym (leaf_is rd level number) ∙ at);
      complete = λ rd level number there.
          rw (leaf_is rd level number, table_is rd (suc level) number)
          (old.complete rd level number (sym (ap is_some (table_is rd level (number / 512))) ∙ there));
      kinds = λ rd level number e r at realm.
          let q = like.before rd r realm in
          leaf_of_width e q.0 r level number q.2.width (old.kinds rd level number e q.0 (sym (leaf_is rd level number) ∙ at) q.1);
      pages = λ rd level number granule ripas at.
          pages rd level number granule ripas (sym (leaf_is rd level number) ∙ at)
          (old.pages rd level number granule ripas (sym (leaf_is rd level number) ∙ at));
      apart = λ rd level number other l n granule ripas other_ripas at at_other.
          old.apart rd level number other l n granule ripas other_ripas (sym (leaf_is rd level number) ∙ at) (sym (leaf_is other l n) ∙ at_other);
    }
