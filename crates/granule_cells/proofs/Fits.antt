-- What the cells fit they still fit once others are put in or changed: what is put in has no record that is asked for.
use Rattle.std.proofs.Common.{◌≡◌, ℕ, Bool, true, false, ◌==◌, ◌&&◌, nat_lt, if◌then◌else◌, Option, Some, None, IsTrue, refl, sym, ap, ◌∙◌}
use Rattle.std.proofs.lemmas.Bool.{eqb-true}
use Rattle.std.proofs.lemmas.Option.{none-some}
use Rattle.std.specs.Prelude.{IfSome}
use Rattle.rmm_spec.specs.declared.change.RealmChange.{RealmChange}
use Rattle.rmm_spec.specs.declared.change.RealmUpdate.{RealmUpdate}
use Rattle.rmm_spec.specs.declared.change.RealmUpdate.TheVariants.{RecCounted}
use Rattle.rmm_spec.specs.declared.change.RecChange.{RecChange}
use Rattle.rmm_spec.specs.declared.change.TagChange.{TagChange}
use Rattle.rmm_spec.specs.declared.tag.Tag.{Tag}
use Rattle.rmm_spec.specs.declared.tag.Tag.TheVariants as tag
use Rattle.rmm_spec.specs.Cell.{Cell, Rd, Rec, RecAux, put, realm_in, rec_in, recs_of}
use Rattle.rmm_spec.specs.State.{RecRecord}
use Rattle.rmm_laws.specs.Whole.{cell_with_realm, cell_with_tag, cells_with_realm_change, cells_with_tag_change, changed_at}
use Rattle.granule_cells.specs.declared.cell_change.CellChange.TheVariants.{Realm}
use Rattle.granule_cells.specs.Changes.{CanUpdate}
use Rattle.granule_cells.specs.OneCell.{FitsCell}

-- what is there once a cell without a realm is put in was there
index-put : (cells : ℕ → Cell) (rd index flags granule : ℕ) (c : Cell) → realm_in c ≡ None → FitsCell (cells rd) (Realm (RecCounted index flags))
    → FitsCell (put cells granule c rd) (Realm (RecCounted index flags))
index-put cells rd index flags granule c none takes realm is = by (rd == granule) is
  where
    by : (b : Bool) → realm_in (if b then c else cells rd) ≡ Some realm → IsTrue (index == realm.next_index && nat_lt index 8)
    by true there = absurd (none-some realm (sym none ∙ there))
    by false there = takes realm there

-- so once a REC is put in with its two others
pub index-made : (cells : ℕ → Cell) (rd index flags rec aux0 aux1 : ℕ) (made : RecRecord) → FitsCell (cells rd) (Realm (RecCounted index flags))
    → FitsCell (put (put (put cells rec (Rec made)) aux0 RecAux) aux1 RecAux rd) (Realm (RecCounted index flags))
index-made cells rd index flags rec aux0 aux1 made takes =
    index-put (put (put cells rec (Rec made)) aux0 RecAux) rd index flags aux1 RecAux refl
    (index-put (put cells rec (Rec made)) rd index flags aux0 RecAux refl (index-put cells rd index flags rec (Rec made) refl takes))

-- a realm's update changes no REC, and a tag makes none
realm-no_rec : (update : RealmUpdate) (c : Cell) → rec_in (cell_with_realm update c) ≡ rec_in c
realm-no_rec update (Rd r) = refl
realm-no_rec update _ = refl

tag-no_rec : (to : Tag) (c : Cell) (rec : RecRecord) → rec_in (cell_with_tag to c) ≡ Some rec → rec_in c ≡ Some rec
tag-no_rec tag.Rd c rec is = is
tag-no_rec tag.Rec c rec is = is
tag-no_rec tag.Rtt c rec is = is
tag-no_rec _ c rec is = absurd (none-some rec is)

-- a REC that is there once one cell is changed was there
changed-rec : (cells : ℕ → Cell) (granule : ℕ) (change : Cell → Cell)
    → ((c : Cell) (rec : RecRecord) → rec_in (change c) ≡ Some rec → rec_in c ≡ Some rec)
    → (a : ℕ) (rec : RecRecord) → recs_of (changed_at cells granule change) a ≡ Some rec → recs_of cells a ≡ Some rec
changed-rec cells granule change kept a rec is = by (a == granule) refl is
  where
    by : (b : Bool) → (a == granule) ≡ b → rec_in (if b then change (cells granule) else cells a) ≡ Some rec → recs_of cells a ≡ Some rec
    by true here is = ap (recs_of cells) (eqb-true a granule here) ∙ kept (cells granule) rec is
    by false apart is = is

-- so a REC takes its update once a page's tag and a realm are changed
pub rec-tagged : (cells : ℕ → Cell) (page : Option TagChange) (rec : Option RecChange) → IfSome rec (CanUpdate cells)
    → IfSome rec (CanUpdate (cells_with_tag_change cells page))
rec-tagged cells page None fits = tt
rec-tagged cells None (Some change) fits = fits
rec-tagged cells (Some page) (Some change) fits =
    λ rec is. fits rec (changed-rec cells page.granule (cell_with_tag page.tag) (tag-no_rec page.tag) change.rec rec is)

pub rec-updated : (cells : ℕ → Cell) (realm : Option RealmChange) (rec : Option RecChange) → IfSome rec (CanUpdate cells)
    → IfSome rec (CanUpdate (cells_with_realm_change cells realm))
rec-updated cells realm None fits = tt
rec-updated cells None (Some change) fits = fits
rec-updated cells (Some realm) (Some change) fits =
    λ rec is. fits rec
    (changed-rec cells realm.rd (cell_with_realm realm.update) (λ c r at. sym (realm-no_rec realm.update c) ∙ at) change.rec rec is)
