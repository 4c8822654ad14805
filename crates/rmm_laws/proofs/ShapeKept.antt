-- What is owed for a kind of change: the maps of the whole that it makes, that they are the changed state's, and their ties.
use Rattle.rmm_laws.proofs.ShapeCommon.{◌*◌, ◌==◌, ◌∙◌, ◌≡◌, Cell, Config, CpuPlace, Delegated, IsShaped, IsSound, IsTrue, None, Option, Rd, RealmRecord, Rec, RecRecord, Rtt, Some, TableRecord, Whole, ap, by_address, cells_changed, changed, flat_state, places_changed, put, realm_at, realm_in, realm_there, rec_in, refl, same_Some, side_changed, subst, sym, table_in, tag_of, ℕ}
use Rattle.rmm_spec.specs.declared.change.Change.{Change}
use Rattle.rmm_spec.specs.declared.tag.Tag.TheVariants as tag
use Rattle.rmm_spec.specs.Lookup.{has_tag, rec_at, is_owned_by}
use Rattle.rmm_spec.specs.Applicable.{CanApply}
use Rattle.rmm_spec.specs.Cell.{Undelegated, RecAux, Data}
use Rattle.rmm_spec.specs.Shape.{Side, count_below}
use Rattle.rmm_laws.proofs.Changes.{changed_sound}
use Rattle.rmm_laws.proofs.Kept.{IsLike, like_itself}
use Rattle.rmm_laws.proofs.Searches.{rec_there}
use Rattle.rmm_laws.specs.Whole.{whole_changed}
use Rattle.rmm_laws.proofs.Cells.{Views, views_of, flat_views, flat_state-views, views_put, IsAt, tag-cell, cell-delegated, cell-undelegated, cell-realm, cell-rec}
use Rattle.rmm_laws.proofs.ShapeTies.{IsTied, AreListed, ArePlaced, AreInside, well_shaped-is_sound}
use Rattle.rmm_laws.proofs.Shaped.{IsWellShaped-tied}
use Rattle.spec_lemmas.proofs.Maps.{put-same}

-- the whole that the change makes is well shaped, and stands for the changed state
abbrev pub IsChangedShape : Config → Whole → Change → Type 0
IsChangedShape config w change =
    IsShaped config (whole_changed config w change)
    × (flat_state config (cells_changed config w.cells change) ≡ changed (flat_state config w.cells) change)

-- the maps of the whole that the change makes
pub record Makes (config : Config) (w : Whole) (change : Change) : Type 0 where
  pub views : Views
  pub seen : views_of (cells_changed config w.cells change) ≡ views
  pub flat : flat_views config views ≡ changed (flat_state config w.cells) change
  pub tied : IsTied config.granules (side_changed w.cells w.side change) (places_changed w.cells w.places change) views

-- what is owed is enough
pub kept : (config : Config) (w : Whole) (change : Change) → IsShaped config w → CanApply (flat_state config w.cells) change
    → Makes config w change → IsChangedShape config w change
kept config w change shaped can makes =
    let new = cells_changed config w.cells change in
    let s = flat_state config w.cells in
    let flat : flat_state config new ≡ changed s change = flat_state-views config new ∙ ap (flat_views config) makes.seen ∙ makes.flat in
    let sound : IsSound (flat_state config new) =
    subst IsSound (sym flat) (changed_sound s change (well_shaped-is_sound config w.side w.places w.cells shaped) can) in
    let tied : IsTied config.granules (side_changed w.cells w.side change) (places_changed w.cells w.places change) (views_of new) =
    subst (IsTied config.granules (side_changed w.cells w.side change) (places_changed w.cells w.places change)) (sym makes.seen) makes.tied in
    (IsWellShaped-tied config (side_changed w.cells w.side change) (places_changed w.cells w.places change) new sound tied, flat)

-- ---- cells that the conditions name

pub delegated_there : (config : Config) (cells : ℕ → Cell) (address : ℕ) → IsTrue (has_tag (flat_state config cells) address tag.Delegated)
    → cells address ≡ Delegated
delegated_there config cells address has = cell-delegated (cells address) (tag-cell config cells address tag.Delegated has)

pub undelegated_there : (config : Config) (cells : ℕ → Cell) (address : ℕ) → IsTrue (has_tag (flat_state config cells) address tag.Undelegated)
    → cells address ≡ Undelegated
undelegated_there config cells address has = cell-undelegated (cells address) (tag-cell config cells address tag.Undelegated has)

pub rd_there : (config : Config) (cells : ℕ → Cell) (rd : ℕ)
    → IsSound (flat_state config cells) → IsTrue (has_tag (flat_state config cells) rd tag.Rd)
    → cells rd ≡ Rd (realm_at (flat_state config cells) rd)
unfolding flat_state
rd_there config cells rd sound has =
    cell-realm (cells rd) (realm_at (flat_state config cells) rd) (realm_there (flat_state config cells) rd sound has)

pub rec_cell_there : (config : Config) (cells : ℕ → Cell) (rec : ℕ)
    → IsSound (flat_state config cells) → IsTrue (has_tag (flat_state config cells) rec tag.Rec)
    → cells rec ≡ Rec (rec_at (flat_state config cells) rec)
unfolding flat_state
rec_cell_there config cells rec sound has =
    cell-rec (cells rec) (rec_at (flat_state config cells) rec) (rec_there (flat_state config cells) rec sound has)

-- ---- one cell changed, as maps

-- a cell of which no map but the tags sees anything
pub record IsPlain (c : Cell) : Type 0 where
  pub realm : realm_in c ≡ None
  pub rec : rec_in c ≡ None
  pub table : table_in c ≡ None

pub plain-undelegated : IsPlain Undelegated
plain-undelegated = record { realm = refl; rec = refl; table = refl }

pub plain-delegated : IsPlain Delegated
plain-delegated = record { realm = refl; rec = refl; table = refl }

pub plain-aux : IsPlain RecAux
plain-aux = record { realm = refl; rec = refl; table = refl }

pub plain-data : IsPlain Data
plain-data = record { realm = refl; rec = refl; table = refl }

pub views_put-plain : (v : Views) (address : ℕ) (old new : Cell) → IsAt v address old → IsPlain old → IsPlain new
    → views_put v address new ≡ record v { tags = put v.tags address (tag_of new) }
views_put-plain v address old new is before after = λ i. record {
  tags = put v.tags address (tag_of new);
  realms = put-same v.realms address (realm_in new) (is.realm ∙ before.realm ∙ sym after.realm) i;
  recs = put-same v.recs address (rec_in new) (is.rec ∙ before.rec ∙ sym after.rec) i;
  tables = put-same v.tables address (table_in new) (is.table ∙ before.table ∙ sym after.table) i;
}

pub views_put-realm : (v : Views) (address : ℕ) (old new : RealmRecord) → IsAt v address (Rd old)
    → views_put v address (Rd new) ≡ record v { realms = put v.realms address (Some new) }
views_put-realm v address old new is = λ i. record {
  tags = put-same v.tags address tag.Rd is.tag i;
  realms = put v.realms address (Some new);
  recs = put-same v.recs address None is.rec i;
  tables = put-same v.tables address None is.table i;
}

pub views_put-rec : (v : Views) (address : ℕ) (old new : RecRecord) → IsAt v address (Rec old)
    → views_put v address (Rec new) ≡ record v { recs = put v.recs address (Some new) }
views_put-rec v address old new is = λ i. record {
  tags = put-same v.tags address tag.Rec is.tag i;
  realms = put-same v.realms address None is.realm i;
  recs = put v.recs address (Some new);
  tables = put-same v.tables address None is.table i;
}

pub views_put-table : (v : Views) (address : ℕ) (old new : TableRecord) → IsAt v address (Rtt old)
    → views_put v address (Rtt new) ≡ record v { tables = put v.tables address (Some new) }
views_put-table v address old new is = λ i. record {
  tags = put-same v.tags address tag.Rtt is.tag i;
  realms = put-same v.realms address None is.realm i;
  recs = put-same v.recs address None is.rec i;
  tables = put v.tables address (Some new);
}

-- ---- ties that a change of records leaves

-- realms stand where they stood, each like what stood there
pub record AreLike (old new : ℕ → Option RealmRecord) : Type 0 where
  pub before : (g : ℕ) (r : RealmRecord) → new g ≡ Some r → (q : RealmRecord) × (old g ≡ Some q) × IsLike q r
  pub after : (g : ℕ) (q : RealmRecord) → old g ≡ Some q → (r : RealmRecord) × (new g ≡ Some r) × IsLike q r

-- RECs of the same realms stand where they stood
abbrev pub AreOwnedAlike : (ℕ → Option RecRecord) → (ℕ → Option RecRecord) → Type 0
AreOwnedAlike old new = (rd g : ℕ) → is_owned_by rd (new g) ≡ is_owned_by rd (old g)

pub AreListed-like : (granules : ℕ) (side : Side) (realms like : ℕ → Option RealmRecord) (recs alike : ℕ → Option RecRecord) → AreLike realms like
    → AreOwnedAlike recs alike → AreListed granules side realms recs → AreListed granules side like alike
AreListed-like granules side realms like recs alike same owned old = record {
  listed = λ rd r at. let q = same.before rd r at in ap side.vmids q.2.vmid ∙ old.listed rd q.0 q.1;
  used = λ vmid rd at. let q = old.used vmid rd at in let r = same.after rd q.0 q.1 in (r.0, r.1, r.2.vmid ∙ q.2);
  counted = λ rd. old.counted rd ∙ sym (λ i. count_below granules (λ k. owned rd (k * 4096) i));
}

pub ArePlaced-like : (granules : ℕ) (realms like : ℕ → Option RealmRecord) (tables : ℕ → Option TableRecord) → AreLike realms like
    → ArePlaced granules realms tables → ArePlaced granules like tables
ArePlaced-like granules realms like tables same old = record {
  found = old.found;
  widths = λ g t r held at. let q = same.before t.place.rd r at in old.widths g t q.0 held q.1 ∙ sym q.2.width;
  bases = old.bases;
  whole = old.whole;
}

pub IsTied-records : (granules : ℕ) (side : Side) (places moved : ℕ → CpuPlace)
    (v : Views) (like : ℕ → Option RealmRecord) (alike : ℕ → Option RecRecord)
    → AreLike v.realms like → AreOwnedAlike v.recs alike → AreInside moved alike → IsTied granules side places v
    → IsTied granules side moved (record v { realms = like; recs = alike })
IsTied-records granules side places moved v like alike same owned inside old = record {
  sides = AreListed-like granules side v.realms like v.recs alike same owned old.sides;
  tables = ArePlaced-like granules v.realms like v.tables same old.tables;
  links = old.links;
  inside = inside;
}

pub like_put : (realms : ℕ → Option RealmRecord) (rd : ℕ) (old new : RealmRecord)
    → realms rd ≡ Some old → IsLike old new → AreLike realms (put realms rd (Some new))
like_put realms rd old new there like = record {
  before = λ g r. by_address (λ found. found ≡ Some r → (q : RealmRecord) × (realms g ≡ Some q) × IsLike q r) g rd (Some new) (realms g)
      (λ here e. (old, ap realms here ∙ there, subst (IsLike old) (same_Some new r e) like)) (λ _ e. (r, e, like_itself r));
  after = λ g q e. by_address (λ found. (r : RealmRecord) × (found ≡ Some r) × IsLike q r) g rd (Some new) (realms g)
      (λ here. (new, refl, subst (λ o. IsLike o new) (same_Some old q (sym there ∙ ap realms (sym here) ∙ e)) like))
      (λ _. (q, e, like_itself q));
}

pub like_same : (realms : ℕ → Option RealmRecord) → AreLike realms realms
like_same realms = record { before = λ g r e. (r, e, like_itself r); after = λ g q e. (q, e, like_itself q) }

pub alike_put : (recs : ℕ → Option RecRecord) (rec : ℕ) (old new : RecRecord)
    → recs rec ≡ Some old → new.owner ≡ old.owner → AreOwnedAlike recs (put recs rec (Some new))
alike_put recs rec old new there owner rd g =
    by_address (λ found. is_owned_by rd found ≡ is_owned_by rd (recs g)) g rec (Some new) (recs g)
    (λ here. ap (λ o. o == rd) owner ∙ sym (ap (is_owned_by rd) (ap recs here ∙ there))) (λ _. refl)
