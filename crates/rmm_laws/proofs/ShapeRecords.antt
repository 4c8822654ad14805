-- Records of a realm and of a REC are updated, with the place of a CPU that enters the REC or leaves it.
use Rattle.rmm_laws.proofs.ShapeCommon.{◌∙◌, ◌≡◌, Cell, Config, CpuPlace, IsShaped, IsSound, IsTrue, None, Option, Rd, RealmRecord, Rec, RecRecord, Some, State, Whole, ap, both_ways, by_address, cells_changed, changed, eq-eqb, eqb-true, false, false_from_ne_true, flat_state, none-some, places_changed, put, put-elsewhere, put-here, realm_at, realm_there, realms_of, recs_of, refl, same_Some, side_changed, subst, sym, ℕ}
use Rattle.std.proofs.Common.{is_none}
use Rattle.rmm_spec.specs.declared.change.Change.TheVariants.{RecordsChanged}
use Rattle.rmm_spec.specs.declared.change.RealmChange.{RealmChange}
use Rattle.rmm_spec.specs.declared.change.RecChange.{RecChange}
use Rattle.rmm_spec.specs.declared.change.RecUpdate.{RecUpdate}
use Rattle.rmm_spec.specs.declared.change.RecUpdate.TheVariants as rec_update
use Rattle.rmm_spec.specs.Lookup.{rec_at, runs_on, is_cpu}
use Rattle.rmm_spec.specs.Change.{realm_updated, rec_updated, with_realm_change, with_rec_change}
use Rattle.rmm_spec.specs.Applicable.{CanChangeRealm, CanChangeRec, CanUpdateRec}
use Rattle.rmm_spec.specs.Shape.{Outside, Inside, RunsOn}
use Rattle.rmm_laws.proofs.Records.{updated_like}
use Rattle.rmm_laws.proofs.Searches.{none_runs, rec_there}
use Rattle.rmm_laws.specs.Whole.{cell_with_realm, cell_with_rec, cells_with_realm_change, cells_with_rec_change, places_left, places_of_rec, places_with_rec_change}
use Rattle.rmm_laws.proofs.Cells.{Views, views_of, views_of-put, IsAt-cell}
use Rattle.rmm_laws.proofs.ShapeTies.{AreInside, IsTied-shaped, well_shaped-is_sound}
use Rattle.rmm_laws.proofs.ShapeKept.{Makes, AreLike, AreOwnedAlike, like_put, like_same, alike_put, IsTied-records, rd_there, rec_cell_there, views_put-realm, views_put-rec}
use Rattle.lemmas.proofs.Options.{value_there}

-- ---- cells

-- a realm's record is updated in its cell, whatever became of the cells beside it
pub views_of-realm_change : (config : Config) (cells now : ℕ → Cell) (change : Option RealmChange) → IsSound (flat_state config cells)
    → CanChangeRealm (flat_state config cells) change
    → ((a : ℕ) (r : RealmRecord) → cells a ≡ Rd r → now a ≡ Rd r) → realms_of now ≡ realms_of cells
    → views_of (cells_with_realm_change now change) ≡ record (views_of now) { realms = (with_realm_change (flat_state config cells) change).realm }
unfolding flat_state
views_of-realm_change config cells now None sound can stays same = λ i. record (views_of now) { realms = same i }
views_of-realm_change config cells now (Some change) sound can stays same =
    let old : RealmRecord = realm_at (flat_state config cells) change.rd in
    let is : now change.rd ≡ Rd old = stays change.rd old (rd_there config cells change.rd sound can.0) in
    ap (λ c. views_of (put now change.rd (cell_with_realm change.update c))) is
    ∙ views_of-put now change.rd (Rd (realm_updated change.update old))
    ∙ views_put-realm (views_of now) change.rd old (realm_updated change.update old) (IsAt-cell now change.rd (Rd old) is)
    ∙ (λ i. record (views_of now) { realms = put (same i) change.rd (Some (realm_updated change.update old)) })

-- a REC's record is updated in its cell, whatever became of the cells beside it
pub views_of-rec_change : (config : Config) (cells now : ℕ → Cell) (change : Option RecChange) → IsSound (flat_state config cells)
    → CanChangeRec (flat_state config cells) change
    → ((a : ℕ) (c : RecRecord) → cells a ≡ Rec c → now a ≡ Rec c) → recs_of now ≡ recs_of cells
    → views_of (cells_with_rec_change now change) ≡ record (views_of now) { recs = (with_rec_change (flat_state config cells) change).rec }
unfolding flat_state
views_of-rec_change config cells now None sound can stays same = λ i. record (views_of now) { recs = same i }
views_of-rec_change config cells now (Some change) sound can stays same =
    let old : RecRecord = rec_at (flat_state config cells) change.rec in
    let is : now change.rec ≡ Rec old = stays change.rec old (rec_cell_there config cells change.rec sound can.0) in
    ap (λ c. views_of (put now change.rec (cell_with_rec change.update c))) is
    ∙ views_of-put now change.rec (Rec (rec_updated change.update old))
    ∙ views_put-rec (views_of now) change.rec old (rec_updated change.update old) (IsAt-cell now change.rec (Rec old) is)
    ∙ (λ i. record (views_of now) { recs = put (same i) change.rec (Some (rec_updated change.update old)) })

-- a REC's cell is no realm's
pub realm_change-rec_stays : (config : Config) (cells : ℕ → Cell) (change : Option RealmChange) → IsSound (flat_state config cells)
    → CanChangeRealm (flat_state config cells) change → (a : ℕ) (c : RecRecord) → cells a ≡ Rec c → cells_with_realm_change cells change a ≡ Rec c
realm_change-rec_stays config cells None sound can a c is = is
realm_change-rec_stays config cells (Some change) sound can a c is =
    by_address (λ x. x ≡ Rec c) a change.rd (cell_with_realm change.update (cells change.rd)) (cells a)
    (λ here. absurd (let bad : Rd (realm_at (flat_state config cells) change.rd) ≡ Rec c =
    sym (rd_there config cells change.rd sound can.0) ∙ ap cells (sym here) ∙ is in cc))
    (λ _. is)

-- ---- ties

pub realm_change-like : (config : Config) (cells : ℕ → Cell) (change : Option RealmChange) → IsSound (flat_state config cells)
    → CanChangeRealm (flat_state config cells) change → AreLike (realms_of cells) (with_realm_change (flat_state config cells) change).realm
unfolding flat_state
realm_change-like config cells None sound can = like_same (realms_of cells)
realm_change-like config cells (Some change) sound can =
    let old : RealmRecord = realm_at (flat_state config cells) change.rd in
    like_put (realms_of cells) change.rd old (realm_updated change.update old)
    (realm_there (flat_state config cells) change.rd sound can.0) (updated_like change.update old)

-- no update changes a REC's realm
updated_owner : (update : RecUpdate) (c : RecRecord) → (rec_updated update c).owner ≡ c.owner
unfolding rec_updated
updated_owner (rec_update.Entered cpu) c = refl
updated_owner _ c = refl

pub rec_change-alike : (config : Config) (cells : ℕ → Cell) (change : Option RecChange) → IsSound (flat_state config cells)
    → CanChangeRec (flat_state config cells) change → AreOwnedAlike (recs_of cells) (with_rec_change (flat_state config cells) change).rec
unfolding flat_state
rec_change-alike config cells None sound can = λ rd g. refl
rec_change-alike config cells (Some change) sound can =
    let old : RecRecord = rec_at (flat_state config cells) change.rec in
    alike_put (recs_of cells) change.rec old (rec_updated change.update old)
    (rec_there (flat_state config cells) change.rec sound can.0) (updated_owner change.update old)

-- ---- places

outside≢inside : {A : Type 0} {rec rd : ℕ} → Outside ≡ Inside rec rd → A
outside≢inside {A} {rec} {rd} same = absurd (let bad : Outside ≡ Inside rec rd = same in cc)

-- a record that keeps its CPU keeps each CPU's place
inside_put : (places : ℕ → CpuPlace) (recs : ℕ → Option RecRecord) (a : ℕ) (old new : RecRecord)
    → recs a ≡ Some old → new.owner ≡ old.owner → new.cpu ≡ old.cpu
    → AreInside places recs → AreInside places (put recs a (Some new))
inside_put places recs a old new there owner on inside cpu rec rd = (
  λ at. let runs = (inside cpu rec rd).0 at in
      by_address (λ found. found ≡ put recs a (Some new) rec → RunsOn (put recs a (Some new)) cpu rec rd) rec a (Some new) (recs rec)
      (λ here is. let same : old ≡ runs.it = same_Some old runs.it (sym there ∙ ap recs (sym here) ∙ runs.is_rec) in
      record {
        it = new;
        is_rec = sym is;
        is_owner = owner ∙ ap (λ (c : RecRecord). c.owner) same ∙ runs.is_owner;
        is_on = on ∙ ap (λ (c : RecRecord). c.cpu) same ∙ runs.is_on;
      })
      (λ _ is. record { it = runs.it; is_rec = sym is ∙ runs.is_rec; is_owner = runs.is_owner; is_on = runs.is_on }) refl,
  λ runs. by_address (λ found. found ≡ Some runs.it → places cpu ≡ Inside rec rd) rec a (Some new) (recs rec)
      (λ here is. let same : new ≡ runs.it = same_Some new runs.it is in
      (inside cpu rec rd).1 (record {
        it = old;
        is_rec = ap recs here ∙ there;
        is_owner = sym owner ∙ ap (λ (c : RecRecord). c.owner) same ∙ runs.is_owner;
        is_on = sym on ∙ ap (λ (c : RecRecord). c.cpu) same ∙ runs.is_on;
      }))
      (λ _ is. (inside cpu rec rd).1 (record { it = runs.it; is_rec = is; is_owner = runs.is_owner; is_on = runs.is_on })) runs.is_rec,
)

-- a REC that runs nowhere, and now runs on a CPU on which none does
inside_entered : (places : ℕ → CpuPlace) (recs : ℕ → Option RecRecord) (a cpu : ℕ) (old new : RecRecord) → recs a ≡ Some old → new.owner ≡ old.owner
    → old.cpu ≡ None → new.cpu ≡ Some cpu → ((g : ℕ) → runs_on cpu (recs g) ≡ false)
    → AreInside places recs → AreInside (put places cpu (Inside a old.owner)) (put recs a (Some new))
inside_entered places recs a cpu old new there owner out on none inside other rec rd = (
  λ at. by_address (λ p. p ≡ Inside rec rd → RunsOn (put recs a (Some new)) other rec rd) other cpu (Inside a old.owner) (places other)
      (λ here is.
      let same_rec : a ≡ rec = (let e : Inside a old.owner ≡ Inside rec rd = is in cc) in
      let same_rd : old.owner ≡ rd = (let e : Inside a old.owner ≡ Inside rec rd = is in cc) in
      record {
        it = new;
        is_rec = ap (put recs a (Some new)) (sym same_rec) ∙ put-here recs a (Some new);
        is_owner = owner ∙ same_rd;
        is_on = on ∙ ap Some (sym here);
      })
      (λ _ is. let runs = (inside other rec rd).0 is in
      record {
        it = runs.it;
        is_rec = put-elsewhere recs a (Some new) rec (false_from_ne_true _ (λ same.
            none-some other (sym out
            ∙ ap (λ (c : RecRecord). c.cpu) (same_Some old runs.it (sym there ∙ ap recs (sym (eqb-true rec a same)) ∙ runs.is_rec)) ∙ runs.is_on)))
            ∙ runs.is_rec;
        is_owner = runs.is_owner;
        is_on = runs.is_on;
      }) at,
  λ runs. by_address (λ found. found ≡ Some runs.it → put places cpu (Inside a old.owner) other ≡ Inside rec rd) rec a (Some new) (recs rec)
      (λ here is. let same : new ≡ runs.it = same_Some new runs.it is in
      let at_cpu : cpu ≡ other = same_Some cpu other (sym on ∙ ap (λ (c : RecRecord). c.cpu) same ∙ runs.is_on) in
      let its_rd : old.owner ≡ rd = sym owner ∙ ap (λ (c : RecRecord). c.owner) same ∙ runs.is_owner in
      ap (put places cpu (Inside a old.owner)) (sym at_cpu) ∙ put-here places cpu (Inside a old.owner) ∙ (λ i. Inside (sym here i) (its_rd i)))
      (λ _ is. put-elsewhere places cpu (Inside a old.owner) other (false_from_ne_true _ (λ same.
      both_ways (ap (runs_on cpu) is ∙ ap (is_cpu cpu) runs.is_on ∙ same) (none rec)))
      ∙ (inside other rec rd).1 (record { it = runs.it; is_rec = is; is_owner = runs.is_owner; is_on = runs.is_on })) runs.is_rec,
)

-- a REC that ran on a CPU runs no longer
inside_left : (places : ℕ → CpuPlace) (recs : ℕ → Option RecRecord) (a cpu : ℕ) (old new : RecRecord) → recs a ≡ Some old
    → old.cpu ≡ Some cpu → new.cpu ≡ None → AreInside places recs → AreInside (put places cpu Outside) (put recs a (Some new))
inside_left places recs a cpu old new there on out inside other rec rd = (
  λ at. by_address (λ p. p ≡ Inside rec rd → RunsOn (put recs a (Some new)) other rec rd) other cpu Outside (places other)
      (λ _ bad. outside≢inside bad)
      (λ apart is. let runs = (inside other rec rd).0 is in
      record {
        it = runs.it;
        is_rec = put-elsewhere recs a (Some new) rec (false_from_ne_true _ (λ same.
            both_ways (eq-eqb other cpu (same_Some other cpu (sym runs.is_on
            ∙ ap (λ (c : RecRecord). c.cpu) (same_Some runs.it old (sym runs.is_rec ∙ ap recs (eqb-true rec a same) ∙ there)) ∙ on))) apart))
            ∙ runs.is_rec;
        is_owner = runs.is_owner;
        is_on = runs.is_on;
      }) at,
  λ runs. by_address (λ found. found ≡ Some runs.it → put places cpu Outside other ≡ Inside rec rd) rec a (Some new) (recs rec)
      (λ _ is. absurd (none-some other (sym out ∙ ap (λ (c : RecRecord). c.cpu) (same_Some new runs.it is) ∙ runs.is_on)))
      (λ apart is.
      let at : places other ≡ Inside rec rd =
      (inside other rec rd).1 (record { it = runs.it; is_rec = is; is_owner = runs.is_owner; is_on = runs.is_on }) in
      put-elsewhere places cpu Outside other (false_from_ne_true _ (λ same.
      let old_at : places cpu ≡ Inside a old.owner = (inside cpu a old.owner).1 (record { it = old; is_rec = there; is_owner = refl; is_on = on }) in
      let both : Inside a old.owner ≡ Inside rec rd = sym old_at ∙ ap places (sym (eqb-true other cpu same)) ∙ at in
      both_ways (eq-eqb rec a (let back : a ≡ rec = cc in sym back)) apart))
      ∙ at) runs.is_rec,
)

none_is : {A : Type 0} (found : Option A) → IsTrue (is_none found) → found ≡ None
none_is None there = refl
none_is (Some x) there = both_ways there refl

-- what becomes of a REC's record, and of the CPUs' places
updated_inside : (update : RecUpdate) (config : Config) (cells : ℕ → Cell) (places : ℕ → CpuPlace) (a : ℕ) (old : RecRecord)
    → IsSound (flat_state config cells)
    → recs_of cells a ≡ Some old → CanUpdateRec (flat_state config cells) old update → AreInside places (recs_of cells)
    → AreInside (places_of_rec places a update (Rec old)) (put (recs_of cells) a (Some (rec_updated update old)))
unfolding rec_updated flat_state
updated_inside (rec_update.Entered cpu) config cells places a old sound there can inside =
    inside_entered places (recs_of cells) a cpu old _ there refl
    (none_is old.cpu can.0) refl (none_runs (flat_state config cells) cpu sound can.1) inside
updated_inside rec_update.Exited config cells places a old sound there can inside =
    let on = value_there old.cpu can in
    subst (λ o. AreInside (places_left places o) (put (recs_of cells) a (Some (rec_updated rec_update.Exited old)))) (sym on.1)
    (inside_left places (recs_of cells) a on.0 old _ there on.1 refl inside)
updated_inside (rec_update.RipasRequested base top ripas) config cells places a old sound there can inside =
    inside_put places (recs_of cells) a old _ there refl refl inside
updated_inside (rec_update.HostCalled imm) config cells places a old sound there can inside =
    inside_put places (recs_of cells) a old _ there refl refl inside
updated_inside rec_update.TurnedOff config cells places a old sound there can inside =
    inside_put places (recs_of cells) a old _ there refl refl inside
updated_inside rec_update.SystemTurnedOff config cells places a old sound there can inside =
    inside_put places (recs_of cells) a old _ there refl refl inside
updated_inside (rec_update.RequestMoved base) config cells places a old sound there can inside =
    inside_put places (recs_of cells) a old _ there refl refl inside

pub rec_change-inside : (config : Config) (cells : ℕ → Cell) (places : ℕ → CpuPlace) (change : Option RecChange) → IsSound (flat_state config cells)
    → CanChangeRec (flat_state config cells) change → AreInside places (recs_of cells)
    → AreInside (places_with_rec_change cells places change) (with_rec_change (flat_state config cells) change).rec
unfolding flat_state
rec_change-inside config cells places None sound can inside = inside
rec_change-inside config cells places (Some change) sound can inside =
    let old : RecRecord = rec_at (flat_state config cells) change.rec in
    subst (λ c. AreInside (places_of_rec places change.rec change.update c) (put (recs_of cells) change.rec (Some (rec_updated change.update old))))
    (sym (rec_cell_there config cells change.rec sound can.0))
    (updated_inside change.update config cells places change.rec old sound (rec_there (flat_state config cells) change.rec sound can.0) can.1 inside)

-- ---- the change

-- the two records are changed in either order
records_parts : (s : State) (realm : Option RealmChange) (rec : Option RecChange)
    → record s { realm = (with_realm_change s realm).realm; rec = (with_rec_change s rec).rec } ≡ with_rec_change (with_realm_change s realm) rec
unfolding realm_at rec_at
records_parts s None None = refl
records_parts s None (Some rec) = refl
records_parts s (Some realm) None = refl
records_parts s (Some realm) (Some rec) = refl

pub Makes-records : (config : Config) (w : Whole) (realm : Option RealmChange) (rec : Option RecChange) → IsShaped config w
    → CanChangeRealm (flat_state config w.cells) realm → CanChangeRec (flat_state config w.cells) rec → Makes config w (RecordsChanged realm rec)
unfolding changed cells_changed side_changed places_changed flat_state
Makes-records config w realm rec shaped can_realm can_rec =
    let s : State = flat_state config w.cells in
    let sound = well_shaped-is_sound config w.side w.places w.cells shaped in
    let old = IsTied-shaped config w.side w.places w.cells shaped in
    let first = views_of-realm_change config w.cells w.cells realm sound can_realm (λ a r is. is) refl in
    record {
      views = record (views_of w.cells) { realms = (with_realm_change s realm).realm; recs = (with_rec_change s rec).rec };
      seen = views_of-rec_change config w.cells (cells_with_realm_change w.cells realm) rec sound can_rec
          (realm_change-rec_stays config w.cells realm sound can_realm) (ap (λ (v : Views). v.recs) first)
          ∙ (λ i. record (first i) { recs = (with_rec_change s rec).rec });
      flat = records_parts s realm rec;
      tied = IsTied-records config.granules w.side w.places _ (views_of w.cells) _ _ (realm_change-like config w.cells realm sound can_realm)
          (rec_change-alike config w.cells rec sound can_rec) (rec_change-inside config w.cells w.places rec sound can_rec old.inside) old;
    }
