-- That a whole is well shaped in one way alone, as a ghost field asks of a fact.
use Rattle.std.specs.Prelude.{◌≡◌, ℕ, ◌/◌, ◌%◌, Bool, Option, Some, slice_get}
use mathlib.Core.Path.{sym, ◌∙◌}
use mathlib.Core.HLevel.{is_prop→PathP}
use Rattle.std.proofs.Props.{props}
use Rattle.rmm_spec.specs.declared.entry.Entry.{Entry}
use Rattle.rmm_spec.specs.declared.entry.Entry.TheVariants.{Unassigned, Table}
use Rattle.rmm_spec.specs.declared.place.Place.{Place}
use Rattle.rmm_spec.specs.State.{RealmRecord, RecRecord}
use Rattle.rmm_spec.specs.Table.{TableRecord, place_number}
use Rattle.rmm_spec.specs.Shape.{CpuPlace, HoldsTable, IsLinked, IsPlaceOf, FitsPlace, RunsOn, Side, AreRealmCells, AreTableCells, AreRecCells}
use Rattle.spec_machine.specs.declared.granules.Granules.{Granules}
use Rattle.spec_machine.specs.Whole.{IsShapedIn}

-- what is found is one thing
found-single : {A : Type 0} (P : A → Type 0) → IsSet (Option A) → ((x : A) → IsProp (P x)) → (found : Option A)
    → IsProp ((x : A) × (found ≡ Some x) × P x)
found-single P set prop found (x, e, p) (y, f, q) =
    let same : x ≡ y = (let both : Some x ≡ Some y = sym e ∙ f in cc) in
    λ i. (
      same i,
      is_prop→PathP (λ j. found ≡ Some (same j)) (λ j. set found (Some (same j))) e f i,
      is_prop→PathP (λ j. P (same j)) (λ j. prop (same j)) p q i,
    )

-- ---- tables

holds-single : (tables : ℕ → Option TableRecord) (granule rd level number : ℕ) → IsProp (HoldsTable tables granule rd level number)
holds-single tables granule rd level number x y =
    let set : IsSet (Option TableRecord) = hlevel props in
    let same : x.table ≡ y.table = (let both : Some x.table ≡ Some y.table = sym x.is_held ∙ y.is_held in cc) in
    let realm : (t : TableRecord) → IsProp (t.place.rd ≡ rd) = λ t. hlevel props in
    let at : (t : TableRecord) → IsProp (t.place.level ≡ level) = λ t. hlevel props in
    let numbered : (t : TableRecord) → IsProp (place_number t.place ≡ number) = λ t. hlevel props in
    λ i. record {
      table = same i;
      is_held = is_prop→PathP (λ j. tables granule ≡ Some (same j)) (λ j. set (tables granule) (Some (same j))) x.is_held y.is_held i;
      is_realm = is_prop→PathP (λ j. (same j).place.rd ≡ rd) (λ j. realm (same j)) x.is_realm y.is_realm i;
      is_level = is_prop→PathP (λ j. (same j).place.level ≡ level) (λ j. at (same j)) x.is_level y.is_level i;
      is_number = is_prop→PathP (λ j. place_number (same j).place ≡ number) (λ j. numbered (same j)) x.is_number y.is_number i;
    }

-- no two tables have one place, so a table hangs from one entry
abbrev AreApart : (ℕ → Option TableRecord) → Type 0
AreApart tables = (g h : ℕ) (t : TableRecord) → tables g ≡ Some t → HoldsTable tables h t.place.rd t.place.level (place_number t.place) → g ≡ h

linked-single : (tables : ℕ → Option TableRecord) → AreApart tables → (granule rd level number : ℕ) → IsProp (IsLinked tables granule rd level number)
linked-single tables apart granule rd level number x y =
    let one = apart x.parent y.parent x.above.table x.above.is_held (record {
      table = y.above.table;
      is_held = y.above.is_held;
      is_realm = y.above.is_realm ∙ sym x.above.is_realm;
      is_level = y.above.is_level ∙ sym x.above.is_level;
      is_number = y.above.is_number ∙ sym x.above.is_number;
    }) in
    let above = is_prop→PathP (λ j. HoldsTable tables (one j) rd level (number / 512))
    (λ j. holds-single tables (one j) rd level (number / 512)) x.above y.above in
    let set : IsSet (Option Entry) = hlevel props in
    λ i. record {
      parent = one i;
      above = above i;
      link = is_prop→PathP (λ j. slice_get (above j).table.entries (number % 512) ≡ Some (Table granule))
          (λ j. set (slice_get (above j).table.entries (number % 512)) (Some (Table granule))) x.link y.link i;
    }

fits-single : (e : Entry) (r : RealmRecord) (level number : ℕ) → IsProp (FitsPlace e r level number)
fits-single (Unassigned ripas) r level number = hlevel props
fits-single _ r level number = hlevel props

place-single : (realms : ℕ → Option RealmRecord) (rd : ℕ) (place : Place) → IsProp ((r : RealmRecord) × (realms rd ≡ Some r) × IsPlaceOf r place)
place-single realms rd place = found-single (λ r. IsPlaceOf r place) (hlevel props) (λ r. hlevel props) (realms rd)

tables-single : (realms : ℕ → Option RealmRecord) (tables : ℕ → Option TableRecord) → IsProp (AreTableCells realms tables)
tables-single realms tables x y =
    let single : IsProp (AreTableCells realms tables) =
    hlevel (props, holds-single tables, linked-single tables x.apart, fits-single, place-single realms) in
    single x y

-- ---- realms and RECs

used-single : (realms : ℕ → Option RealmRecord) (rd vmid : ℕ) → IsProp ((r : RealmRecord) × (realms rd ≡ Some r) × (r.vmid ≡ vmid))
used-single realms rd vmid = found-single (λ (r : RealmRecord). r.vmid ≡ vmid) (hlevel props) (λ r. hlevel props) (realms rd)

runs-single : (recs : ℕ → Option RecRecord) (cpu rec rd : ℕ) → IsProp (RunsOn recs cpu rec rd)
runs-single recs cpu rec rd x y =
    let set : IsSet (Option RecRecord) = hlevel props in
    let same : x.it ≡ y.it = (let both : Some x.it ≡ Some y.it = sym x.is_rec ∙ y.is_rec in cc) in
    let owned : (r : RecRecord) → IsProp (r.owner ≡ rd) = λ r. hlevel props in
    let on : (r : RecRecord) → IsProp (r.cpu ≡ Some cpu) = λ r. hlevel props in
    λ i. record {
      it = same i;
      is_rec = is_prop→PathP (λ j. recs rec ≡ Some (same j)) (λ j. set (recs rec) (Some (same j))) x.is_rec y.is_rec i;
      is_owner = is_prop→PathP (λ j. (same j).owner ≡ rd) (λ j. owned (same j)) x.is_owner y.is_owner i;
      is_on = is_prop→PathP (λ j. (same j).cpu ≡ Some cpu) (λ j. on (same j)) x.is_on y.is_on i;
    }

realms-single : (granules : ℕ) (side : Side) (realms : ℕ → Option RealmRecord) (recs : ℕ → Option RecRecord)
    → IsProp (AreRealmCells granules side realms recs)
realms-single granules side realms recs = hlevel (props, used-single realms)

recs-single : (places : ℕ → CpuPlace) (realms : ℕ → Option RealmRecord) (recs : ℕ → Option RecRecord) (auxes : ℕ → Bool)
    → IsProp (AreRecCells places realms recs auxes)
recs-single places realms recs auxes = hlevel (props, runs-single recs)

-- ---- wholes

pub shaped-single : (g : Granules) → IsProp (IsShapedIn g)
shaped-single g = hlevel (props, realms-single, tables-single, recs-single)
