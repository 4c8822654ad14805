-- How the owners of granules are found: what lies in each granule gives granules to a realm.
use Rattle.std.specs.Prelude.{◌≡◌, ◌⊎◌, ◌++◌, ◌*◌, ◌<◌, ℕ, List, Option, Some, IsTrue, is_some, length, slice_get}
use Rattle.rmm_spec.specs.declared.entry.Entry.{Entry}
use Rattle.rmm_spec.specs.declared.entry.Entry.TheVariants.{Assigned}
use Rattle.rmm_spec.specs.declared.tag.Ripas.{Ripas}
use Rattle.rmm_spec.specs.Lookup.{is_granule}
use Rattle.rmm_spec.specs.Ownership.{IsTied}
use Rattle.rmm_spec.specs.State.{State, RealmRecord, RecRecord}
use Rattle.rmm_spec.specs.Table.{TableRecord}
use Rattle.reasons.specs.declared.owner_rows.OwnerRow.{OwnerRow}
use Rattle.reasons.specs.Report.{owner_rows}

-- ---- what is given

-- an entry, or one of some entries, assigns the page
abbrev pub Assigns : Entry → ℕ → Type 0
Assigns entry page = (ripas : Ripas) × (entry ≡ Assigned ripas page)

abbrev pub IsPageOf : List Entry → ℕ → Type 0
IsPageOf entries page = (i : ℕ) × (ripas : Ripas) × (slice_get entries i ≡ Some (Assigned ripas page))

-- a realm's descriptor gives its own granule, a REC that and its auxiliary ones, a table that and its pages
abbrev pub RealmGives : (ℕ → Option RealmRecord) → ℕ → ℕ → Type 0
RealmGives realms at granule = (granule ≡ at) × IsTrue (is_some (realms at))

abbrev pub RecGives : (ℕ → Option RecRecord) → ℕ → ℕ → Type 0
RecGives recs at granule = (rec : RecRecord) × (recs at ≡ Some rec) × ((granule ≡ at) ⊎ (granule ≡ rec.aux0) ⊎ (granule ≡ rec.aux1))

abbrev pub TableGives : (ℕ → Option TableRecord) → ℕ → ℕ → Type 0
TableGives tables at granule = (t : TableRecord) × (tables at ≡ Some t) × ((granule ≡ at) ⊎ IsPageOf t.entries granule)

abbrev pub CellGives : State → (ℕ → Option TableRecord) → ℕ → ℕ → Type 0
CellGives s tables at granule = RealmGives s.realm at granule ⊎ RecGives s.rec at granule ⊎ TableGives tables at granule

-- one of the first granules gives the granule
abbrev pub IsGivenBelow : State → (ℕ → Option TableRecord) → ℕ → ℕ → Type 0
IsGivenBelow s tables n granule = (k : ℕ) × (k < n) × CellGives s tables (k * 4096) granule

-- the granule is one, and the state ties it to the realm
abbrev pub IsOf : State → ℕ → ℕ → Type 0
IsOf s granule realm = IsTrue (is_granule s.config.granules granule) × IsTied (s.tag granule) s granule realm

-- ---- what is written

-- each owner so far is a realm to which the state ties the granule
abbrev pub AreTied : State → (ℕ → Option ℕ) → Type 0
AreTied s owner = (granule realm : ℕ) → owner granule ≡ Some realm → IsTied (s.tag granule) s granule realm

-- After rows that were there before, the rows are of such owners, of all granules that had one and of those that were given.
pub record AreGiven (s : State) (before : List OwnerRow) (Given : ℕ → Type 0) (owner : ℕ → Option ℕ) (rows : List OwnerRow) : Type 0 where
  pub next : ℕ → Option ℕ
  pub are_tied : AreTied s next
  pub are_rows : rows ≡ before ++ owner_rows s next s.config.granules
  pub kept : (granule : ℕ) → IsTrue (is_some (owner granule)) → IsTrue (is_some (next granule))
  pub given : (granule : ℕ) → Given granule → IsTrue (is_some (next granule))

-- from rows of such owners to rows that have the given ones too, where so many rows were there before
abbrev pub Gives : State → ℕ → (ℕ → Type 0) → List OwnerRow → List OwnerRow → Type 0
Gives s first Given old new =
    (before : List OwnerRow) (owner : ℕ → Option ℕ) → length before ≡ first → AreTied s owner → old ≡ before ++ owner_rows s owner s.config.granules
    → AreGiven s before Given owner new
