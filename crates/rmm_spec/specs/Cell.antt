-- Granule cells: what a monitor keeps of each granule, so that a granule's tag and its contents are one value and agree.
-- The kinds are DEN0137's granule states. Everything above reads a whole of cells through the maps at the end ("views").
use Rattle.std.specs.Prelude.{ℕ, Bool, true, false, ◌==◌, if◌then◌else◌, Option, Some, None}
use Rattle.rmm_spec.specs.declared.tag.Tag.{Tag}
use Rattle.rmm_spec.specs.declared.tag.Tag.TheVariants as tag
use Rattle.rmm_spec.specs.State.{RealmRecord, RecRecord}
use Rattle.rmm_spec.specs.Table.{TableRecord}

pub data Cell : Type 0 where
  Undelegated : Cell
  Delegated : Cell
  Rd : RealmRecord → Cell
  Rec : RecRecord → Cell
  RecAux : Cell
  Data : Cell
  Rtt : TableRecord → Cell

-- a value is put in at one place of a map, and nothing else changes
abbrev pub put : {A : Type 0} → (ℕ → A) → ℕ → A → ℕ → A
put map key value other = if other == key then value else map other

-- ---- one cell

abbrev pub tag_of : Cell → Tag
tag_of Undelegated = tag.Undelegated
tag_of Delegated = tag.Delegated
tag_of (Rd realm) = tag.Rd
tag_of (Rec rec) = tag.Rec
tag_of RecAux = tag.RecAux
tag_of Data = tag.Data
tag_of (Rtt table) = tag.Rtt

abbrev pub realm_in : Cell → Option RealmRecord
realm_in (Rd realm) = Some realm
realm_in _ = None

abbrev pub rec_in : Cell → Option RecRecord
rec_in (Rec rec) = Some rec
rec_in _ = None

abbrev pub table_in : Cell → Option TableRecord
table_in (Rtt table) = Some table
table_in _ = None

abbrev pub is_aux : Cell → Bool
is_aux RecAux = true
is_aux _ = false

abbrev pub is_data : Cell → Bool
is_data Data = true
is_data _ = false

-- ---- views of a whole: a cell for each address

abbrev pub tags_of : (ℕ → Cell) → ℕ → Tag
tags_of cells address = tag_of (cells address)

abbrev pub realms_of : (ℕ → Cell) → ℕ → Option RealmRecord
realms_of cells address = realm_in (cells address)

abbrev pub recs_of : (ℕ → Cell) → ℕ → Option RecRecord
recs_of cells address = rec_in (cells address)

abbrev pub tables_of : (ℕ → Cell) → ℕ → Option TableRecord
tables_of cells address = table_in (cells address)

abbrev pub auxes_of : (ℕ → Cell) → ℕ → Bool
auxes_of cells address = is_aux (cells address)

abbrev pub datas_of : (ℕ → Cell) → ℕ → Bool
datas_of cells address = is_data (cells address)
