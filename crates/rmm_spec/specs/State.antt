-- The flat state of the specification machine: maps from addresses, of which none knows how a monitor keeps them.
-- After DEN0137 (granules, realms, RECs, translation tables), cut down to this project's profile.
use Rattle.std.specs.Prelude.{ℕ, Bool, List, Option, None}
use Rattle.rmm_spec.specs.declared.entry.Entry.{Entry}
use Rattle.rmm_spec.specs.declared.measurement.Measurement.{Measurement}
use Rattle.rmm_spec.specs.declared.tag.RealmState.{RealmState}
use Rattle.rmm_spec.specs.declared.tag.Ripas.{Ripas}
use Rattle.rmm_spec.specs.declared.tag.Tag.{Tag}
use Rattle.rmm_spec.specs.declared.tag.Tag.TheVariants.{Undelegated}
use Rattle.rmm_spec.specs.HistoryText.{Config}

-- A realm, kept at the address of its granule. An address space of 2 ^ width bytes, walked from start_level on.
-- rim and the four rems are by the hash of the number algo.
pub record RealmRecord : Type 0 where
  pub state : RealmState
  pub width : ℕ
  pub start_level : ℕ
  pub vmid : ℕ
  pub algo : ℕ
  pub root : ℕ
  pub next_index : ℕ
  pub rim : Measurement
  pub rems : List Measurement

-- what a REC asked of its host: the RIPAS of the stretch from base up to top
pub record Request : Type 0 where
  pub base : ℕ
  pub top : ℕ
  pub ripas : Ripas

-- why a REC waits to leave to its host
pub data Pending : Type 0 where
  Psci : ℕ → Pending
  RipasChange : Pending
  HostCall : ℕ → Pending

-- a REC, kept at the address of its granule: one virtual CPU of the realm at owner, with the CPU that it runs on
pub record RecRecord : Type 0 where
  pub owner : ℕ
  pub index : ℕ
  pub aux0 : ℕ
  pub aux1 : ℕ
  pub runnable : Bool
  pub cpu : Option ℕ
  pub request : Option Request
  pub pending : Option Pending

-- Tables and leaves go by realm, level and number. An entry of level l covers 2 ^ (12 + 9 * (3 - l)) bytes, its number
-- is the address over that, and a table's number is that of the entry above it. A leaf is an entry that is no Table.
pub record State : Type 0 where
  pub config : Config
  pub tag : ℕ → Tag
  pub realm : ℕ → Option RealmRecord
  pub rec : ℕ → Option RecRecord
  pub table : ℕ → ℕ → ℕ → Option ℕ
  pub leaf : ℕ → ℕ → ℕ → Option Entry

-- the state in which every granule is the host's, and nothing else is there
unfoldable pub opening : Config → State
opening config = record {
  config = config;
  tag = λ _. Undelegated;
  realm = λ _. None;
  rec = λ _. None;
  table = λ _ _ _. None;
  leaf = λ _ _ _. None;
}
