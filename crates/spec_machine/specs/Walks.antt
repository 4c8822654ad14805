-- Where a walk through a realm's tables starts.
use Rattle.std.specs.Prelude.{◌≡◌, ℕ, ◌*◌, ◌<◌, ◌≤◌, Some}
use Rattle.rmm_spec.specs.State.{State, RealmRecord}
use Rattle.rmm_spec.specs.Walk.{full, table_size}

-- at the root of a realm whose address space has the address
pub record StartsAt (s : State) (rd ipa root level : ℕ) : Type 0 where
  pub realm : RealmRecord
  pub is_realm : s.realm rd ≡ Some realm
  pub is_root : realm.root ≡ root
  pub is_level : realm.start_level ≡ level
  pub inside : ipa < full realm

-- the first address that a table of that number at the level covers
pub record IsFirst (level number ipa : ℕ) : Type 0 where
  pub last : level ≤ 3
  pub at : ipa ≡ number * table_size level
