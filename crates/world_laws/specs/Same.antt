-- Two states that have the same of what rows look up; and the table that is held at the end of a walk. This project's own.
use Rattle.std.specs.Prelude.{◌≡◌, ℕ, IsTrue, List, Some}
use Rattle.rmm_spec.specs.State.{State}
use Rattle.rmm_spec.specs.Lookup.{realm_at}
use Rattle.rmm_spec.specs.Walk.{table_number, entry_for, reach}
use Rattle.rmm_spec.specs.Local.{HeldCell}
use Rattle.world_laws.specs.Held.{is_held}
use Rattle.world_laws.specs.Walking.{Way}

-- the same address space of a realm
pub record SameSpace (s t : State) (rd : ℕ) : Type 0 where
  pub width : (realm_at s rd).width ≡ (realm_at t rd).width
  pub start : (realm_at s rd).start_level ≡ (realm_at t rd).start_level

-- the same end of a walk
pub record SameWalk (s t : State) (way : Way) : Type 0 where
  pub level : reach s way.rd way.ipa way.max ≡ reach t way.rd way.ipa way.max
  pub entry : entry_for s way.rd (reach s way.rd way.ipa way.max) way.ipa ≡ entry_for t way.rd (reach t way.rd way.ipa way.max) way.ipa

-- the table is held at which the state's walk ends
pub record HoldsEnd (s : State) (held : List HeldCell) (way : Way) : Type 0 where
  pub granule : ℕ
  pub is_table : s.table way.rd (reach s way.rd way.ipa way.max) (table_number (reach s way.rd way.ipa way.max) way.ipa) ≡ Some granule
  pub is_there : IsTrue (is_held granule held)
