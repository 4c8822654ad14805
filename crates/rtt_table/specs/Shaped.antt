-- A place that a realm's table can have, told by the place alone.
use Rattle.std.specs.Prelude.{IsTrue}
use Rattle.rmm_spec.specs.declared.place.Place.{Place}
use Rattle.rmm_spec.specs.State.{RealmRecord}
use Rattle.rmm_spec.specs.Step.Terms.{is_space}
use Rattle.rmm_spec.specs.Shape.{IsPlaceOf}

-- it is one of some realm, whose address space is one that a realm can have
pub record IsShaped (place : Place) : Type 0 where
  pub realm : RealmRecord
  pub space : IsTrue (is_space realm.width realm.start_level)
  pub is_place : IsPlaceOf realm place
