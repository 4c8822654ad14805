-- What a state holds of one REC and of its realm.
use Rattle.std.specs.Prelude.{◌≡◌, ℕ, Some}
use Rattle.rmm_spec.specs.State.{State, RealmRecord, RecRecord}

-- the REC of an address, and the realm that it belongs to
pub record IsHeld (s : State) (address : ℕ) (realm : RealmRecord) (rec : RecRecord) : Type 0 where
  pub has_rec : s.rec address ≡ Some rec
  pub has_realm : s.realm rec.owner ≡ Some realm
