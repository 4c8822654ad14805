-- States but for what was measured of their realms. This project's own.
use Rattle.std.specs.Prelude.{[], option_map}
use Rattle.rmm_spec.specs.declared.measurement.Measurement.TheVariants.{Sha256}
use Rattle.rmm_spec.specs.Cell.{Cell, Rd}
use Rattle.rmm_spec.specs.State.{RealmRecord, State}

abbrev pub unmeasured_realm : RealmRecord → RealmRecord
unmeasured_realm realm = record realm { rim = Sha256 []; rems = [] }

abbrev pub unmeasured_cell : Cell → Cell
unmeasured_cell (Rd realm) = Rd (unmeasured_realm realm)
unmeasured_cell cell = cell

-- nothing is measured of any realm
abbrev pub unmeasured : State → State
unmeasured s = record s { realm = λ rd. option_map unmeasured_realm (s.realm rd) }
