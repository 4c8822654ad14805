-- The flat state that a machine's maps stand for.
use Rattle.std.specs.Prelude.{ℕ, ◌+◌, Bool, ◌&&◌, ◌==◌, nat_eq, nat_lt, if◌then◌else◌, Option, Some, None, unwrap_or, option_map}
use Rattle.std.specs.HashMap.{get}
use Rattle.std.specs.Option.{option_and_then}
use Rattle.rmm_spec.specs.declared.entry.Entry.{Entry}
use Rattle.rmm_spec.specs.declared.tag.Tag.{Tag}
use Rattle.rmm_spec.specs.declared.tag.Tag.TheVariants as tag
use Rattle.rmm_spec.specs.Lookup.{is_granule}
use Rattle.rmm_spec.specs.State.{State, RealmRecord, RecRecord}
use Rattle.flat_machine.specs.declared.kept.Kept.{Kept}
use Rattle.flat_machine.specs.declared.kept.Kept.TheVariants.{Undelegated, Delegated, Rd, Rec, RecAux, Data, Rtt}
use Rattle.flat_machine.specs.declared.kept.Spot.{Spot}
use Rattle.flat_machine.specs.declared.machine.FlatMachine.{FlatMachine}

abbrev pub tag_of : Kept → Tag
tag_of Undelegated = tag.Undelegated
tag_of Delegated = tag.Delegated
tag_of (Rd realm) = tag.Rd
tag_of (Rec rec) = tag.Rec
tag_of RecAux = tag.RecAux
tag_of Data = tag.Data
tag_of Rtt = tag.Rtt

abbrev pub realm_of : Kept → Option RealmRecord
realm_of (Rd realm) = Some realm
realm_of _ = None

abbrev pub rec_of : Kept → Option RecRecord
rec_of (Rec rec) = Some rec
rec_of _ = None

-- what is kept of a granule: where nothing is, it is the host's
abbrev pub tag_kept : FlatMachine → ℕ → Tag
tag_kept m granule = unwrap_or (option_map tag_of (get nat_eq m.granules granule)) tag.Undelegated

abbrev pub realm_kept : FlatMachine → ℕ → Option RealmRecord
realm_kept m granule = option_and_then realm_of (get nat_eq m.granules granule)

abbrev pub rec_kept : FlatMachine → ℕ → Option RecRecord
rec_kept m granule = option_and_then rec_of (get nat_eq m.granules granule)

-- spots are compared part by part
abbrev pub is_same_spot : Spot → Spot → Bool
is_same_spot a b = a.rd == b.rd && (a.level == b.level && a.number == b.number)

abbrev pub spot : ℕ → ℕ → ℕ → Spot
spot rd level number = record { rd = rd; level = level; number = number }

-- nothing else than granules has a record
unfoldable pub state_of : FlatMachine → State
state_of m = record {
  config = m.config;
  tag = tag_kept m;
  realm = λ rd. if is_granule m.config.granules rd then realm_kept m rd else None;
  rec = λ address. if is_granule m.config.granules address then rec_kept m address else None;
  table = λ rd level number. get is_same_spot m.tables (spot rd level number);
  leaf = λ rd level number. get is_same_spot m.leaves (spot rd level number);
}

-- the granule of the table that an entry links to
abbrev pub below_in : State → ℕ → ℕ → ℕ → Option ℕ
below_in s rd level number = if nat_lt level 3 then s.table rd (level + 1) number else None
