-- What rows read off a state: tests, searches, and records with what is read where none is.
use Rattle.std.specs.Prelude.{ℕ, zero, suc, ◌*◌, ◌%◌, Bool, true, false, ◌&&◌, ◌||◌, nat_lt, ◌==◌, if◌then◌else◌, [], Option, Some, None, unwrap_or}
use Rattle.rmm_spec.specs.declared.measurement.Measurement.TheVariants.{Sha256}
use Rattle.rmm_spec.specs.declared.tag.RealmState.{RealmState}
use Rattle.rmm_spec.specs.declared.tag.RealmState.TheVariants.{New, Active, SystemOff}
use Rattle.rmm_spec.specs.declared.tag.Ripas.{Ripas}
use Rattle.rmm_spec.specs.declared.tag.Ripas.TheVariants.{Empty, Ram, Destroyed}
use Rattle.rmm_spec.specs.declared.tag.Tag.{Tag}
use Rattle.rmm_spec.specs.declared.tag.Tag.TheVariants.{Undelegated, Delegated, Rd, Rec, RecAux, Data, Rtt}
use Rattle.rmm_spec.specs.declared.version.Version.{Version}
use Rattle.rmm_spec.specs.declared.version.Version.TheVariants.{One, Two, Large}
use Rattle.rmm_spec.specs.State.{RealmRecord, Request, RecRecord, State}

abbrev pub tag_number : Tag → ℕ
tag_number Undelegated = 0
tag_number Delegated = 1
tag_number Rd = 2
tag_number Rec = 3
tag_number RecAux = 4
tag_number Data = 5
tag_number Rtt = 6

-- RIPAS as replies tell it
abbrev pub ripas_number : Ripas → ℕ
ripas_number Empty = 0
ripas_number Ram = 1
ripas_number Destroyed = 2

-- the hashes that a realm can be measured by: SHA-256 and SHA-512
abbrev pub is_hash : ℕ → Bool
is_hash algo = algo == 0 || algo == 1

-- whether a version has the hash
abbrev pub allows_hash : Version → ℕ → Bool
allows_hash One algo = algo == 0
allows_hash Two algo = is_hash algo
allows_hash Large algo = is_hash algo

-- whether a number is the address of one of so many granules
unfoldable pub is_granule : ℕ → ℕ → Bool
is_granule granules address = address % 4096 == 0 && nat_lt address (granules * 4096)

-- whether a number is the address of a granule with that tag
unfoldable pub has_tag : State → ℕ → Tag → Bool
has_tag s address tag = is_granule s.config.granules address && tag_number (s.tag address) == tag_number tag

-- whether a number below n passes
abbrev pub any_below : ℕ → (ℕ → Bool) → Bool
any_below zero passes = false
any_below (suc n) passes = passes n || any_below n passes

-- whether each number below n passes
abbrev pub all_below : ℕ → (ℕ → Bool) → Bool
all_below zero passes = true
all_below (suc n) passes = passes n && all_below n passes

abbrev pub is_cpu : ℕ → Option ℕ → Bool
is_cpu cpu None = false
is_cpu cpu (Some other) = other == cpu

-- whether there is a REC, and it runs on the CPU
abbrev pub runs_on : ℕ → Option RecRecord → Bool
runs_on cpu None = false
runs_on cpu (Some rec) = is_cpu cpu rec.cpu

-- whether the CPU is inside a REC: one runs on it
unfoldable pub is_inside : State → ℕ → Bool
is_inside s cpu = any_below s.config.granules (λ k. runs_on cpu (s.rec (k * 4096)))

-- the greatest number below n that passes, or 0
abbrev pub greatest_below : ℕ → (ℕ → Bool) → ℕ
greatest_below zero passes = 0
greatest_below (suc n) passes = if passes n then n else greatest_below n passes

-- the REC that runs on the CPU, where one does
unfoldable pub rec_inside : State → ℕ → ℕ
rec_inside s cpu = greatest_below s.config.granules (λ k. runs_on cpu (s.rec (k * 4096))) * 4096

-- what is read where no realm is: rows before say that there is one
abbrev pub no_realm : RealmRecord
no_realm = record {
  state = New;
  width = 0;
  start_level = 0;
  vmid = 0;
  algo = 0;
  root = 0;
  next_index = 0;
  rim = Sha256 [];
  rems = [];
}

-- what is read where no REC is: rows before say that there is one
abbrev pub no_rec : RecRecord
no_rec = record {
  owner = 0;
  index = 0;
  aux0 = 0;
  aux1 = 0;
  runnable = false;
  cpu = None;
  request = None;
  pending = None;
}

-- what is read where a REC has no request: its base 0 is what REC_ENTER then reports, and no other command shows it
abbrev pub no_request : Request
no_request = record { base = 0; top = 0; ripas = Empty }

unfoldable pub realm_at : State → ℕ → RealmRecord
realm_at s rd = unwrap_or (s.realm rd) no_realm

unfoldable pub rec_at : State → ℕ → RecRecord
rec_at s address = unwrap_or (s.rec address) no_rec

abbrev pub request_of : RecRecord → Request
request_of rec = unwrap_or rec.request no_request

abbrev pub is_new_state : RealmState → Bool
is_new_state New = true
is_new_state Active = false
is_new_state SystemOff = false

abbrev pub is_system_off_state : RealmState → Bool
is_system_off_state New = false
is_system_off_state Active = false
is_system_off_state SystemOff = true

-- whether the realm may still be built, and may not run
abbrev pub is_new : RealmRecord → Bool
is_new realm = is_new_state realm.state

-- whether the realm turned itself off
abbrev pub is_system_off : RealmRecord → Bool
is_system_off realm = is_system_off_state realm.state

abbrev pub has_vmid : ℕ → Option RealmRecord → Bool
has_vmid vmid None = false
has_vmid vmid (Some realm) = realm.vmid == vmid

-- whether a realm has the VMID
unfoldable pub is_vmid_used : State → ℕ → Bool
is_vmid_used s vmid = any_below s.config.granules (λ k. has_vmid vmid (s.realm (k * 4096)))

abbrev pub is_owned_by : ℕ → Option RecRecord → Bool
is_owned_by rd None = false
is_owned_by rd (Some rec) = rec.owner == rd

-- whether a REC belongs to the realm
unfoldable pub has_rec : State → ℕ → Bool
has_rec s rd = any_below s.config.granules (λ k. is_owned_by rd (s.rec (k * 4096)))
