-- Realms and RECs as the records of the definitions, and how the records give them back.
use Rattle.std.specs.Prelude.{◌≡◌, ℕ, ◌==◌, if◌then◌else◌, Option, Some, None, option_map, refl}
use Rattle.rmm_spec.specs.State as spec
use Rattle.rmm_spec.specs.State.{RealmRecord, RecRecord, Pending}
use Rattle.realm_desc.specs.declared.hash_algorithm.HashAlgorithm.{HashAlgorithm}
use Rattle.realm_desc.specs.declared.hash_algorithm.HashAlgorithm.TheVariants.{Sha256, Sha512}
use Rattle.realm_desc.specs.declared.pending_exit.PendingExit.{PendingExit}
use Rattle.realm_desc.specs.declared.pending_exit.PendingExit.TheVariants.{Psci, RipasChange, HostCall}
use Rattle.realm_desc.specs.declared.realm.Realm.TheInside as realm
use Rattle.realm_desc.specs.declared.rec.Rec.TheInside as rec
use Rattle.realm_desc.specs.declared.space.Space.{Space}
use Rattle.realm_desc.specs.declared.space.Space.TheVariants.{Bits39, Bits48}

-- how many bits a space's addresses have
abbrev pub width_of : Space → ℕ
width_of Bits39 = 0x27
width_of Bits48 = 0x30

-- the level of a space's root
abbrev pub level_of : Space → ℕ
level_of Bits39 = 1
level_of Bits48 = 0

-- the space of a width
abbrev pub space_of : ℕ → Space
space_of width = if width == 0x27 then Bits39 else Bits48

-- the word that stands for a hash
abbrev pub algorithm_number : HashAlgorithm → ℕ
algorithm_number Sha256 = 0
algorithm_number Sha512 = 1

-- the hash of a number
abbrev pub algorithm_of : ℕ → HashAlgorithm
algorithm_of number = if number == 0 then Sha256 else Sha512

-- why a REC waits, in the definitions' words
abbrev pub pending_of : PendingExit → Pending
pending_of (Psci number) = spec.Psci number
pending_of RipasChange = spec.RipasChange
pending_of (HostCall number) = spec.HostCall number

abbrev pub exit_of : Pending → PendingExit
exit_of (spec.Psci number) = Psci number
exit_of spec.RipasChange = RipasChange
exit_of (spec.HostCall number) = HostCall number

-- ---- realms

unfoldable pub realm_record : realm.Inside → RealmRecord
realm_record r = record {
  state = r.state;
  width = width_of r.space;
  start_level = level_of r.space;
  vmid = r.vmid;
  algo = algorithm_number r.algorithm;
  root = r.root;
  next_index = r.next_index;
  rim = r.rim;
  rems = r.rems;
}

unfoldable pub realm_fields : RealmRecord → realm.Inside
realm_fields r = record {
  state = r.state;
  space = space_of r.width;
  vmid = r.vmid;
  algorithm = algorithm_of r.algo;
  root = r.root;
  next_index = r.next_index;
  rim = r.rim;
  rems = r.rems;
}

space_of-width_of : (space : Space) → space_of (width_of space) ≡ space
space_of-width_of Bits39 = refl
space_of-width_of Bits48 = refl

algorithm_of-algorithm_number : (algorithm : HashAlgorithm) → algorithm_of (algorithm_number algorithm) ≡ algorithm
algorithm_of-algorithm_number Sha256 = refl
algorithm_of-algorithm_number Sha512 = refl

-- a realm's record tells all of it
pub realm_fields-realm_record : (r : realm.Inside) → realm_fields (realm_record r) ≡ r
unfolding realm_fields realm_record
realm_fields-realm_record r = λ i. record {
  state = r.state;
  space = space_of-width_of r.space i;
  vmid = r.vmid;
  algorithm = algorithm_of-algorithm_number r.algorithm i;
  root = r.root;
  next_index = r.next_index;
  rim = r.rim;
  rems = r.rems;
}

-- ---- RECs

unfoldable pub rec_record : rec.Inside → RecRecord
rec_record r = record {
  owner = r.owner;
  index = r.index;
  aux0 = r.aux0;
  aux1 = r.aux1;
  runnable = r.runnable;
  cpu = r.cpu;
  request = r.request;
  pending = option_map pending_of r.pending;
}

unfoldable pub rec_fields : RecRecord → rec.Inside
rec_fields r = record {
  owner = r.owner;
  index = r.index;
  aux0 = r.aux0;
  aux1 = r.aux1;
  runnable = r.runnable;
  cpu = r.cpu;
  request = r.request;
  pending = option_map exit_of r.pending;
}

exit_of-pending_of : (pending : Option PendingExit) → option_map exit_of (option_map pending_of pending) ≡ pending
exit_of-pending_of None = refl
exit_of-pending_of (Some (Psci number)) = refl
exit_of-pending_of _ = refl

-- a REC's record tells all of it
pub rec_fields-rec_record : (r : rec.Inside) → rec_fields (rec_record r) ≡ r
unfolding rec_fields rec_record
rec_fields-rec_record r = λ i. record {
  owner = r.owner;
  index = r.index;
  aux0 = r.aux0;
  aux1 = r.aux1;
  runnable = r.runnable;
  cpu = r.cpu;
  request = r.request;
  pending = exit_of-pending_of r.pending i;
}
