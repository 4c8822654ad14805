-- Who owns a granule, read from commands and replies alone, and that the state agrees: no granule has two owners,
-- and what a realm's protected addresses reach is data of that realm alone. This project's own statement of isolation.
use Rattle.std.specs.Prelude.{◌≡◌, ℕ, ◌≤◌, Bool, true, false, ◌&&◌, ◌==◌, if◌then◌else◌, List, [], ◌∷◌, ◌++◌, ◌⊎◌, ◌↔◌, length, slice_index, Contains, Option, Some, None, IsSome, unwrap_or}
use Rattle.std.specs.List.{filter}
use Rattle.rmm_spec.specs.declared.entry.Entry.TheVariants.{Assigned}
use Rattle.rmm_spec.specs.declared.tag.Ripas.{Ripas}
use Rattle.rmm_spec.specs.declared.call.Call.{Call}
use Rattle.rmm_spec.specs.declared.call.Call.TheVariants as call
use Rattle.rmm_spec.specs.declared.reply.Reply.{Reply}
use Rattle.rmm_spec.specs.declared.reply.Reply.TheVariants as reply
use Rattle.rmm_spec.specs.declared.tag.Tag.{Tag}
use Rattle.rmm_spec.specs.declared.tag.Tag.TheVariants.{Undelegated, Delegated, Rd, Rec, RecAux, Data, Rtt}
use Rattle.rmm_spec.specs.Call.{call_of}
use Rattle.rmm_spec.specs.State.{State, RecRecord}
use Rattle.rmm_spec.specs.Lookup.{tag_number}
use Rattle.rmm_spec.specs.Run.{JournalEntry}

-- a realm's hold on a granule, in one of the five roles that a granule of a realm has
pub record Claim : Type 0 where
  pub granule : ℕ
  pub role : Tag
  pub realm : ℕ

abbrev pub claim : ℕ → Tag → ℕ → Claim
claim granule role realm = record { granule = granule; role = role; realm = realm }

abbrev pub is_same_claim : Claim → Claim → Bool
is_same_claim a b = a.granule == b.granule && tag_number a.role == tag_number b.role && a.realm == b.realm

-- the open claims without one that is closed
abbrev pub without_claim : Claim → List Claim → List Claim
without_claim closed [] = []
without_claim closed (c ∷ claims) = if is_same_claim closed c then claims else c ∷ without_claim closed claims

abbrev pub is_accepted : Reply → Bool
is_accepted (reply.Ok words) = true
is_accepted (reply.Err status index) = false
is_accepted reply.Misplaced = false

-- what the latest accepted command that is one of these made, or this where none was
abbrev pub latest : {A : Type 0} → (Call → Option A) → A → List JournalEntry → A
latest made otherwise [] = otherwise
latest made otherwise (entry ∷ earlier) =
    unwrap_or (if is_accepted entry.given then made (call_of entry.command) else None) (latest made otherwise earlier)

-- the root of the realm, where the command made it
abbrev pub root_made : ℕ → Call → Option ℕ
root_made rd (call.RealmCreate other root width level vmid algo) = if other == rd then Some root else None
root_made rd _ = None

-- a REC's realm and auxiliary granules
pub record RecParts : Type 0 where
  pub rd : ℕ
  pub aux0 : ℕ
  pub aux1 : ℕ

-- the parts of the REC, where the command made it
abbrev pub rec_made : ℕ → Call → Option RecParts
rec_made rec (call.RecCreate rd other mpidr flags aux0 aux1) = if other == rec then Some (record { rd = rd; aux0 = aux0; aux1 = aux1 }) else None
rec_made rec _ = None

abbrev pub latest_root : ℕ → List JournalEntry → ℕ
latest_root rd earlier = latest (root_made rd) 0 earlier

abbrev pub latest_rec : ℕ → List JournalEntry → RecParts
latest_rec rec earlier = latest (rec_made rec) (record { rd = 0; aux0 = 0; aux1 = 0 }) earlier

abbrev pub rec_claims : ℕ → RecParts → List Claim
rec_claims rec parts = claim rec Rec parts.rd ∷ claim parts.aux0 RecAux parts.rd ∷ claim parts.aux1 RecAux parts.rd ∷ []

-- the claims that an accepted command opens
unfoldable pub claims_opened : Call → List Claim
claims_opened (call.RealmCreate rd root width level vmid algo) = claim rd Rd rd ∷ claim root Rtt rd ∷ []
claims_opened (call.RecCreate rd rec mpidr flags aux0 aux1) = rec_claims rec (record { rd = rd; aux0 = aux0; aux1 = aux1 })
claims_opened (call.RttCreate rd rtt ipa level) = claim rtt Rtt rd ∷ []
claims_opened (call.DataCreate rd granule ipa source flags digest) = claim granule Data rd ∷ []
claims_opened (call.DataCreateUnknown rd granule ipa) = claim granule Data rd ∷ []
claims_opened _ = []

-- the claims that an accepted command with these reply words closes; earlier commits latest first
unfoldable pub claims_closed : Call → List ℕ → List JournalEntry → List Claim
claims_closed (call.RealmDestroy rd) words earlier = claim rd Rd rd ∷ claim (latest_root rd earlier) Rtt rd ∷ []
claims_closed (call.RecDestroy rec) words earlier = rec_claims rec (latest_rec rec earlier)
claims_closed (call.RttRemove removal rd ipa level) words earlier = claim (slice_index words 0) Rtt rd ∷ []
claims_closed (call.DataDestroy rd ipa) words earlier = claim (slice_index words 0) Data rd ∷ []
claims_closed _ words earlier = []

-- the open claims without each of those that are closed
abbrev pub without_claims : List Claim → List Claim → List Claim
without_claims [] claims = claims
without_claims (closed ∷ others) claims = without_claim closed (without_claims others claims)

-- the open claims after one more commit
abbrev pub claims_after : Reply → JournalEntry → List JournalEntry → List Claim → List Claim
claims_after (reply.Ok given) entry earlier held =
    claims_opened (call_of entry.command) ++ without_claims (claims_closed (call_of entry.command) given.items earlier) held
claims_after (reply.Err status index) entry earlier held = held
claims_after reply.Misplaced entry earlier held = held

abbrev pub claims_from : List JournalEntry → List Claim → List JournalEntry → List Claim
claims_from earlier held [] = held
claims_from earlier held (entry ∷ entries) =
    claims_from (entry ∷ earlier) (claims_after entry.given entry earlier held) entries

-- the claims that are open after the commits
unfoldable pub claims : List JournalEntry → List Claim
claims entries = claims_from [] [] entries

-- the open claims on a granule, repeats kept
unfoldable pub owners : List JournalEntry → ℕ → List Claim
owners entries granule = filter (λ c. c.granule == granule) (claims entries)

-- the state ties the granule to the realm in that role
abbrev pub IsTied : Tag → State → ℕ → ℕ → Type 0
IsTied Rd s granule realm = (granule ≡ realm) × IsSome (s.realm realm)
IsTied Rec s granule realm = (r : RecRecord) × (s.rec granule ≡ Some r) × (r.owner ≡ realm)
IsTied RecAux s granule realm =
    (rec : ℕ) × (r : RecRecord) × (s.rec rec ≡ Some r) × (r.owner ≡ realm) × ((r.aux0 ≡ granule) ⊎ (r.aux1 ≡ granule))
IsTied Rtt s granule realm = (level number : ℕ) × (s.table realm level number ≡ Some granule)
IsTied Data s granule realm = (level number : ℕ) × (ripas : Ripas) × (s.leaf realm level number ≡ Some (Assigned ripas granule))
IsTied Undelegated s granule realm = ⊥
IsTied Delegated s granule realm = ⊥

-- where a table or a leaf is kept
pub record Spot : Type 0 where
  pub realm : ℕ
  pub level : ℕ
  pub number : ℕ

-- After the commits, in the state that they lead to, every granule is at most one realm's, in one role.
pub record IsIsolated (entries : List JournalEntry) (s : State) : Type 0 where
  -- no granule has two owners
  pub one_owner : (granule : ℕ) → length (owners entries granule) ≤ 1
  -- a granule's tag is its owner's role, and without an owner it is the host's or waits to be used
  pub roles : (granule : ℕ) (c : Claim) → owners entries granule ≡ c ∷ [] → s.tag granule ≡ c.role
  pub ownerless : (granule : ℕ) → owners entries granule ≡ [] → (s.tag granule ≡ Undelegated) ⊎ (s.tag granule ≡ Delegated)
  -- the open claims are just the ties of the state
  pub ties : (granule : ℕ) (role : Tag) (realm : ℕ) → Contains (claims entries) (claim granule role realm) ↔ IsTied role s granule realm
  -- no two protected mappings reach one granule, and no two tables stand in one
  pub pages : (a b : Spot) (ripas other : Ripas) (granule : ℕ) → s.leaf a.realm a.level a.number ≡ Some (Assigned ripas granule)
      → s.leaf b.realm b.level b.number ≡ Some (Assigned other granule) → a ≡ b
  pub tables : (a b : Spot) (granule : ℕ) → s.table a.realm a.level a.number ≡ Some granule
      → s.table b.realm b.level b.number ≡ Some granule → a ≡ b
