-- What is told of the state before a step, as far as its command names it.
use Rattle.std.specs.Prelude.{◌≡◌, ◌⊎◌, ℕ, IsTrue, List, [], ◌∷◌, All, Contains, take, Option, Some, IfSome, MatchOption, option_map}
use Rattle.rmm_spec.specs.declared.call.Call.{Call}
use Rattle.rmm_spec.specs.Lookup.{is_granule, is_inside, rec_inside}
use Rattle.rmm_spec.specs.Ownership.{IsTied}
use Rattle.rmm_spec.specs.Rows.{Needed}
use Rattle.rmm_spec.specs.State.{State, RealmRecord, RecRecord}
use Rattle.rmm_spec.specs.Step.Terms.{Way, named, way_of}
use Rattle.rmm_spec.specs.Walk.{entry_for}
use Rattle.realm_desc.specs.View.{pending_of}
use Rattle.reasons.specs.declared.before.GranuleBefore.{GranuleBefore}
use Rattle.reasons.specs.declared.before.RealmBefore.{RealmBefore}
use Rattle.reasons.specs.declared.before.RecBefore.{RecBefore}
use Rattle.reasons.specs.declared.before.StateBefore.{StateBefore}
use Rattle.reasons.specs.declared.before.WalkBefore.{WalkBefore}
use Rattle.reasons.specs.declared.facts.EntryRead.{EntryRead}
use Rattle.explain.specs.Facts.{IsFound, entry_seen}

-- a granule's tag, and the realm to which the state ties it, if it does
pub record IsGranuleBefore (s : State) (at : ℕ) (told : GranuleBefore) : Type 0 where
  pub granule : told.granule ≡ at
  pub tag : IsFound s at told.tag
  pub owner : MatchOption told.rd (IsTrue (is_granule s.config.granules at) → (realm : ℕ) → ¬ IsTied (s.tag at) s at realm)
      (λ realm. IsTied (s.tag at) s at realm)

-- each of the granules that are named
abbrev pub AreGranulesBefore : State → List Needed → List GranuleBefore → Type 0
AreGranulesBefore s [] [] = Unit {0}
AreGranulesBefore s (name ∷ names) (told ∷ others) = IsGranuleBefore s name.granule told × AreGranulesBefore s names others
AreGranulesBefore s _ _ = ⊥

-- the realm at the address
pub record IsRealmBefore (s : State) (told : RealmBefore) : Type 0 where
  pub realm : RealmRecord
  pub there : s.realm told.rd ≡ Some realm
  pub state : told.state ≡ realm.state
  pub width : told.width ≡ realm.width
  pub start_level : told.start_level ≡ realm.start_level
  pub vmid : told.vmid ≡ realm.vmid
  pub algo : told.algo ≡ realm.algo
  pub root : told.root ≡ realm.root
  pub next_index : told.next_index ≡ realm.next_index

-- the REC at the address
pub record IsRecBefore (s : State) (told : RecBefore) : Type 0 where
  pub rec : RecRecord
  pub there : s.rec told.rec ≡ Some rec
  pub rd : told.rd ≡ rec.owner
  pub index : told.index ≡ rec.index
  pub runnable : told.runnable ≡ rec.runnable
  pub cpu : told.cpu ≡ rec.cpu
  pub request : told.request ≡ rec.request
  pub pending : option_map pending_of told.pending ≡ rec.pending

-- the entry for the address at the level
abbrev pub IsEntryBefore : State → ℕ → ℕ → EntryRead → Type 0
IsEntryBefore s rd ipa read = read ≡ entry_seen read.level (entry_for s rd read.level ipa)

-- the entries for the address that the command walks for
abbrev pub IsWalkBefore : State → Call → WalkBefore → Type 0
IsWalkBefore s given told =
    (way : Way) × (way_of given ≡ Some way) × (told.ipa ≡ way.ipa) × All (IsEntryBefore s way.rd way.ipa) told.entries.items

-- the command names a granule there
abbrev pub IsNamedAt : Call → ℕ → Type 0
IsNamedAt given granule = (name : Needed) × Contains (named given) name × (name.granule ≡ granule)

-- the realm is named, or is that of the REC
abbrev pub IsRealmOf : Call → Option RecBefore → ℕ → Type 0
IsRealmOf given rec rd = IsNamedAt given rd ⊎ IfSome rec (λ told. told.rd ≡ rd)

-- the REC is named, or the CPU is inside it
abbrev pub IsRecOf : State → ℕ → Call → ℕ → Type 0
IsRecOf s cpu given rec = IsNamedAt given rec ⊎ (IsTrue (is_inside s cpu) × (rec ≡ rec_inside s cpu))

pub record IsBefore (s : State) (cpu : ℕ) (given : Call) (told : StateBefore) : Type 0 where
  pub granules : AreGranulesBefore s (take 4 (named given)) told.granules.items
  pub realm : IfSome told.realm (λ realm. IsRealmBefore s realm × IsRealmOf given told.rec realm.rd)
  pub rec : IfSome told.rec (λ rec. IsRecBefore s rec × IsRecOf s cpu given rec.rec)
  pub walk : IfSome told.walk (IsWalkBefore s given)
