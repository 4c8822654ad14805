-- Realms that aren't activated: what a call makes so is so behind it, stays so but by its activation, and refuses no call that needs it.
use Rattle.verdict_laws.proofs.Common.{◌≡◌, ℕ, ◌==◌, ◌&&◌, if◌then◌else◌, Bool, true, false, not, Option, Some, None, refl, sym, ◌∙◌, ap, eqb-true, unwrap_or, and_from, false_from_ne_true, Call, Change, RealmMade, RealmDestroyed, RecMade, RecordsChanged, EntriesChanged, Replaced, RipasSet, RealmChange, RecChange, TagChange, Command, Reply, call_of, changed, realm_updated, with_realm_change, with_tag_change, no_realm, realm_at, is_accepted, RealmRecord, State, Step, reached_change, both_ways, behind, by_address, with_records}
use Rattle.std.proofs.lemmas.Bool.{eq-eqb}
use Rattle.rmm_spec.specs.declared.call.Call.TheVariants as call
use Rattle.rmm_spec.specs.declared.change.RealmUpdate.{RealmUpdate}
use Rattle.rmm_spec.specs.declared.change.RealmUpdate.TheVariants as realm_update
use Rattle.rmm_spec.specs.Change.{new_realm}
use Rattle.rmm_spec.specs.Lookup.{is_new}
use Rattle.rmm_laws.proofs.Keeps.{rec_change-rest, tag_change-rest}
use Rattle.verdict_laws.specs.Denying.{is_refused_with, needs_new}
use Rattle.verdict_laws.specs.Facts.{is_still_new, makes_realm, may_activate}
use Rattle.verdict_laws.proofs.FactSteps.{IsDoneSo, are_told, step-has, step-untold}

-- ---- behind a change

-- whether the update leaves no realm new
abbrev activates : RealmUpdate → Bool
activates realm_update.Activated = true
activates realm_update.TurnedOff = true
activates _ = false

-- whether a record is replaced so, and is this realm's
abbrev is_activated : Option RealmChange → ℕ → Bool
is_activated None rd = false
is_activated (Some change) rd = activates change.update && rd == change.rd

-- whether the change does that
abbrev is_activated_by : Change → ℕ → Bool
is_activated_by (RecordsChanged realm rec) rd = is_activated realm rd
is_activated_by (EntriesChanged other level entries page realm rec) rd = is_activated realm rd
is_activated_by _ rd = false

-- a record that is updated otherwise is as new as it was
updated-new : (update : RealmUpdate) (realm : RealmRecord) → activates update ≡ false → is_new (realm_updated update realm) ≡ is_new realm
unfolding realm_updated
updated-new realm_update.Activated realm keeps = both_ways refl keeps
updated-new realm_update.TurnedOff realm keeps = both_ways refl keeps
updated-new _ realm keeps = refl

-- what is read where no realm is counts as new
still_new-read : (found : Option RealmRecord) → is_still_new found ≡ is_new (unwrap_or found no_realm)
still_new-read None = refl
still_new-read (Some realm) = refl

module _ (rd : ℕ) (s : State) (new : is_still_new (s.realm rd) ≡ true) where
  -- what is read of the realm
  read_new : (other : ℕ) → rd ≡ other → is_new (realm_at s other) ≡ true
  unfolding realm_at
  read_new other same = ap (λ g. is_new (unwrap_or (s.realm g) no_realm)) (sym same) ∙ sym (still_new-read (s.realm rd)) ∙ new

  -- where another record is put, or one that is new, it is still new
  put_new : (other : ℕ) (put : Option RealmRecord) → (rd ≡ other → is_still_new put ≡ true)
      → is_still_new (if rd == other then put else s.realm rd) ≡ true
  put_new other put here = by_address (λ found. is_still_new found ≡ true) rd other put (s.realm rd) here (λ _. new)

  -- so it is where a record is replaced without an activation of the realm, or none is
  replaced_new : (realm : Option RealmChange) → is_activated realm rd ≡ false → is_still_new ((with_realm_change s realm).realm rd) ≡ true
  replaced_new None keeps = new
  replaced_new (Some change) keeps =
      put_new change.rd (Some (realm_updated change.update (realm_at s change.rd))) (λ here.
      updated-new change.update (realm_at s change.rd)
      (false_from_ne_true (activates change.update) (λ is. both_ways (and_from _ _ is (eq-eqb rd change.rd here)) keeps)) ∙ read_new change.rd here)

-- so it is behind the tag of a page and the records of a realm and of a REC
records_new : (rd : ℕ) (s : State) (page : Option TagChange) (realm : Option RealmChange) (rec : Option RecChange)
    → is_activated realm rd ≡ false → is_still_new (s.realm rd) ≡ true → is_still_new ((with_records s page realm rec).realm rd) ≡ true
records_new rd s page realm rec keeps new =
    let still = λ (realms : ℕ → Option RealmRecord). is_still_new (realms rd) in
    let t = with_tag_change s page in
    ap still (rec_change-rest (with_realm_change t realm) rec).3 ∙ replaced_new rd t (ap still (tag_change-rest s page).2 ∙ new) realm keeps

-- a change that doesn't activate the realm leaves it new
changed_new : (rd : ℕ) (s : State) (change : Change) → is_activated_by change rd ≡ false → is_still_new (s.realm rd) ≡ true
    → is_still_new ((changed s change).realm rd) ≡ true
unfolding changed
changed_new rd s (RealmMade other root width level vmid algo) keeps new =
    put_new rd s new other (Some (new_realm root width level vmid algo)) (λ _. refl)
changed_new rd s (RealmDestroyed other root) keeps new = put_new rd s new other None (λ _. refl)
changed_new rd s (RecMade other rec mpidr flags aux0 aux1) keeps new =
    let counted = realm_update.RecCounted mpidr flags in
    put_new rd s new other (Some (realm_updated counted (realm_at s other)))
    (λ here. updated-new counted (realm_at s other) refl ∙ read_new rd s new other here)
changed_new rd s (RecordsChanged realm rec) keeps new = records_new rd s None realm rec keeps new
changed_new rd s (EntriesChanged other level (Replaced number entry) page realm rec) keeps new = records_new rd s page realm rec keeps new
changed_new rd s (EntriesChanged other level (RipasSet first last ripas) page realm rec) keeps new = records_new rd s page realm rec keeps new
changed_new rd s _ keeps new = new

-- ---- behind a call

module _ (rd : ℕ) (s : State) (cpu : ℕ) where
  -- REALM_CREATE makes it new
  behind_makes : (c : Call) → makes_realm c rd ≡ true → IsDoneSo (λ change. is_still_new ((changed s change).realm rd) ≡ true) (behind s cpu c).1
  unfolding behind makes_realm changed
  behind_makes (call.RealmCreate other root width level vmid algo) makes =
      ap (λ (b : Bool). is_still_new (if b then Some (new_realm root width level vmid algo) else s.realm rd))
      (eq-eqb rd other (sym (eqb-true other rd makes)))
  behind_makes _ makes = both_ways makes refl

  -- a call that can't activate it makes no change that does
  behind_leaves : (c : Call) → may_activate c rd ≡ false → IsDoneSo (λ change. is_activated_by change rd ≡ false) (behind s cpu c).1
  unfolding behind may_activate reached_change
  behind_leaves (call.RealmActivate other) keeps = keeps
  behind_leaves call.SystemOff keeps = both_ways refl keeps
  behind_leaves (call.RttInitRipas other base top) keeps = λ end. refl
  behind_leaves (call.RttSetRipas other rec base top) keeps = λ end. refl
  behind_leaves _ keeps = refl

  module _ (new : is_still_new (s.realm rd) ≡ true) where
    -- where it is new, the row that needs that holds
    row_new : (other : ℕ) → (rd == other && not (is_new (realm_at s other))) ≡ false
    row_new other = by (rd == other) refl
      where
        by : (b : Bool) → (rd == other) ≡ b → (b && not (is_new (realm_at s other))) ≡ false
        by true same = ap not (read_new rd s new other (eqb-true rd other same))
        by false apart = refl

    -- so a call that needs it new isn't refused for a row on realms
    behind_needs : (c : Call) → are_told (λ given. is_refused_with 2 given && needs_new c rd) (behind s cpu c).0 ≡ false
    unfolding behind needs_new
    behind_needs (call.DataCreate other granule ipa source flags digest) = rw (row_new other) refl
    behind_needs (call.RealmActivate other) = rw (row_new other) refl
    behind_needs (call.RecCreate other rec mpidr flags aux0 aux1) = rw (row_new other) refl
    behind_needs (call.RttInitRipas other base top) = rw (row_new other) refl
    behind_needs _ = refl

-- ---- steps

-- where the call makes the realm and is accepted, the realm is new
pub realm-made : (rd : ℕ) (s new : State) (cpu : ℕ) (command : Command) (given : Reply) → Step s cpu command given new
    → is_accepted given ≡ true → makes_realm (call_of command) rd ≡ true → is_still_new (new.realm rd) ≡ true
realm-made rd s new cpu command given step accepted makes =
    step-has (λ t. is_still_new (t.realm rd) ≡ true) _ s new cpu command given (λ change is. is) (both_ways accepted)
    (behind_makes rd s cpu (call_of command) makes) step

-- a realm that is new stays so, but by a call that may activate it
pub realm-left : (rd : ℕ) (s new : State) (cpu : ℕ) (command : Command) (given : Reply) → Step s cpu command given new
    → may_activate (call_of command) rd ≡ false → is_still_new (s.realm rd) ≡ true → is_still_new (new.realm rd) ≡ true
realm-left rd s new cpu command given step keeps is =
    step-has (λ t. is_still_new (t.realm rd) ≡ true) (λ change. is_activated_by change rd ≡ false) s new cpu command given
    (λ change other. changed_new rd s change other is) (λ _. is) (behind_leaves rd s cpu (call_of command) keeps) step

-- and no call that needs it so is refused by it
pub realm-denied : (rd : ℕ) (s new : State) (cpu : ℕ) (command : Command) (given : Reply) → Step s cpu command given new
    → is_still_new (s.realm rd) ≡ true → (is_refused_with 2 given && needs_new (call_of command) rd) ≡ true → ⊥
realm-denied rd s new cpu command given step is denied =
    both_ways denied (step-untold (λ r. is_refused_with 2 r && needs_new (call_of command) rd) (λ words. refl) refl refl s new cpu command given
    (behind_needs rd s cpu is (call_of command)) step)
