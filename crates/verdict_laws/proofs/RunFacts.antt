-- Realms that were activated: one that is stays so until it is destroyed, and no call that needs it new is carried out.
use Rattle.verdict_laws.proofs.Common.{◌≡◌, ℕ, ◌==◌, ◌&&◌, true, false, IsTrue, Option, Some, None, refl, sym, ◌∙◌, ap, eqb-true, unwrap_or, and_parts, not-true, Call, Command, Reply, call_of, changed, realm_updated, no_realm, realm_at, is_accepted, IsSound, RealmRecord, State, Step, outcome, both_ways, behind}
use Rattle.std.proofs.lemmas.Bool.{eq-eqb}
use Rattle.rmm_spec.specs.declared.call.Call.TheVariants as call
use Rattle.rmm_spec.specs.declared.change.RealmUpdate.{RealmUpdate}
use Rattle.rmm_spec.specs.declared.change.RealmUpdate.TheVariants as realm_update
use Rattle.rmm_spec.specs.Lookup.{is_new}
use Rattle.verdict_laws.specs.Denying.{needs_new}
use Rattle.verdict_laws.specs.Facts.{activates, has_run, may_narrow}
use Rattle.rmm_laws.proofs.ByRows.{AllHold}
use Rattle.verdict_laws.proofs.FactSteps.{IsDoneSo, step-has}
use Rattle.verdict_laws.proofs.RealmChanges.{realm-kept}
use Rattle.verdict_laws.proofs.TagFacts.{carried_by}

-- a realm that isn't new isn't where it is updated
updated_run : (update : RealmUpdate) (found : Option RealmRecord) → has_run found ≡ true
    → has_run (Some (realm_updated update (unwrap_or found no_realm))) ≡ true
unfolding realm_updated
updated_run update None is = both_ways is refl
updated_run realm_update.Activated (Some realm) is = refl
updated_run realm_update.TurnedOff (Some realm) is = refl
updated_run _ (Some realm) is = is

-- what was activated isn't read as new
pub read_run : (rd : ℕ) (s : State) → has_run (s.realm rd) ≡ true → is_new (realm_at s rd) ≡ false
unfolding realm_at
read_run rd s is = by (s.realm rd) is
  where
    by : (found : Option RealmRecord) → has_run found ≡ true → is_new (unwrap_or found no_realm) ≡ false
    by None is = both_ways is refl
    by (Some realm) is = not-true (is_new realm) is

module _ (rd : ℕ) (s : State) (cpu : ℕ) where
  -- REALM_ACTIVATE activates it
  behind_makes : (c : Call) → activates c rd ≡ true → IsDoneSo (λ change. has_run ((changed s change).realm rd) ≡ true) (behind s cpu c).1
  unfolding behind activates changed realm_updated
  behind_makes (call.RealmActivate other) makes = rw (eq-eqb rd other (eqb-true rd other makes)) refl
  behind_makes _ makes = both_ways makes refl

  -- the row of a call that needs it new doesn't hold
  needs_row : (other : ℕ) → has_run (s.realm rd) ≡ true → (rd == other) ≡ true → IsTrue (is_new (realm_at s other)) → ⊥
  needs_row other is same new = both_ways new (ap (λ g. is_new (realm_at s g)) (sym (eqb-true rd other same)) ∙ read_run rd s is)

  -- so not all rows of such a call hold
  rows_fail : has_run (s.realm rd) ≡ true → (c : Call) → needs_new c rd ≡ true → AllHold (behind s cpu c).0 → ⊥
  unfolding behind needs_new
  rows_fail is (call.DataCreate other granule ipa source flags digest) needs rows = needs_row other is needs rows.1.0
  rows_fail is (call.RealmActivate other) needs rows = needs_row other is needs rows.0
  rows_fail is (call.RecCreate other rec mpidr flags aux0 aux1) needs rows = needs_row other is needs rows.0
  rows_fail is (call.RttInitRipas other base top) needs rows = needs_row other is needs rows.1.0
  rows_fail is _ needs rows = both_ways needs refl

-- ---- steps

-- where the call activates the realm and is accepted, it was activated
pub run-made : (rd : ℕ) (s new : State) (cpu : ℕ) (command : Command) (given : Reply) → Step s cpu command given new
    → is_accepted given ≡ true → activates (call_of command) rd ≡ true → has_run (new.realm rd) ≡ true
run-made rd s new cpu command given step accepted makes =
    step-has (λ t. has_run (t.realm rd) ≡ true) _ s new cpu command given (λ change is. is) (both_ways accepted)
    (behind_makes rd s cpu (call_of command) makes) step

-- it stays so, but by a call that may make or destroy it
pub run-left : (rd : ℕ) (s new : State) (cpu : ℕ) (command : Command) (given : Reply) → Step s cpu command given new
    → may_narrow (call_of command) rd ≡ false → has_run (s.realm rd) ≡ true → has_run (new.realm rd) ≡ true
run-left rd s new cpu command given = realm-kept has_run updated_run rd s new cpu command given

-- and no call that needs it new is carried out
pub run-denied : (rd : ℕ) (s new : State) (cpu : ℕ) (command : Command) (given : Reply) → IsSound s → Step s cpu command given new
    → has_run (s.realm rd) ≡ true → (is_accepted given && needs_new (call_of command) rd) ≡ true → ⊥
run-denied rd s new cpu command given sound step is denied =
    let c = call_of command in
    let parts = and_parts (is_accepted given) (needs_new c rd) denied in
    rows_fail rd s cpu is c parts.1 (carried_by s cpu command given new (outcome s cpu c) sound parts.0 refl step).rows
