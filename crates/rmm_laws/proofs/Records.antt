-- A record of a realm or of a REC is replaced by what a command makes of it.
use Rattle.rmm_laws.proofs.SoundCommon.{◌-◌, ◌==◌, ◌∙◌, ◌≡◌, Bool, IsRequest, IsSound, IsTrue, None, Option, Rd, RealmRecord, RecRecord, Request, Some, State, ap, both_ways, eq-eqb, eqb-true, false, false_from_ne_true, has_tag, is_some, realm_at, rec_at, refl, runs_on, subst, ℕ}
use Rattle.std.proofs.Common.{is_none}
use Rattle.std.proofs.lemmas.List.{length-set}
use Rattle.rmm_spec.specs.declared.change.RealmChange.{RealmChange}
use Rattle.rmm_spec.specs.declared.change.RealmUpdate.{RealmUpdate}
use Rattle.rmm_spec.specs.declared.change.RealmUpdate.TheVariants as realm_update
use Rattle.rmm_spec.specs.declared.change.RecChange.{RecChange}
use Rattle.rmm_spec.specs.declared.change.RecUpdate.{RecUpdate}
use Rattle.rmm_spec.specs.declared.change.RecUpdate.TheVariants as rec_update
use Rattle.rmm_spec.specs.declared.function_id.FunctionId.TheVariants as function
use Rattle.rmm_spec.specs.Function.{number_of}
use Rattle.rmm_spec.specs.State.{Pending, Psci, RipasChange, HostCall}
use Rattle.rmm_spec.specs.Update.{with_realm}
use Rattle.rmm_spec.specs.Change.{realm_updated, rec_updated, with_realm_change, with_rec_change}
use Rattle.rmm_spec.specs.Applicable.{CanUpdateRec, CanChangeRealm, CanChangeRec}
use Rattle.rmm_laws.proofs.Cases.{nothing_there}
use Rattle.rmm_laws.proofs.Kept.{IsLike}
use Rattle.rmm_laws.proofs.RealmChanged.{with_realm_sound}
use Rattle.rmm_laws.proofs.RecChanged.{CanStandFor, with_rec_sound}
use Rattle.rmm_laws.proofs.Searches.{none_runs, realm_there, rec_there, realm_at-is}

-- ---- realms

-- no update changes a realm's address space, root or VMID
pub updated_like : (update : RealmUpdate) (r : RealmRecord) → IsLike r (realm_updated update r)
unfolding realm_updated
updated_like (realm_update.MeasurementExtended index size values) r =
    record { width = refl; start_level = refl; vmid = refl; root = refl; measured = length-set r.rems (index - 1) _ }
updated_like _ r = record { width = refl; start_level = refl; vmid = refl; root = refl; measured = refl }

-- a realm's record is updated
pub realm_updated_sound : (s : State) (rd : ℕ) (update : RealmUpdate) → IsSound s → IsTrue (has_tag s rd Rd)
    → IsSound (with_realm s rd (realm_updated update (realm_at s rd)))
realm_updated_sound s rd update sound tag =
    with_realm_sound s rd (realm_at s rd) _ sound (realm_there s rd sound tag) (updated_like update (realm_at s rd))

-- a realm's record is updated, or none is
pub realm_change_sound : (s : State) (change : Option RealmChange) → IsSound s → CanChangeRealm s change → IsSound (with_realm_change s change)
realm_change_sound s None sound can = sound
realm_change_sound s (Some change) sound can = realm_updated_sound s change.rd change.update sound can.0

-- ---- RECs

-- a REC stays on its CPU alone
still_alone : (s : State) (a : ℕ) (old : RecRecord) → IsSound s → s.rec a ≡ Some old
    → (g cpu : ℕ) → IsTrue (runs_on cpu (Some old)) → (g == a) ≡ false → runs_on cpu (s.rec g) ≡ false
still_alone s a old sound there g cpu runs apart =
    false_from_ne_true _ (λ other. both_ways (eq-eqb g a (sound.recs.alone g a cpu other (ap (runs_on cpu) there ∙ runs))) apart)

-- a request is replaced by one of the pages of the REC's own realm
asks : (s : State) (old : RecRecord) (request : Request) → IsRequest (realm_at s old.owner) request
    → (r : RealmRecord) (q : Request) → s.realm old.owner ≡ Some r → Some request ≡ Some q → IsRequest r q
asks s old request is r q at same =
    let here : request ≡ q = cc in subst (λ x. IsRequest r x) here (subst (λ x. IsRequest x request) (realm_at-is s old.owner r at) is)

-- a REC that runs may wait to leave, and not for a RIPAS change
waits_stands : (s : State) (a : ℕ) (old : RecRecord) (p : Pending) (runnable : Bool) → IsSound s → s.rec a ≡ Some old → IsTrue (is_some old.cpu)
    → (Some p ≡ Some RipasChange → ⊥) → CanStandFor s a old (record old { pending = Some p; runnable = runnable })
waits_stands s a old p runnable sound there runs other = record {
  there = there;
  owner = refl;
  aux0 = refl;
  aux1 = refl;
  alone = still_alone s a old sound there;
  running = λ _ pending. runs;
  asked = λ pending. absurd (other pending);
  requests = λ r q at. sound.recs.requests a old r q there at;
}

-- what becomes of a REC's record may stand in its place
updated_stands : (update : RecUpdate) (s : State) (a : ℕ) (old : RecRecord) → IsSound s → s.rec a ≡ Some old → CanUpdateRec s old update
    → CanStandFor s a old (rec_updated update old)
unfolding rec_updated
updated_stands (rec_update.Entered cpu) s a old sound there can = record {
  there = there;
  owner = refl;
  aux0 = refl;
  aux1 = refl;
  alone = λ g other runs apart. let is : cpu ≡ other = eqb-true cpu other runs in rw (← is) (none_runs s cpu sound can.1 g);
  running = λ p pending. refl;
  asked = λ pending. both_ways can.2 (ap is_none pending);
  requests = λ r q at none. nothing_there refl none;
}
updated_stands rec_update.Exited s a old sound there can = record {
  there = there;
  owner = refl;
  aux0 = refl;
  aux1 = refl;
  alone = λ g other bad. both_ways bad refl;
  running = λ p none. nothing_there refl none;
  asked = λ none. nothing_there refl none;
  requests = λ r q at. sound.recs.requests a old r q there at;
}
updated_stands (rec_update.RipasRequested base top ripas) s a old sound there can = record {
  there = there;
  owner = refl;
  aux0 = refl;
  aux1 = refl;
  alone = still_alone s a old sound there;
  running = λ p pending. can.0;
  asked = λ pending. refl;
  requests = asks s old _ can.1;
}
updated_stands (rec_update.HostCalled imm) s a old sound there can = waits_stands s a old (HostCall imm) old.runnable sound there can (λ same. cc)
updated_stands rec_update.TurnedOff s a old sound there can =
    waits_stands s a old (Psci (number_of function.CpuOff)) false sound there can (λ same. cc)
updated_stands rec_update.SystemTurnedOff s a old sound there can =
    waits_stands s a old (Psci (number_of function.SystemOff)) old.runnable sound there can (λ same. cc)
updated_stands (rec_update.RequestMoved base) s a old sound there can = record {
  there = there;
  owner = refl;
  aux0 = refl;
  aux1 = refl;
  alone = still_alone s a old sound there;
  running = λ p. sound.recs.running a old p there;
  asked = λ pending. refl;
  requests = asks s old _ can.2;
}

-- a REC's record is updated, or none is
pub rec_change_sound : (s : State) (change : Option RecChange) → IsSound s → CanChangeRec s change → IsSound (with_rec_change s change)
rec_change_sound s None sound can = sound
rec_change_sound s (Some change) sound can =
    let there = rec_there s change.rec sound can.0 in
    with_rec_sound s change.rec (rec_at s change.rec) _ sound (updated_stands change.update s change.rec (rec_at s change.rec) sound there can.1)

-- ---- both

-- what a realm's record must be for a change is not a matter of RECs
realm_change_later : (s : State) (realm : Option RealmChange) (rec : Option RecChange)
    → CanChangeRealm s realm → CanChangeRealm (with_rec_change s rec) realm
unfolding has_tag
realm_change_later s None rec can = can
realm_change_later s (Some change) None can = can
realm_change_later s (Some change) (Some other) can = can

-- the two records may be replaced in either order
pub records_swapped : (s : State) (realm : Option RealmChange) (rec : Option RecChange)
    → with_realm_change (with_rec_change s rec) realm ≡ with_rec_change (with_realm_change s realm) rec
unfolding realm_at rec_at
records_swapped s None rec = refl
records_swapped s (Some change) None = refl
records_swapped s (Some change) (Some other) = refl

-- records of a realm and of a REC are updated
pub records_sound : (s : State) (realm : Option RealmChange) (rec : Option RecChange) → IsSound s → CanChangeRealm s realm → CanChangeRec s rec
    → IsSound (with_rec_change (with_realm_change s realm) rec)
records_sound s realm rec sound can_realm can_rec =
    subst IsSound (records_swapped s realm rec)
    (realm_change_sound (with_rec_change s rec) realm (rec_change_sound s rec sound can_rec) (realm_change_later s realm rec can_realm))
