-- What a call leads to is the same with nothing measured, but for a reading of a measurement.
use Rattle.verdict_laws.proofs.Common.{◌≡◌, ℕ, zero, suc, ◌+◌, ◌*◌, if◌then◌else◌, IsTrue, Option, Some, None, refl, sym, ◌∙◌, ap, subst, Err, unwrap_or, Call, Misplaced, State, RealmRecord, has_tag, no_realm, is_inside, rec_inside, realm_at, rec_at, is_vmid_used, has_rec, entry_number, reach, entry_at, decided, IsReached, with_front, is_placed, misplacement, answer_of, outcome, behind}
use Rattle.std.specs.Prelude.{⊤, is_some, option_map}
use Rattle.rmm_spec.specs.declared.accepted.Stretch.{Stretch}
use Rattle.rmm_spec.specs.declared.call.Call.TheVariants as call
use Rattle.rmm_spec.specs.declared.call.Removal.{Removal}
use Rattle.rmm_spec.specs.declared.call.Removal.TheVariants.{Destroy, Fold}
use Rattle.rmm_spec.specs.Lookup.{any_below, has_vmid}
use Rattle.rmm_spec.specs.Walk.{table_number, has_entry}
use Rattle.rmm_spec.specs.Step.Table.{ripas_left}
use Rattle.rmm_spec.specs.Step.Ripas.{can_be_set}
use Rattle.rmm_spec.specs.Step.Terms.{Class, ByHost, ByRealm, ByExit, class_of}
use Rattle.verdict_laws.specs.Unread.{unmeasured, unmeasured_realm}

-- the states differ in measurements alone
abbrev pub Alike : State → State → Type 0
Alike s t = unmeasured s ≡ unmeasured t

-- what is read of a realm is the same but for its measurements
pub realm_at-unmeasured : (s : State) (rd : ℕ) → realm_at (unmeasured s) rd ≡ unmeasured_realm (realm_at s rd)
unfolding realm_at
realm_at-unmeasured s rd = by (s.realm rd)
  where
    by : (o : Option RealmRecord) → unwrap_or (option_map unmeasured_realm o) no_realm ≡ unmeasured_realm (unwrap_or o no_realm)
    by None = refl
    by (Some realm) = refl

-- the same VMIDs are in use
is_vmid_used-unmeasured : (s : State) (vmid : ℕ) → is_vmid_used (unmeasured s) vmid ≡ is_vmid_used s vmid
unfolding is_vmid_used
is_vmid_used-unmeasured s vmid = λ i. any_below s.config.granules (λ k. by (s.realm (k * 4096)) i)
  where
    by : (o : Option RealmRecord) → has_vmid vmid (option_map unmeasured_realm o) ≡ has_vmid vmid o
    by None = refl
    by (Some realm) = refl

-- a walk ends where it did
reach-unmeasured : (s : State) (rd ipa max : ℕ) → reach (unmeasured s) rd ipa max ≡ reach s rd ipa max
unfolding reach
reach-unmeasured s rd ipa zero = refl
reach-unmeasured s rd ipa (suc l) =
    ap (λ n. if is_some (s.table rd (suc l) (table_number (suc l) ipa)) then suc l else n) (reach-unmeasured s rd ipa l)

-- a table leaves the same RIPAS
left-unmeasured : (s : State) (removal : Removal) (rd level number : ℕ)
    → ripas_left removal (unmeasured s) rd level number ≡ ripas_left removal s rd level number
unfolding ripas_left has_entry entry_at
left-unmeasured s Destroy rd level number = refl
left-unmeasured s Fold rd level number = refl

-- a stretch is reached in both of two states that differ in measurements alone
pub IsReached-alike : (s t : State) (stretch : Stretch) (top : ℕ) → Alike s t → IsReached s stretch top → IsReached t stretch top
unfolding entry_at
IsReached-alike s t stretch top same reached = record {
  count = reached.count;
  some = reached.some;
  is_end = reached.is_end;
  within = reached.within;
  in_table = reached.in_table;
  each = λ k below. subst
      (λ (u : State). IsTrue (can_be_set stretch.purpose (entry_at u stretch.rd stretch.level (entry_number stretch.level stretch.base + k))))
      same (reached.each k below);
}

-- the call reads no measurement
abbrev pub ReadsNone : Call → Type 0
ReadsNone (call.MeasurementRead index) = ⊥
ReadsNone _ = ⊤

-- what stands behind the rows on words and tags is the same
abbrev BehindSame : State → ℕ → Call → Type 0
BehindSame s cpu c = ((behind (unmeasured s) cpu c).0 ≡ (behind s cpu c).0) × ((behind (unmeasured s) cpu c).1 ≡ (behind s cpu c).1)

-- it is for every call but a reading
behind-unmeasured : (s : State) (cpu : ℕ) (c : Call) → ReadsNone c → BehindSame s cpu c
unfolding behind rec_at has_rec has_entry rec_inside entry_at
behind-unmeasured s cpu (call.MeasurementRead index) none = absurd none
behind-unmeasured s cpu (call.RealmCreate rd root width level vmid algo) none = rw (is_vmid_used-unmeasured s vmid) (refl, refl)
behind-unmeasured s cpu (call.RealmActivate rd) none = rw (realm_at-unmeasured s rd) (refl, refl)
behind-unmeasured s cpu (call.RealmDestroy rd) none = rw (realm_at-unmeasured s rd) (refl, refl)
behind-unmeasured s cpu (call.RecCreate rd rec mpidr flags aux0 aux1) none = rw (realm_at-unmeasured s rd) (refl, refl)
behind-unmeasured s cpu (call.RecEnter rec) none = rw (realm_at-unmeasured s (rec_at s rec).owner) (refl, refl)
behind-unmeasured s cpu (call.DataCreate rd granule ipa source flags digest) none =
    rw (realm_at-unmeasured s rd, reach-unmeasured s rd ipa 3) (refl, refl)
behind-unmeasured s cpu (call.DataCreateUnknown rd granule ipa) none = rw (realm_at-unmeasured s rd, reach-unmeasured s rd ipa 3) (refl, refl)
behind-unmeasured s cpu (call.DataDestroy rd ipa) none = rw (realm_at-unmeasured s rd, reach-unmeasured s rd ipa 3) (refl, refl)
behind-unmeasured s cpu (call.RttCreate rd rtt ipa level) none = rw (realm_at-unmeasured s rd, reach-unmeasured s rd ipa _) (refl, refl)
behind-unmeasured s cpu (call.RttRemove removal rd ipa level) none =
    rw (realm_at-unmeasured s rd, reach-unmeasured s rd ipa _, left-unmeasured s removal rd level (table_number level ipa)) (refl, refl)
behind-unmeasured s cpu (call.RttMapUnprotected rd ipa page) none = rw (realm_at-unmeasured s rd, reach-unmeasured s rd ipa 3) (refl, refl)
behind-unmeasured s cpu (call.RttReadEntry rd ipa level) none = rw (realm_at-unmeasured s rd, reach-unmeasured s rd ipa level) (refl, refl)
behind-unmeasured s cpu (call.RttUnmapUnprotected rd ipa) none = rw (realm_at-unmeasured s rd, reach-unmeasured s rd ipa 3) (refl, refl)
behind-unmeasured s cpu (call.RttInitRipas rd base top) none = rw (realm_at-unmeasured s rd, reach-unmeasured s rd base 3) (refl, refl)
behind-unmeasured s cpu (call.RttSetRipas rd rec base top) none = rw (reach-unmeasured s rd base 3) (refl, refl)
behind-unmeasured s cpu call.RealmConfig none = rw (realm_at-unmeasured s (rec_at s (rec_inside s cpu)).owner) (refl, refl)
behind-unmeasured s cpu (call.IpaStateSet base top ripas) none = rw (realm_at-unmeasured s (rec_at s (rec_inside s cpu)).owner) (refl, refl)
behind-unmeasured s cpu (call.IpaStateGet ipa) none =
    rw (realm_at-unmeasured s (rec_at s (rec_inside s cpu)).owner, reach-unmeasured s (rec_at s (rec_inside s cpu)).owner ipa 3) (refl, refl)
behind-unmeasured s cpu _ none = (refl, refl)

-- what is answered where the call is placed is the same
answer-unmeasured : (s : State) (cpu : ℕ) (c : Call) → ReadsNone c → answer_of (unmeasured s) cpu c ≡ answer_of s cpu c
unfolding has_tag
answer-unmeasured s cpu c none =
    let same = behind-unmeasured s cpu c none in
    (behind (unmeasured s) cpu c).2 ∙ (λ i. decided (with_front s c (same.0 i)) (same.1 i)) ∙ sym (behind s cpu c).2

-- a call is placed where it was
placed-unmeasured : (s : State) (cpu : ℕ) (class : Class) → is_placed (unmeasured s) cpu class ≡ is_placed s cpu class
unfolding is_inside rec_inside rec_at
placed-unmeasured s cpu ByHost = refl
placed-unmeasured s cpu ByRealm = refl
placed-unmeasured s cpu ByExit = refl

-- what the call leads to is the same
outcome-unmeasured : (s : State) (cpu : ℕ) (c : Call) → ReadsNone c → outcome (unmeasured s) cpu c ≡ outcome s cpu c
unfolding outcome is_inside
outcome-unmeasured s cpu c none = λ i.
    if placed-unmeasured s cpu (class_of c) i then answer-unmeasured s cpu c none i
    else Err (Misplaced (misplacement (is_inside s cpu) (class_of c)))

-- so a call leads to the same in states that differ in measurements alone
pub outcome-alike : (s t : State) (cpu : ℕ) (c : Call) → Alike s t → ReadsNone c → outcome s cpu c ≡ outcome t cpu c
outcome-alike s t cpu c same none =
    sym (outcome-unmeasured s cpu c none) ∙ ap (λ (u : State). outcome u cpu c) same ∙ outcome-unmeasured t cpu c none
