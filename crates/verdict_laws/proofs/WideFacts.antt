-- Realms of so many bits of addresses: one that a call makes is so behind it, is so until it is destroyed, and none of its addresses is refused.
use Rattle.verdict_laws.proofs.Common.{◌≡◌, ℕ, ◌-◌, ◌==◌, ◌&&◌, nat_le, nat_lt, true, false, is_some, Option, Some, None, refl, sym, ◌∙◌, ap, eqb-true, eq-eqb, unwrap_or, and_parts, Call, Command, Reply, Rd, call_of, changed, realm_updated, has_tag, no_realm, realm_at, is_accepted, IsSound, RealmRecord, State, Step, named, words_of, both_ways, behind}
use Rattle.std.proofs.Common.{◌^◌}
use Rattle.rmm_spec.specs.declared.call.Call.TheVariants as call
use Rattle.rmm_spec.specs.declared.change.RealmUpdate.{RealmUpdate}
use Rattle.rmm_spec.specs.declared.change.RealmUpdate.TheVariants as realm_update
use Rattle.rmm_spec.specs.Rows.{all_allowed}
use Rattle.verdict_laws.specs.Denying.{is_refused_with, lies_in}
use Rattle.verdict_laws.specs.Facts.{has_width, makes_wide, may_narrow}
use Rattle.verdict_laws.proofs.FactSteps.{IsDoneSo, are_tagged, are_told, step-has, step-untold_there}
use Rattle.verdict_laws.proofs.RealmChanges.{realm-kept}

-- a record that is updated is as wide as it was
updated-width : (update : RealmUpdate) (realm : RealmRecord) → (realm_updated update realm).width ≡ realm.width
unfolding realm_updated
updated-width realm_update.Activated realm = refl
updated-width _ realm = refl

-- so a realm that is so wide is so where it is updated
updated_wide : (width : ℕ) (update : RealmUpdate) (found : Option RealmRecord) → has_width found width ≡ true
    → has_width (Some (realm_updated update (unwrap_or found no_realm))) width ≡ true
updated_wide width update None is = both_ways is refl
updated_wide width update (Some realm) is = eq-eqb _ width (updated-width update realm ∙ eqb-true realm.width width is)

-- what is so wide is there, and is read so
found_wide : (found : Option RealmRecord) (width : ℕ) → has_width found width ≡ true
    → (is_some found ≡ true) × ((unwrap_or found no_realm).width ≡ width)
found_wide None width is = both_ways is refl
found_wide (Some realm) width is = (refl, eqb-true realm.width width is)

module _ (rd width : ℕ) (s : State) (is : has_width (s.realm rd) width ≡ true) where
  -- what is read of the realm
  pub read_wide : (other : ℕ) → rd ≡ other → (realm_at s other).width ≡ width
  unfolding realm_at
  read_wide other same = ap (λ g. (unwrap_or (s.realm g) no_realm).width) (sym same) ∙ (found_wide (s.realm rd) width is).1

  -- its granule has its tag
  pub rd_tagged : IsSound s → (other : ℕ) → rd ≡ other → has_tag s other Rd ≡ true
  rd_tagged sound other same = ap (λ g. has_tag s g Rd) (sym same) ∙ sym (sound.realms.tagged rd) ∙ (found_wide (s.realm rd) width is).0

-- ---- behind a call

module _ (rd width : ℕ) (s : State) (cpu : ℕ) where
  -- REALM_CREATE makes it so wide
  behind_makes : (c : Call) → makes_wide c rd width ≡ true
      → IsDoneSo (λ change. has_width ((changed s change).realm rd) width ≡ true) (behind s cpu c).1
  unfolding behind makes_wide changed
  behind_makes (call.RealmCreate other root its_width level vmid algo) makes =
      let parts = and_parts (rd == other) (width == its_width) makes in
      rw parts.0 (eq-eqb its_width width (sym (eqb-true width its_width parts.1)))
  behind_makes _ makes = both_ways makes refl

  -- a call that lies in it finds its realm's granule, and isn't refused for its addresses
  behind_lies : IsSound s → has_width (s.realm rd) width ≡ true → (c : Call) → lies_in c rd width ≡ true
      → (are_tagged s (named c) ≡ true) × (are_told (is_refused_with 1) (behind s cpu c).0 ≡ false)
  unfolding behind named lies_in
  behind_lies sound is (call.DataDestroy other ipa) lies =
      let parts = and_parts (rd == other) (nat_lt ipa (2 ^ (width - 1))) lies in
      let here = eqb-true rd other parts.0 in
      let below = ap (λ w. nat_lt ipa (2 ^ (w - 1))) (read_wide rd width s is other here) ∙ parts.1 in
      (rw (rd_tagged rd width s is sound other here) refl, rw below refl)
  behind_lies sound is (call.RttInitRipas other base top) lies =
      let parts = and_parts (rd == other) (nat_le top (2 ^ (width - 1))) lies in
      let here = eqb-true rd other parts.0 in
      let within = ap (λ w. nat_le top (2 ^ (w - 1))) (read_wide rd width s is other here) ∙ parts.1 in
      (rw (rd_tagged rd width s is sound other here) refl, rw within refl)
  behind_lies sound is _ lies = both_ways lies refl

-- ---- steps

-- where the call makes a realm so wide and is accepted, the realm is so
pub wide-made : (rd width : ℕ) (s new : State) (cpu : ℕ) (command : Command) (given : Reply) → Step s cpu command given new
    → is_accepted given ≡ true → makes_wide (call_of command) rd width ≡ true → has_width (new.realm rd) width ≡ true
wide-made rd width s new cpu command given step accepted makes =
    step-has (λ t. has_width (t.realm rd) width ≡ true) _ s new cpu command given (λ change is. is) (both_ways accepted)
    (behind_makes rd width s cpu (call_of command) makes) step

-- a realm stays as wide, but by a call that may make or destroy it
pub wide-left : (rd width : ℕ) (s new : State) (cpu : ℕ) (command : Command) (given : Reply) → Step s cpu command given new
    → may_narrow (call_of command) rd ≡ false → has_width (s.realm rd) width ≡ true → has_width (new.realm rd) width ≡ true
wide-left rd width s new cpu command given =
    realm-kept (λ found. has_width found width) (updated_wide width) rd s new cpu command given

-- and no call that lies in it, whose words are allowed, is refused for what they say or name
pub wide-denied : (rd width : ℕ) (s new : State) (cpu : ℕ) (command : Command) (given : Reply) → IsSound s → Step s cpu command given new
    → has_width (s.realm rd) width ≡ true
    → (is_refused_with 1 given && all_allowed (words_of (call_of command)) && lies_in (call_of command) rd width) ≡ true → ⊥
wide-denied rd width s new cpu command given sound step is denied =
    let c = call_of command in
    let parts = and_parts (is_refused_with 1 given && all_allowed (words_of c)) (lies_in c rd width) denied in
    let refused = and_parts (is_refused_with 1 given) (all_allowed (words_of c)) parts.0 in
    let lies = behind_lies rd width s cpu sound is c parts.1 in
    both_ways refused.0 (step-untold_there (is_refused_with 1) (λ words. refl) refl s new cpu command given refused.1 lies.0 lies.1 step)
