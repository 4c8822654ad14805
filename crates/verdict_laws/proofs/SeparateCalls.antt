-- Two calls of different realms' tables, or that lend granules, with no granule that both work on, come either way round.
use Rattle.verdict_laws.proofs.Common.{◌≡◌, ℕ, ◌-◌, ◌==◌, Bool, true, false, ◌||◌, [], ◌∷◌, Option, Some, None, refl, sym, ◌∙◌, subst, eqb-true, eq-eqb, Result, Ok, Err, false_from_ne_true, ne_eqb, or_left, or_right, Accepted, Done, Reaches, Call, Change, Unchanged, Command, Refusal, Reply, call_of, State, CanApply, changed, is_named, is_inside, ok, IsSound, reached_change, named, CarriesOut, Step, outcome, both_ways, behind, outcome-leads, lent, is_local}
use Rattle.rmm_spec.specs.declared.call.Call.TheVariants as call
use Rattle.rmm_spec.specs.declared.reply.Reply.TheVariants as reply
use Rattle.rmm_spec.specs.Walk.{entry_address, walk}
use Rattle.rmm_laws.proofs.Runs.{done_applies, reached_applies}
use Rattle.verdict_laws.specs.Separate.{AreSeparate, is_freed, table_realm, works_on}
use Rattle.verdict_laws.proofs.Patches.{AreDisjoint, IsChangeOf, IsTagOf, IsWithin, Patch, changed-patched, is_own, patch_of, patch_of-within, patched, patched-swapped, tag_of_change}
use Rattle.verdict_laws.proofs.SeparateLooks.{AgreeOn, AgreeOn-sym, IsReached-agree, outcome-agree}

-- ---- what a call changes

-- the change is of the call's realm, and puts a tag only where the call works
abbrev pub IsWorkOf : Call → Reply → Change → Type 0
IsWorkOf c given change = IsChangeOf (table_realm c) change × IsTagOf (works_on c given) (tag_of_change change)

-- so is what is accepted, whatever end a reply gives, and a stretch is of the realm
abbrev pub IsAcceptedOf : (Reply → Change → Type 0) → Option ℕ → Accepted → Type 0
IsAcceptedOf Work own (Done words change) = Work (reply.Ok words) change
IsAcceptedOf Work own (Reaches stretch) = (own ≡ Some stretch.rd) × ((top : ℕ) → Work (ok (top ∷ [])) (reached_change stretch top))

-- a granule that is named behind the realm
named_second : (rd granule : ℕ) (others freed : Bool) → (rd == granule || (granule == granule || others) || freed) ≡ true
named_second rd granule others freed =
    or_left (rd == granule || (granule == granule || others)) freed
    (or_right (rd == granule) (granule == granule || others) (or_left (granule == granule) others (eq-eqb granule granule refl)))

-- a granule that the reply tells
told_freed : (names : Bool) (granule : ℕ) → (names || granule == granule) ≡ true
told_freed names granule = or_right names (granule == granule) (eq-eqb granule granule refl)

-- each such call accepts what is of its realm
pub behind_work : (s : State) (cpu : ℕ) (c : Call) → is_local c ≡ true → IsAcceptedOf (IsWorkOf c) (table_realm c) (behind s cpu c).1
unfolding table_realm lent is_freed behind named reached_change
behind_work s cpu (call.GranuleDelegate granule) local = (tt, rw (eq-eqb granule granule refl) refl)
behind_work s cpu (call.GranuleUndelegate granule) local = (tt, rw (eq-eqb granule granule refl) refl)
behind_work s cpu (call.DataCreate rd granule ipa source flags digest) local = ((refl, refl), named_second rd granule _ _)
behind_work s cpu (call.DataCreateUnknown rd granule ipa) local = ((refl, tt), named_second rd granule _ _)
behind_work s cpu (call.DataDestroy rd ipa) local =
    let granule = entry_address (walk s rd ipa 3).entry in ((refl, tt), told_freed (is_named (named (call.DataDestroy rd ipa)) granule) granule)
behind_work s cpu (call.RealmActivate rd) local = (refl, tt)
behind_work s cpu (call.RttCreate rd rtt ipa level) local = (refl, named_second rd rtt _ _)
behind_work s cpu (call.RttRemove removal rd ipa level) local =
    let rtt = entry_address (walk s rd ipa (level - 1)).entry in (refl, told_freed (is_named (named (call.RttRemove removal rd ipa level)) rtt) rtt)
behind_work s cpu (call.RttMapUnprotected rd ipa page) local = ((refl, tt), tt)
behind_work s cpu (call.RttReadEntry rd ipa level) local = (tt, tt)
behind_work s cpu (call.RttUnmapUnprotected rd ipa) local = ((refl, tt), tt)
behind_work s cpu (call.RttInitRipas rd base top) local = (refl, λ end. ((refl, refl), tt))
behind_work s cpu _ local = both_ways local refl

-- ---- steps

-- A step makes a change that is such work and that a sound state can take, and makes it in each state that agrees.
pub record IsChanging (Work : Reply → Change → Type 0) (Agrees : State → Type 0)
    (s : State) (cpu : ℕ) (command : Command) (given : Reply) (new : State) : Type 0 where
  pub change : Change
  pub work : Work given change
  pub applies : IsSound s → CanApply s change
  pub is_new : new ≡ changed s change
  pub again : (t : State) → Agrees t → Step t cpu command given (changed t change)

module _ (Work : Reply → Change → Type 0) (Agrees : State → Type 0) (s : State) (cpu : ℕ) (command : Command) (given : Reply) (new : State)
    (on : (t : State) → Agrees t → AgreeOn cpu (call_of command) s t)
    (same : (t : State) → Agrees t → outcome t cpu (call_of command) ≡ outcome s cpu (call_of command))
    (idle : Work given Unchanged) (accepts : IsAcceptedOf Work (table_realm (call_of command)) (behind s cpu (call_of command)).1) where
  -- what the same outcome makes of a state that agrees is a step there
  step_again : (found : Result Accepted Refusal) → outcome s cpu (call_of command) ≡ found → (t last : State) → Agrees t
      → CarriesOut found t given last → Step t cpu command given last
  step_again found is t last agree carried =
      subst (λ (r : Result Accepted Refusal). CarriesOut r t given last) (sym (same t agree ∙ is)) carried

  -- what is accepted is such work
  accepted_work : (accepted : Accepted) → outcome s cpu (call_of command) ≡ Ok accepted → IsAcceptedOf Work (table_realm (call_of command)) accepted
  accepted_work accepted is =
      subst (λ (a : Accepted). IsAcceptedOf Work (table_realm (call_of command)) a) (outcome-leads s cpu (call_of command) (Ok accepted) is).1 accepts

  -- by what the call leads to
  changing_by : (found : Result Accepted Refusal) → outcome s cpu (call_of command) ≡ found → CarriesOut found s given new
      → IsChanging Work Agrees s cpu command given new
  unfolding changed
  changing_by (Err refused) is carried = record {
    change = Unchanged;
    work = idle;
    applies = λ sound. tt;
    is_new = carried.1;
    again = λ t agree. step_again (Err refused) is t t agree (carried.0, refl);
  }
  changing_by (Ok (Done words change)) is carried = record {
    change = change;
    work = subst (λ (r : Reply). Work r change) (sym carried.0) (accepted_work (Done words change) is);
    applies = λ sound. done_applies s cpu command words.items change sound is;
    is_new = carried.1;
    again = λ t agree. step_again (Ok (Done words change)) is t (changed t change) agree (carried.0, refl);
  }
  changing_by (Ok (Reaches stretch)) is carried =
      let top = carried.0 in
      let change = reached_change stretch top in
      let work = accepted_work (Reaches stretch) is in
      record {
        change = change;
        work = subst (λ (r : Reply). Work r change) (sym carried.1.1) (work.1 top);
        applies = λ sound. reached_applies s cpu command stretch top sound is carried.1.0;
        is_new = carried.1.2;
        again = λ t agree. step_again (Ok (Reaches stretch)) is t (changed t change) agree (
          top,
          (IsReached-agree s t cpu (call_of command) stretch top (on t agree) work.0 carried.1.0, carried.1.1, refl),
        );
      }

  -- so each step does
  pub step_changing : Step s cpu command given new → IsChanging Work Agrees s cpu command given new
  step_changing step = changing_by (outcome s cpu (call_of command)) refl step

-- A step puts a patch that is within the call's realm and the granules that it works on, in each state that agrees on what it reads.
pub record IsPatching (s : State) (cpu : ℕ) (command : Command) (given : Reply) (new : State) : Type 0 where
  pub patch : Patch
  pub within : IsWithin (works_on (call_of command) given) (is_own (table_realm (call_of command))) patch
  pub is_new : new ≡ patched s patch
  pub again : (t : State) → AgreeOn cpu (call_of command) s t → Step t cpu command given (patched t patch)

-- so does each step of a local call
pub step_patching : (s : State) (cpu : ℕ) (command : Command) (given : Reply) (new : State) → is_local (call_of command) ≡ true
    → Step s cpu command given new → IsPatching s cpu command given new
step_patching s cpu command given new local step =
    let c = call_of command in
    let made = step_changing (IsWorkOf c) (AgreeOn cpu c s) s cpu command given new (λ t agree. agree)
    (λ t agree. outcome-agree s t cpu c local agree) (tt, tt) (behind_work s cpu c local) step in
    record {
      patch = patch_of made.change;
      within = patch_of-within (works_on c given) (table_realm c) made.change made.work.1 made.work.0;
      is_new = made.is_new ∙ changed-patched s (table_realm c) made.change made.work.0;
      again = λ t agree. subst (λ (u : State). Step t cpu command given u) (changed-patched t (table_realm c) made.change made.work.0)
          (made.again t agree);
    }

-- ---- what another call leaves

-- a patch of other granules and realms leaves what the call reads
pub AgreeOn-patched : (s : State) (cpu : ℕ) (c : Call) (granules realms : ℕ → Bool) (p : Patch) → IsWithin granules realms p
    → AreDisjoint (is_named (named c)) granules → AreDisjoint (is_own (table_realm c)) realms → AgreeOn cpu c s (patched s p)
unfolding is_inside
AgreeOn-patched s cpu c granules realms p within apart others = record {
  config = refl;
  inside = refl;
  tag = λ granule is. within.tag granule (apart granule is) (s.tag granule);
  realm = λ rd is. within.realm rd (elsewhere rd is) (s.realm rd);
  table = λ rd is. within.table rd (elsewhere rd is) (s.table rd);
  leaf = λ rd is. within.leaf rd (elsewhere rd is) (s.leaf rd);
}
  where
    elsewhere : (rd : ℕ) → table_realm c ≡ Some rd → realms rd ≡ false
    elsewhere rd is = others rd ((λ i. is_own (is i) rd) ∙ eq-eqb rd rd refl)

-- ---- two calls

-- the realms of separate calls are apart
pub realms_apart : (mine yours : Option ℕ) → ((rd other : ℕ) → mine ≡ Some rd → yours ≡ Some other → ¬ (rd ≡ other))
    → AreDisjoint (is_own mine) (is_own yours)
realms_apart None yours differ n is = both_ways is refl
realms_apart (Some rd) None differ n is = refl
realms_apart (Some rd) (Some other) differ n is = ne_eqb n other (λ same. differ rd other refl refl (sym (eqb-true n rd is) ∙ same))

-- nothing passes the two tests either way round
pub disjoint-sym : (mine yours : ℕ → Bool) → AreDisjoint mine yours → AreDisjoint yours mine
disjoint-sym mine yours apart n is = false_from_ne_true (mine n) (λ hit. both_ways is (apart n hit))

module _ (old middle new : State) (cpu other : ℕ) (one two : Command) (given answered : Reply)
    (separate : AreSeparate (call_of one) given (call_of two) answered)
    (first : Step old cpu one given middle) (second : Step middle other two answered new) where
  -- both come the other way round
  pub separate_turned : (between : State) × Step old other two answered between × Step between cpu one given new
  separate_turned =
      let c = call_of one in
      let d = call_of two in
      let before = step_patching old cpu one given middle separate.first first in
      let p = before.patch in
      let later : Step (patched old p) other two answered new = subst (λ (s : State). Step s other two answered new) before.is_new second in
      let after = step_patching (patched old p) other two answered new separate.second later in
      let q = after.patch in
      let realms = realms_apart (table_realm c) (table_realm d) separate.realms in
      let granules : AreDisjoint (works_on c given) (works_on d answered) = separate.granules in
      let granules_too = disjoint-sym (works_on c given) (works_on d answered) granules in
      let same : new ≡ patched (patched old q) p =
      after.is_new
      ∙ patched-swapped old (works_on c given) (works_on d answered) (is_own (table_realm c)) (is_own (table_realm d)) p q
      before.within after.within granules realms in
      let early = AgreeOn-patched old other d (works_on c given) (is_own (table_realm c)) p before.within
      (λ g is. granules_too g (or_left (is_named (named d) g) (is_freed d answered g) is))
      (disjoint-sym (is_own (table_realm c)) (is_own (table_realm d)) realms) in
      let late = AgreeOn-patched old cpu c (works_on d answered) (is_own (table_realm d)) q after.within
      (λ g is. granules g (or_left (is_named (named c) g) (is_freed c given g) is)) realms in (
        patched old q,
        after.again old (AgreeOn-sym other d old (patched old p) early),
        subst (λ (s : State). Step (patched old q) cpu one given s) (sym same) (before.again (patched old q) late),
      )
