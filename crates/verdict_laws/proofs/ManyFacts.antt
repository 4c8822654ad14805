-- Where all facts of a list hold, no call is given a reply that they deny, one by itself or all together.
use Rattle.verdict_laws.proofs.Common.{◌≡◌, ℕ, ◌-◌, ◌≤◌, ◌==◌, ◌&&◌, ◌||◌, nat_le, nat_lt, Bool, true, false, IsTrue, List, is_some, inl, inr, refl, sym, ◌∙◌, ap, eq-eqb, eqb-true, arith, Err, is_none, unwrap_or, and_from, and_parts, cases_Bool, not-true, or_cases, Call, Command, Reply, Delegated, Rd, Rec, call_of, class_of, has_tag, is_inside, is_vmid_used, no_rec, realm_at, rec_at, rec_inside, request_of, Needed, decided, IsSound, RealmRecord, State, Step, outcome, is_accepted, named, words_of, both_ways, behind, realm_there, Fact, holds}
use Rattle.std.proofs.Common.{◌^◌, All}
use Rattle.std.specs.Prelude.{if◌then◌else◌, not}
use Rattle.std.specs.List.{list_all, list_any}
use Rattle.std.proofs.lemmas.Bool.{le-leb, leb-true, lt-ltb}
use Rattle.std.proofs.lemmas.Bool.Decides.{nat_tests}
use Rattle.std.proofs.lemmas.List.Elements.{All-contains, All-weaker}
use Rattle.std.proofs.lemmas.List.Sums.{AllPass-from_list_all, list_all-from_AllPass}
use Rattle.rmm_spec.specs.declared.call.Call.TheVariants as call
use Rattle.rmm_spec.specs.declared.condition.Condition.TheVariants as condition
use Rattle.rmm_spec.specs.declared.refusal.Refusal.TheVariants as refusal
use Rattle.rmm_spec.specs.declared.version.Version.{Version}
use Rattle.rmm_spec.specs.declared.version.Version.TheVariants.{One, Two, Large}
use Rattle.rmm_spec.specs.Lookup.{allows_hash, is_granule, is_new}
use Rattle.rmm_spec.specs.Rows.{all_allowed}
use Rattle.rmm_spec.specs.Step.Terms.{is_page, is_space}
use Rattle.rmm_spec.specs.Walk.{full, half}
use Rattle.spec_lemmas.proofs.Members.{Contains-from_slice_get, passing_member}
use Rattle.rmm_laws.proofs.Spaces.{space_cases}
use Rattle.verdict_laws.specs.declared.facts.Fact.TheVariants.{Activated, AsksFrom, RunsOrAsksTo, HasRipas, Idle, OwnedBy, PartOf, Runnable, RunsOn, RunsOrAsksWithin, SoleVmid, Tagged, Wide}
use Rattle.verdict_laws.specs.declared.placing.ExitReason.{ExitReason}
use Rattle.verdict_laws.specs.declared.placing.Standing.{Standing}
use Rattle.verdict_laws.specs.declared.placing.Standing.TheVariants.{Inside, Outside}
use Rattle.verdict_laws.specs.Denying.{are_ready, are_within, asks_pages, denies, deny, deny_input, deny_inside, deny_new, deny_rec, enters_run, give_half, give_pages, give_tag, give_vmid, gives_base, gives_half, gives_idle, gives_no_owner, gives_none, gives_other_ripas, gives_owner, gives_realm, gives_run, gives_runnable, gives_running, gives_tag, gives_top, gives_vmid, is_refused_new, is_refused_with}
use Rattle.verdict_laws.specs.Facts.{is_one_entry, is_tag, is_told, runs_or_asks}
use Rattle.verdict_laws.proofs.AskingFacts.{asking_there, asks-idle}
use Rattle.verdict_laws.proofs.FactKinds.{held-denies}
use Rattle.verdict_laws.proofs.FactSteps.{IsUntold, IsUntold-decided, are_tagged, are_told, step-untold, step-untold_behind}
use Rattle.verdict_laws.proofs.PartFacts.{no_owner-given, no_part}
use Rattle.verdict_laws.proofs.RecFacts.{from_read, idle_read, idle_there, owner_read, run_read, to_read}
use Rattle.verdict_laws.proofs.RunFacts.{read_run}
use Rattle.verdict_laws.proofs.RunningFacts.{running_read, running_there}
use Rattle.verdict_laws.proofs.RipasFacts.{inside_told}
use Rattle.verdict_laws.proofs.Standings.{reason_at, standing-inside, standing_of}
use Rattle.verdict_laws.proofs.TagFacts.{IsCarried, carried_by, tag-from_is_tag}
use Rattle.verdict_laws.proofs.VmidFacts.{none-given, vmid-unused}
use Rattle.verdict_laws.proofs.WideFacts.{rd_tagged, read_wide}

-- ---- what one fact gives

-- Where a realm's address lies: in the protected half, and so in the whole space, and the tables for it begin at level 0 or 1.
record IsInHalf (r : RealmRecord) (ipa : ℕ) : Type 0 where
  lower : nat_lt ipa (half r) ≡ true
  inside : nat_lt ipa (full r) ≡ true
  first : r.start_level ≤ 1

-- an address of the protected half does
IsInHalf-from_lower : (r : RealmRecord) (ipa : ℕ) → IsTrue (is_space r.width r.start_level) → nat_lt ipa (half r) ≡ true → IsInHalf r ipa
IsInHalf-from_lower r ipa space lower = elim (space_cases r.width r.start_level space) [
  | inl small ↦ record {
    lower = lower;
    inside = let is = rw small.0 at lower in rw small.0 (grind (arith, nat_tests, is));
    first = omega (arith, small.1);
  }
  | inr large ↦ record {
    lower = lower;
    inside = let is = rw large.0 at lower in rw large.0 (grind (arith, nat_tests, is));
    first = omega (arith, large.1);
  }
]

-- each version has SHA-256
sha256-allowed : (version : Version) → allows_hash version 0 ≡ true
sha256-allowed One = refl
sha256-allowed Two = refl
sha256-allowed Large = refl

module _ (s : State) (sound : IsSound s) where
  -- an address lies in the half that a fact gives
  IsInHalf-given : (rd ipa : ℕ) (fact : Fact) → holds fact s ≡ true → gives_half rd ipa fact ≡ true → IsInHalf (realm_at s rd) ipa
  IsInHalf-given rd ipa (Wide other width) is gives =
      let parts = and_parts (rd == other) (nat_lt ipa (2 ^ (width - 1))) gives in
      let here = sym (eqb-true rd other parts.0) in
      let r = realm_at s rd in
      IsInHalf-from_lower r ipa (sound.realms.spaces rd r (realm_there s rd sound (rd_tagged other width s is sound rd here)))
      (ap (λ w. nat_lt ipa (2 ^ (w - 1))) (read_wide other width s is rd here) ∙ parts.1)
  IsInHalf-given rd ipa _ is gives = both_ways gives refl

  -- ---- what all give

  module _ (facts : List Fact) (hold : All (λ (fact : Fact). holds fact s ≡ true) facts) where
    -- where one of them passes a test, what follows from any that holds and passes it is so
    from_one : {P : Type 0} (test : Fact → Bool) → ((fact : Fact) → holds fact s ≡ true → test fact ≡ true → P) → list_any test facts ≡ true → P
    from_one test says any =
        let found = passing_member test facts any in
        says found.1 (All-contains (λ (fact : Fact). holds fact s ≡ true) facts found.1 hold (Contains-from_slice_get facts found.0 found.1 found.2))
        found.3

    -- so is the granule of a REC that is there tagged as one
    rec_tagged : (n : Needed) (rec : ℕ) → is_some (s.rec rec) ≡ true → (n.granule == rec && is_tag n.tag Rec) ≡ true
        → has_tag s n.granule n.tag ≡ true
    rec_tagged n rec there gives =
        let parts = and_parts (n.granule == rec) (is_tag n.tag Rec) gives in
        rw (tag-from_is_tag n.tag Rec parts.1)
        (ap (λ g. has_tag s g Rec) (eqb-true n.granule rec parts.0) ∙ sym (sound.recs.tagged rec) ∙ there)

    -- so a granule has the tag that a fact gives it
    has_tag-given : (n : Needed) → is_granule s.config.granules n.granule ≡ true → (fact : Fact) → holds fact s ≡ true
        → gives_tag facts n fact ≡ true → has_tag s n.granule n.tag ≡ true
    unfolding has_tag
    has_tag-given n inside (Tagged granule tag) is gives =
        let parts = and_parts (n.granule == granule) (is_tag n.tag tag) gives in
        and_from _ _ inside (rw (eqb-true n.granule granule parts.0, tag-from_is_tag n.tag tag parts.1) is)
    has_tag-given n inside (Wide rd width) is gives =
        let parts = and_parts (n.granule == rd) (is_tag n.tag Rd) gives in
        rw (tag-from_is_tag n.tag Rd parts.1) (rd_tagged rd width s is sound n.granule (sym (eqb-true n.granule rd parts.0)))
    has_tag-given n inside (PartOf granule owner) is gives =
        let parts = and_parts (n.granule == granule && is_tag n.tag Delegated) (list_any (gives_no_owner owner) facts) gives in
        let names = and_parts (n.granule == granule) (is_tag n.tag Delegated) parts.0 in
        let none = no_part s owner (from_one (gives_no_owner owner) (no_owner-given s owner sound) parts.1) granule in
        and_from _ _ inside (rw (eqb-true n.granule granule names.0, tag-from_is_tag n.tag Delegated names.1)
        (ap (λ b. b || is_tag (s.tag granule) Delegated) (sym none) ∙ is))
    has_tag-given n inside (AsksFrom rec base) is gives = rec_tagged n rec (from_read base (s.rec rec) is).2 gives
    has_tag-given n inside (RunsOrAsksWithin rec least most) is gives = rec_tagged n rec (asking_there least most (s.rec rec) is) gives
    has_tag-given n inside (Idle rec) is gives = rec_tagged n rec (idle_there (s.rec rec) is) gives
    has_tag-given n inside (RunsOn rec at) is gives = rec_tagged n rec (running_there at (s.rec rec) is) gives
    has_tag-given n inside _ is gives = both_ways gives refl

    -- so each granule that is named has its tag
    are_tagged-given : (granules : ℕ) (names : List Needed) → s.config.granules ≡ granules
        → list_all (give_tag granules facts) names ≡ true → are_tagged s names ≡ true
    are_tagged-given granules names size give =
        let has = λ (n : Needed). has_tag s n.granule n.tag in
        list_all-from_AllPass has names (All-weaker (λ n. give_tag granules facts n ≡ true) (λ n. has n ≡ true) (λ n gives.
        let parts = and_parts (is_granule granules n.granule) (list_any (gives_tag facts n) facts) gives in
        from_one (gives_tag facts n) (has_tag-given n (ap (λ g. is_granule g n.granule) size ∙ parts.0)) parts.1)
        names (AllPass-from_list_all (give_tag granules facts) names give))

    -- and an address lies in its half
    IsInHalf-give : (rd ipa : ℕ) → give_half facts rd ipa ≡ true → IsInHalf (realm_at s rd) ipa
    IsInHalf-give rd ipa = from_one (gives_half rd ipa) (IsInHalf-given rd ipa)

    -- and so it is where the level is tested too
    IsInHalf-at : (least level rd ipa : ℕ) → (nat_le least level && give_half facts rd ipa) ≡ true
        → (least ≤ level) × IsInHalf (realm_at s rd) ipa
    IsInHalf-at least level rd ipa is =
        let parts = and_parts (nat_le least level) (give_half facts rd ipa) is in
        (leb-true least level parts.0, IsInHalf-give rd ipa parts.1)

    -- and no realm has a VMID that a fact gives
    unused-given : (vmid : ℕ) (fact : Fact) → holds fact s ≡ true → gives_vmid facts vmid fact ≡ true → is_vmid_used s vmid ≡ false
    unused-given vmid (SoleVmid rd its_vmid) is gives =
        let parts = and_parts (vmid == its_vmid) (list_any (gives_none rd) facts) gives in
        ap (is_vmid_used s) (eqb-true vmid its_vmid parts.0)
        ∙ vmid-unused s rd its_vmid sound is (from_one (gives_none rd) (none-given s rd sound) parts.1)
    unused-given vmid _ is gives = both_ways gives refl

    -- ---- RECs

    module _ (rec : ℕ) (idle : is_none (rec_at s rec).cpu ≡ true) where
      -- what a REC asks for that runs on no CPU begins where a fact says
      base-given : (base : ℕ) (fact : Fact) → holds fact s ≡ true → gives_base rec base fact ≡ true → base ≡ (request_of (rec_at s rec)).base
      unfolding rec_at
      base-given base (AsksFrom other its_base) is gives =
          let parts = and_parts (rec == other) (base == its_base) gives in
          eqb-true base its_base parts.1 ∙ sym (from_read its_base (s.rec other) is).1
          ∙ ap (λ g. (request_of (unwrap_or (s.rec g) no_rec)).base) (sym (eqb-true rec other parts.0))
      base-given base (RunsOrAsksWithin other least most) is gives =
          let parts = and_parts (rec == other && base == least) (base == most) gives in
          let names = and_parts (rec == other) (base == least) parts.0 in
          let at = eqb-true rec other names.0 in
          let begins = (request_of (unwrap_or (s.rec rec) no_rec)).base in
          let within = and_parts (nat_le least begins) (nat_le begins most)
          (asks-idle least most (s.rec rec) (ap (λ g. runs_or_asks (s.rec g) least most) at ∙ is) idle) in
          let first = leb-true least begins within.0 in
          let last = leb-true begins most within.1 in
          let from = eqb-true base least names.1 in
          let up_to = eqb-true base most parts.1 in
          omega (arith, first, last, from, up_to)
      base-given base _ is gives = both_ways gives refl

      -- and it ends no earlier than one says
      top-given : (top : ℕ) (fact : Fact) → holds fact s ≡ true → gives_top rec top fact ≡ true
          → (is_some (rec_at s rec).request ≡ true) × (nat_le top (request_of (rec_at s rec)).top ≡ true)
      unfolding rec_at
      top-given top (RunsOrAsksTo other its_top ripas) is gives =
          let parts = and_parts (rec == other) (nat_le top its_top) gives in
          let at = eqb-true rec other parts.0 in
          let read = to_read its_top ripas (s.rec other) is (ap (λ g. is_none (unwrap_or (s.rec g) no_rec).cpu) (sym at) ∙ idle) in (
            ap (λ g. is_some (unwrap_or (s.rec g) no_rec).request) at ∙ read.0,
            (λ i. nat_le top ((ap (λ g. (request_of (unwrap_or (s.rec g) no_rec)).top) at ∙ read.1) i)) ∙ parts.1,
          )
      top-given top _ is gives = both_ways gives refl

    -- it runs on no CPU where one says so
    idle-given : (rec : ℕ) (fact : Fact) → holds fact s ≡ true → gives_idle rec fact ≡ true → is_none (rec_at s rec).cpu ≡ true
    unfolding rec_at
    idle-given rec (AsksFrom other base) is gives =
        ap (λ g. is_none (unwrap_or (s.rec g) no_rec).cpu) (eqb-true rec other gives) ∙ (from_read base (s.rec other) is).0
    idle-given rec (Idle other) is gives =
        ap (λ g. is_none (unwrap_or (s.rec g) no_rec).cpu) (eqb-true rec other gives) ∙ idle_read (s.rec other) is
    idle-given rec _ is gives = both_ways gives refl

    -- it runs where one says so
    running-given : (rec : ℕ) (fact : Fact) → holds fact s ≡ true → gives_running rec fact ≡ true → is_none (rec_at s rec).cpu ≡ false
    unfolding rec_at
    running-given rec (RunsOn other at) is gives =
        ap (λ g. is_none (unwrap_or (s.rec g) no_rec).cpu) (eqb-true rec other gives) ∙ running_read at (s.rec other) is
    running-given rec _ is gives = both_ways gives refl

    -- it can run
    runnable-given : (rec : ℕ) (fact : Fact) → holds fact s ≡ true → gives_runnable rec fact ≡ true → (rec_at s rec).runnable ≡ true
    unfolding rec_at
    runnable-given rec (Runnable other) is gives =
        ap (λ g. (unwrap_or (s.rec g) no_rec).runnable) (eqb-true rec other gives) ∙ run_read (s.rec other) is
    runnable-given rec _ is gives = both_ways gives refl

    -- it is the realm's
    owner-given : (rec rd : ℕ) (fact : Fact) → holds fact s ≡ true → gives_realm rec rd fact ≡ true → (rec_at s rec).owner ≡ rd
    unfolding rec_at
    owner-given rec rd (OwnedBy other its_rd) is gives =
        let parts = and_parts (rec == other) (rd == its_rd) gives in
        ap (λ g. (unwrap_or (s.rec g) no_rec).owner) (eqb-true rec other parts.0)
        ∙ owner_read its_rd (s.rec other) is ∙ sym (eqb-true rd its_rd parts.1)
    owner-given rec rd _ is gives = both_ways gives refl

    -- a realm was activated
    run-given : (rd : ℕ) (fact : Fact) → holds fact s ≡ true → gives_run rd fact ≡ true → is_new (realm_at s rd) ≡ false
    run-given rd (Activated other) is gives = ap (λ g. is_new (realm_at s g)) (eqb-true rd other gives) ∙ read_run other s is
    run-given rd _ is gives = both_ways gives refl

    -- that of a REC was
    owner_run-given : (rec : ℕ) (fact : Fact) → holds fact s ≡ true → gives_owner facts rec fact ≡ true
        → is_new (realm_at s (rec_at s rec).owner) ≡ false
    owner_run-given rec (OwnedBy other rd) is gives =
        let parts = and_parts (rec == other) (list_any (gives_run rd) facts) gives in
        let own = owner-given rec rd (OwnedBy other rd) is (and_from _ _ parts.0 (eq-eqb rd rd refl)) in
        ap (λ g. is_new (realm_at s g)) own ∙ from_one (gives_run rd) (run-given rd) parts.1
    owner_run-given rec _ is gives = both_ways gives refl

    module _ (cpu : ℕ) where
      -- so no REC is refused to be entered for its realm
      behind_run : (c : Call) → enters_run facts c ≡ true → are_told is_refused_new (behind s cpu c).0 ≡ false
      unfolding behind enters_run
      behind_run (call.RecEnter rec) run = rw (from_one (gives_owner facts rec) (owner_run-given rec) run) refl
      behind_run _ run = both_ways run refl

      -- nor is a call for its REC
      behind_ready : (c : Call) → are_ready facts c ≡ true → are_told (is_refused_with 3) (behind s cpu c).0 ≡ false
      unfolding behind are_ready
      behind_ready (call.RecEnter rec) ready =
          let parts = and_parts (list_any (gives_idle rec) facts) (list_any (gives_runnable rec) facts) ready in
          rw (from_one (gives_idle rec) (idle-given rec) parts.0, from_one (gives_runnable rec) (runnable-given rec) parts.1) refl
      behind_ready (call.RecDestroy rec) ready = rw (from_one (gives_idle rec) (idle-given rec) ready) refl
      behind_ready (call.RttSetRipas rd rec base top) ready =
          let parts = and_parts (list_any (gives_idle rec) facts) (list_any (gives_realm rec rd) facts) ready in
          rw (
            from_one (gives_idle rec) (idle-given rec) parts.0,
            eq-eqb _ rd (from_one (gives_realm rec rd) (owner-given rec rd) parts.1),
          ) refl
      behind_ready _ ready = both_ways ready refl

      -- so no row behind those on words and tags refuses with ERROR_INPUT
      behind_within : (c : Call) → are_within facts c ≡ true → are_told (is_refused_with 1) (behind s cpu c).0 ≡ false
      unfolding behind are_within
      behind_within (call.GranuleDelegate granule) within = refl
      behind_within (call.GranuleUndelegate granule) within = refl
      behind_within (call.DataCreate rd granule ipa source flags digest) within = rw (IsInHalf-give rd ipa within).lower refl
      behind_within (call.DataCreateUnknown rd granule ipa) within = rw (IsInHalf-give rd ipa within).lower refl
      behind_within (call.RealmCreate rd root width level vmid algo) within =
          let parts = and_parts (algo == 0) (give_vmid facts vmid) within in
          rw (
            ap (allows_hash s.config.version) (eqb-true algo 0 parts.0) ∙ sha256-allowed s.config.version,
            from_one (gives_vmid facts vmid) (unused-given vmid) parts.1,
          ) refl
      behind_within (call.RealmActivate rd) within = refl
      behind_within (call.RealmDestroy rd) within = refl
      behind_within (call.RecDestroy rec) within = refl
      behind_within (call.RecEnter rec) within = refl
      behind_within (call.RttCreate rd rtt ipa level) within =
          let is = IsInHalf-at 2 level rd ipa within in
          rw (lt-ltb (realm_at s rd).start_level level (omega (arith, is.0, is.1.first)), is.1.inside) refl
      behind_within (call.RttRemove removal rd ipa level) within =
          let is = IsInHalf-at 2 level rd ipa within in
          rw (lt-ltb (realm_at s rd).start_level level (omega (arith, is.0, is.1.first)), is.1.inside) refl
      behind_within (call.RttReadEntry rd ipa level) within =
          let is = IsInHalf-at 1 level rd ipa within in
          rw (le-leb (realm_at s rd).start_level level (omega (arith, is.0, is.1.first)), is.1.inside) refl
      behind_within _ within = both_ways within refl

      -- nor do those on what a REC that runs on no CPU asks for
      asked_idle : (rd rec base top : ℕ) → is_none (rec_at s rec).cpu ≡ true → give_pages facts rec base top ≡ true
          → are_told (is_refused_with 1) (behind s cpu (call.RttSetRipas rd rec base top)).0 ≡ false
      unfolding behind
      asked_idle rd rec base top idle gives =
          let from = list_any (gives_base rec base) facts in
          let parts = and_parts (nat_lt base top && is_page top && from) (list_any (gives_top rec top) facts) gives in
          let begins = and_parts (nat_lt base top && is_page top) from parts.0 in
          let pages = and_parts (nat_lt base top) (is_page top) begins.0 in
          let ends = from_one (gives_top rec top) (top-given rec idle top) parts.1 in
          rw (
            ends.0,
            ends.1,
            eq-eqb base _ (from_one (gives_base rec base) (base-given rec idle base) begins.1),
            pages.0,
            pages.1,
          ) refl

      -- and where it runs the call is refused for that before
      behind_asked : (c : Call) → asks_pages facts c ≡ true
          → IsUntold (is_refused_with 1) (λ words. refl) refl (decided (behind s cpu c).0 (behind s cpu c).1)
      unfolding behind asks_pages
      behind_asked (call.RttSetRipas rd rec base top) asks = elim (cases_Bool (is_none (rec_at s rec).cpu)) [
        | inl idle ↦ elim (or_cases (list_any (gives_running rec) facts) (give_pages facts rec base top) asks) [
          | inl running ↦ both_ways idle (from_one (gives_running rec) (running-given rec) running)
          | inr pages ↦
              let c = call.RttSetRipas rd rec base top in
              IsUntold-decided (is_refused_with 1) (λ words. refl) refl (behind s cpu c).0 (behind s cpu c).1
              (asked_idle rd rec base top idle pages)
        ]
        | inr runs ↦ rw runs (by ((rec_at s rec).owner == rd))
      ]
        where
          by : (own : Bool) → IsUntold (is_refused_with 1) (λ words. refl) refl
              (if own then Err (refusal.Rec condition.RecState) else Err (refusal.Rec condition.RecOwner))
          by true = refl
          by false = refl
      behind_asked _ asks = both_ways asks refl

    -- ---- steps

    module _ (new : State) (cpu : ℕ) (command : Command) (given : Reply) (step : Step s cpu command given new) where
      -- the call
      abbrev c : Call
      c = call_of command

      -- a call isn't refused with ERROR_INPUT where all is well that it says and names
      input-denied : (granules : ℕ) → s.config.granules ≡ granules → deny_input granules facts c given ≡ true → ⊥
      input-denied granules size denied =
          let tags = list_all (give_tag granules facts) (named c) in
          let parts = and_parts (is_refused_with 1 given && all_allowed (words_of c) && tags) (are_within facts c || asks_pages facts c) denied in
          let front = and_parts (is_refused_with 1 given && all_allowed (words_of c)) tags parts.0 in
          let refused = and_parts (is_refused_with 1 given) (all_allowed (words_of c)) front.0 in
          let untold : IsUntold (is_refused_with 1) (λ words. refl) refl (decided (behind s cpu c).0 (behind s cpu c).1) =
          elim (or_cases (are_within facts c) (asks_pages facts c) parts.1) [
            | inl within ↦
                IsUntold-decided (is_refused_with 1) (λ words. refl) refl (behind s cpu c).0 (behind s cpu c).1 (behind_within cpu c within)
            | inr asks ↦ behind_asked cpu c asks
          ] in
          both_ways refused.0 (step-untold_behind (is_refused_with 1) (λ words. refl) refl s new cpu command given refused.1
          (are_tagged-given granules (named c) size front.1) untold step)

      -- nor for a realm that was activated
      new-denied : deny_new facts c given ≡ true → ⊥
      new-denied denied =
          let parts = and_parts (is_refused_new given) (enters_run facts c) denied in
          both_ways parts.0 (step-untold is_refused_new (λ words. refl) refl refl s new cpu command given (behind_run cpu c parts.1) step)

      -- nor for a REC that is ready
      rec-denied : deny_rec facts c given ≡ true → ⊥
      rec-denied denied =
          let parts = and_parts (is_refused_with 3 given) (are_ready facts c) denied in
          both_ways parts.0 (step-untold (is_refused_with 3) (λ words. refl) refl refl s new cpu command given (behind_ready cpu c parts.1) step)

      -- so no call is given a reply that they deny
      pub held-deny : (granules : ℕ) → s.config.granules ≡ granules → deny granules facts c given ≡ true → ⊥
      held-deny granules size denied =
          let one = list_any (λ (fact : Fact). denies fact c given) facts in
          elim (or_cases (one || deny_input granules facts c given || deny_new facts c given) (deny_rec facts c given) denied) [
            | inl others ↦ elim (or_cases (one || deny_input granules facts c given) (deny_new facts c given) others) [
              | inl either ↦ elim (or_cases one (deny_input granules facts c given) either) [
                | inl any ↦ from_one (λ (fact : Fact). denies fact c given) (λ fact. held-denies fact s new cpu command given sound step) any
                | inr input ↦ input-denied granules size input
              ]
              | inr of_realm ↦ new-denied of_realm
            ]
            | inr of_rec ↦ rec-denied of_rec
          ]

    -- the REC that a CPU stands inside of is the one that runs on it
    stands_inside : (cpu rec : ℕ) (reason : ExitReason) → is_inside s cpu ≡ true → standing_of s cpu ≡ Inside rec reason → rec_inside s cpu ≡ rec
    stands_inside cpu rec reason inside stands =
        let both : Inside (rec_inside s cpu) (reason_at (rec_at s (rec_inside s cpu))) ≡ Inside rec reason =
        sym (standing-inside s cpu inside) ∙ stands in cc

    -- and no call is given a reply that they deny there
    pub held-deny_inside : (new : State) (cpu : ℕ) (command : Command) (given : Reply) (standing : Standing) → Step s cpu command given new
        → standing_of s cpu ≡ standing → deny_inside facts standing (call_of command) given ≡ true → ⊥
    unfolding deny_inside class_of
    held-deny_inside new cpu command given standing step = by (call_of command) standing
        (λ accepted. carried_by s cpu command given new (outcome s cpu (call_of command)) sound accepted refl step)
      where
        other_told : (rec ipa : ℕ) (reason : ExitReason) → IsCarried s cpu (call.IpaStateGet ipa) given new → standing_of s cpu ≡ Inside rec reason
            → (fact : Fact) → holds fact s ≡ true → gives_other_ripas facts rec ipa given fact ≡ true → ⊥
        other_told rec ipa reason carried stands (HasRipas rd at ripas) is gives =
            let parts = and_parts (is_one_entry at ipa && not (is_told ripas given)) (list_any (gives_realm rec rd) facts) gives in
            let both = and_parts (is_one_entry at ipa) (not (is_told ripas given)) parts.0 in
            let inside = stands_inside cpu rec reason (and_parts (is_inside s cpu) _ carried.placed).0 stands in
            let own = from_one (gives_realm rec rd) (owner-given rec rd) parts.1 in
            both_ways (inside_told rd at ripas rec s new cpu given sound is own ipa inside carried both.0)
            (not-true (is_told ripas given) both.1)
        other_told rec ipa reason carried stands _ is gives = both_ways gives refl

        by : (c : Call) (standing : Standing) → (is_accepted given ≡ true → IsCarried s cpu c given new) → standing_of s cpu ≡ standing
            → deny_inside facts standing c given ≡ true → ⊥
        by (call.IpaStateGet ipa) (Inside rec reason) carried stands denied =
            let parts = and_parts (is_accepted given) (list_any (gives_other_ripas facts rec ipa given) facts) denied in
            from_one (gives_other_ripas facts rec ipa given) (other_told rec ipa reason (carried parts.0) stands) parts.1
        by _ Outside carried stands denied = both_ways denied refl
        by _ (Inside rec reason) carried stands denied = both_ways denied refl
