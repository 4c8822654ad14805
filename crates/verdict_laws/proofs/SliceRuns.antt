-- A run of commits of which each fits is, without those that aren't kept, one behind the lending of granules.
use Rattle.verdict_laws.proofs.Common.{◌≡◌, ℕ, ◌==◌, ◌||◌, Bool, true, false, List, [], ◌∷◌, ◌++◌, map, None, Some, inl, inr, refl, ◌∙◌, ap, subst, eq-eqb, eqb-true, false_from_ne_true, or_left, or_right, Retagged, Undelegated, Delegated, call_of, class_of, changed, Config, has_tag, is_inside, ok, IsRun, JournalEntry, State, opening, Step, answer_of, outcome, named, words_of, both_ways, unused_tag}
use Rattle.std.proofs.lemmas.Bool.{or_from}
use Rattle.std.proofs.Math.Bool.{or-false}
use Rattle.rmm_spec.specs.Call.{call_from}
use Rattle.rmm_spec.specs.Lookup.{is_granule}
use Rattle.rmm_spec.specs.Step.{commands}
use Rattle.rmm_laws.proofs.RunLaws.{run-append, run-snoc}
use Rattle.rmm_laws.proofs.Runs.{opened_run_sound}
use Rattle.verdict_laws.specs.Slices.{AreLent, delegation, is_lent, may_change}
use Rattle.verdict_laws.proofs.Entered.{RunAsEntered, RunAsEntered-stays, outside_masked}
use Rattle.verdict_laws.proofs.LeftUnused.{IsAsLeft, as_left_next, as_left_opening}
use Rattle.verdict_laws.proofs.Masks.{masked-lent, masked-opening}
use Rattle.verdict_laws.proofs.SliceOwners.{HaveLiveRecs, parts_outside}
use Rattle.verdict_laws.proofs.SliceSteps.{seen_kept, unseen_left, wider}
use Rattle.verdict_laws.proofs.SliceTerms.{AllFit, Commit, Fits, FitsKept, IsLeft, entry_of, is_entered_in, is_live_in, kept_before, lending, masked, sliced}

-- ---- lendings

-- a granule of the host is lent
granule_lent : (t : State) (cpu granule : ℕ) → is_inside t cpu ≡ false → is_granule t.config.granules granule ≡ true → t.tag granule ≡ Undelegated
    → Step t cpu (delegation granule) (ok []) (changed t (Retagged (record { granule = granule; tag = Delegated })))
unfolding outcome answer_of commands class_of words_of named has_tag call_from
granule_lent t cpu granule outside there unused = rw (outside, there, unused) (refl, refl)

-- in the opening no REC runs
opening_runs : (config : Config) → RunAsEntered (λ _. false) (λ _. false) (opening config)
unfolding opening
opening_runs config g rec cpu is on = absurd (let bad : None ≡ Some rec = is in cc)

-- the opening once these granules are lent
abbrev opening_lent : Config → (ℕ → Bool) → State
opening_lent config lent = masked (λ _. false) lent (opening config)

-- there CPUs are outside of RECs
opening_outside : (config : Config) (lent : ℕ → Bool) (cpu : ℕ) → is_inside (opening_lent config lent) cpu ≡ false
opening_outside config lent cpu =
    outside_masked (λ _. false) lent (λ _. false) (opening config) cpu (opening_runs config) refl

-- where none is lent twice, the later ones are new behind the first too
still_new : (granule : ℕ) (more : List ℕ) (old : ℕ → Bool) → is_lent more granule ≡ false
    → ((g : ℕ) → is_lent (granule ∷ more) g ≡ true → old g ≡ false) → (g : ℕ) → is_lent more g ≡ true → (granule == g || old g) ≡ false
still_new granule more old once new g is =
    or_from (granule == g) (old g)
    (false_from_ne_true (granule == g) (λ same. both_ways (ap (is_lent more) (eqb-true granule g same) ∙ is) once))
    (new g (or_right (granule == g) (is_lent more g) is))

-- the second of three tests may be the first
or-swap : (a b c : Bool) → (a || (b || c)) ≡ ((b || a) || c)
or-swap a true c = or_right a true refl
or-swap a false c = refl

-- more granules are lent, one after another
lent_from : (config : Config) (old : ℕ → Bool) (lent : List ℕ) → AreLent config.granules lent
    → ((g : ℕ) → is_lent lent g ≡ true → old g ≡ false)
    → IsRun (opening_lent config old) (map lending lent) (opening_lent config (λ g. is_lent lent g || old g))
unfolding opening
lent_from config old [] are new = refl
lent_from config old (granule ∷ more) are new =
    let s = opening_lent config old in
    let next : ℕ → Bool = λ g. granule == g || old g in
    let unlent = new granule (or_left (granule == granule) (is_lent more granule) (eq-eqb granule granule refl)) in
    let step = granule_lent s 0 granule (opening_outside config old 0) are.0 (ap unused_tag unlent) in (
      opening_lent config next,
      subst (λ (u : State). Step s 0 (delegation granule) (ok []) u) (masked-lent (λ _. false) old (opening config) granule refl) step,
      subst (λ (now : ℕ → Bool). IsRun (opening_lent config next) (map lending more) (opening_lent config now))
          (λ i g. or-swap (is_lent more g) (granule == g) (old g) i) (lent_from config next more are.2 (still_new granule more old are.1 new)),
    )

-- so they are lent from the opening on
opening-lent : (config : Config) (lent : List ℕ) → AreLent config.granules lent
    → IsRun (opening config) (map lending lent) (opening_lent config (is_lent lent))
opening-lent config lent are =
    subst (λ (s : State). IsRun s (map lending lent) (opening_lent config (is_lent lent))) (masked-opening config)
    (subst (λ (now : ℕ → Bool). IsRun (opening_lent config (λ _. false)) (map lending lent) (opening_lent config now))
    (λ i g. or-false (is_lent lent g) i) (lent_from config (λ _. false) lent are (λ g is. refl)))

-- ---- what a run has come to

-- the slice's state behind these commits
abbrev shown : List ℕ → List Commit → State → State
shown lent before s = masked (is_live_in before) (is_lent lent) s

-- The state is one that a run comes to, as the commits leave it, and so is the slice's. Each REC of a live realm is live, and each that runs is live
-- just where its CPU is inside of a REC in the slice.
record Stands (config : Config) (lent : List ℕ) (before : List Commit) (s : State) : Type 0 where
  entries : List JournalEntry
  run : IsRun (opening config) entries s
  others : List JournalEntry
  run_too : IsRun (opening config) others (shown lent before s)
  left : IsAsLeft before s
  recs : HaveLiveRecs (is_live_in before) s
  runs : RunAsEntered (is_live_in before) (is_entered_in before) s

-- so it is in the opening, behind the lendings
stands_opening : (config : Config) (lent : List ℕ) → AreLent config.granules lent → Stands config lent [] (opening config)
unfolding opening
stands_opening config lent are = record {
  entries = [];
  run = refl;
  others = map lending lent;
  run_too = opening-lent config lent are;
  left = as_left_opening config;
  recs = λ g rec is. absurd (let bad : None ≡ Some rec = is in cc);
  runs = opening_runs config;
}

-- The next commit comes to what the slice's entry for it comes to, if it is kept, and to nothing otherwise.
record GoesOn (lent : List ℕ) (before : List Commit) (c : Commit) (s next : State) : Type 0 where
  slice : (rest : List JournalEntry) (end : State) → IsRun (shown lent (c ∷ before) next) rest end
      → IsRun (shown lent before s) (kept_before c.kept c.entry rest) end
  recs : HaveLiveRecs (is_live_in (c ∷ before)) next
  runs : RunAsEntered (is_live_in (c ∷ before)) (is_entered_in (c ∷ before)) next

module _ (config : Config) (lent : List ℕ) (before : List Commit) (s : State) (stands : Stands config lent before s) where
  -- so that it stands behind the next commit
  stands_next : (c : Commit) (next : State) → Step s c.entry.cpu c.entry.command c.entry.given next → GoesOn lent before c s next
      → Stands config lent (c ∷ before) next
  stands_next c next step goes_on =
      let e = c.entry in
      let there = shown lent (c ∷ before) next in
      record {
        entries = stands.entries ++ e ∷ [];
        run = run-snoc stands.entries e (opening config) s next stands.run step;
        others = stands.others ++ kept_before c.kept e [];
        run_too = run-append stands.others (kept_before c.kept e []) (opening config) (shown lent before s) there stands.run_too
            (goes_on.slice [] there refl);
        left = as_left_next before s (opened_run_sound config stands.entries s stands.run) stands.left c next step;
        recs = goes_on.recs;
        runs = goes_on.runs;
      }

  module _ (e : JournalEntry) (next : State) (step : Step s e.cpu e.command e.given next) where
    -- a commit that isn't kept isn't seen
    goes_left : IsLeft before e → GoesOn lent before (record { kept = false; entry = e }) s next
    goes_left left =
        let live = is_live_in before in
        let entered = is_entered_in before in
        let sound = opened_run_sound config stands.entries s stands.run in
        let parts = parts_outside config stands.others live (is_lent lent) s stands.run_too sound in
        let unseen = unseen_left live entered s sound parts stands.recs stands.runs e.cpu e.command e.given next left step in
        record {
          slice = λ rest end run. subst (λ (t : State). IsRun t rest end) (unseen.masks (is_lent lent)) run;
          recs = unseen.recs;
          runs = RunAsEntered-stays live entered next e.cpu (λ inside. inside) (λ inside. refl) unseen.runs;
        }

    -- one that is kept is made behind the mask as before it
    goes_kept : FitsKept lent before e → GoesOn lent before (record { kept = true; entry = e }) s next
    goes_kept fits =
        let live = is_live_in before in
        let wide = wider live (may_change (call_of e.command)) in
        let sound = opened_run_sound config stands.entries s stands.run in
        let sound_too = opened_run_sound config stands.others (shown lent before s) stands.run_too in
        let seen = seen_kept live (is_lent lent) (is_entered_in before) s sound sound_too stands.recs stands.runs e.cpu e.command e.given next
        (λ n has. elim (fits.knows n has) [
          | inl is_live ↦ inl is_live
          | inr (inl shown) ↦ inr (inl shown)
          | inr (inr unused) ↦ inr (inr (stands.left.unused n.granule (is_lent lent n.granule) unused))
        ]) fits.inside fits.reply step in
        record {
          slice = λ rest end run. subst (λ (t : State). IsRun t (e ∷ rest) end) seen.grown (masked wide (is_lent lent) next, seen.step, run);
          recs = seen.recs;
          runs = seen.runs;
        }

    -- each commit that fits goes on
    goes_on_by : (kept : Bool) → Fits lent before kept e → GoesOn lent before (record { kept = kept; entry = e }) s next
    goes_on_by true fits = goes_kept fits
    goes_on_by false left = goes_left left

-- ---- runs

-- from where a run stands, the slice's entries are a run
run-sliced_from : (config : Config) (lent : List ℕ) (before commits : List Commit) (s last : State) → Stands config lent before s
    → IsRun s (map entry_of commits) last → AllFit lent before commits → (end : State) × IsRun (shown lent before s) (sliced commits) end
run-sliced_from config lent before [] s last stands run fits = (shown lent before s, refl)
run-sliced_from config lent before (c ∷ commits) s last stands run fits =
    let goes_on = goes_on_by config lent before s stands c.entry run.0 run.1 c.kept fits.0 in
    let further = stands_next config lent before s stands c run.0 run.1 goes_on in
    let rest = run-sliced_from config lent (c ∷ before) commits run.0 last further run.2 fits.1 in
    (rest.0, goes_on.slice (sliced commits) rest.0 rest.1)

-- so they are from the opening, behind the lendings
pub run-sliced : (config : Config) (lent : List ℕ) (commits : List Commit) (last : State) → AreLent config.granules lent
    → IsRun (opening config) (map entry_of commits) last → AllFit lent [] commits
    → (end : State) × IsRun (opening config) (map lending lent ++ sliced commits) end
run-sliced config lent commits last granules run fits =
    let rest = run-sliced_from config lent [] commits (opening config) last (stands_opening config lent granules) run fits in
    let here = shown lent [] (opening config) in
    (rest.0, run-append (map lending lent) (sliced commits) (opening config) here rest.0 (opening-lent config lent granules) rest.1)
