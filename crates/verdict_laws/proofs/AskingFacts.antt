-- RECs that run or ask for a RIPAS from one of some addresses on: so it is until they are destroyed or leave without that, or a part is set past
-- those. A CPU that stands elsewhere ends nothing of them.
use Rattle.verdict_laws.proofs.Common.{◌≡◌, ℕ, ◌≤◌, ◌==◌, ◌&&◌, ◌||◌, Bool, true, false, arith, subst, Option, Some, None, IsTrue, is_some, refl, sym, ◌∙◌, ap, eqb-true, eq-eqb, inl, inr, is_none, unwrap_or, and_from, and_parts, cases_Bool, not-true, or_cases, or_left, or_parts, or_right, Call, Command, Reply, call_of, class_of, rec_updated, is_inside, no_rec, rec_at, rec_inside, request_of, runs_on, is_accepted, IsSound, RecRecord, State, Step, is_placed, outcome, reached_change, both_ways, behind, inside_runs, step-refuses, Fact, holds}
use Rattle.std.specs.Prelude.{nat_le, not}
use Rattle.std.proofs.lemmas.Bool.{le-leb, leb-true, true_from_ne_false}
use Rattle.rmm_spec.specs.declared.call.Call.TheVariants as call
use Rattle.verdict_laws.specs.declared.facts.Fact.TheVariants.{Runnable, RunsOrAsksTo, RunsOrAsksWithin}
use Rattle.verdict_laws.specs.declared.placing.Standing.{Standing}
use Rattle.verdict_laws.specs.Denying.{asks_outside, is_told_within}
use Rattle.verdict_laws.specs.Facts.{can_run, destroys, enters, exits, exits_other, is_elsewhere, is_within, leaves_with, moves_request, runs_or_asks, runs_or_asks_to, sets_past, stays_with, turns_off_other}
use Rattle.verdict_laws.proofs.RecChanges.{StaysDone, met_record, rec-kept}
use Rattle.verdict_laws.proofs.RecFacts.{leaves-made, made_request, runs_or_asks-asking, to_moved}
use Rattle.verdict_laws.proofs.RunningFacts.{running-made, runs-on_some}
use Rattle.verdict_laws.proofs.Standings.{standing-inside, standing_of}
use Rattle.verdict_laws.proofs.TagFacts.{IsCarried, carried_by}
use Rattle.lemmas.proofs.Tests.{apart}

-- what runs on a CPU is read as running
is_some-running : (cpu : ℕ) (found : Option RecRecord) → runs_on cpu found ≡ true → is_some (unwrap_or found no_rec).cpu ≡ true
is_some-running cpu None runs = both_ways runs refl
is_some-running cpu (Some r) runs = by r.cpu runs
  where
    by : (at : Option ℕ) → runs_on cpu (Some (record r { cpu = at })) ≡ true → is_some at ≡ true
    by None runs = both_ways runs refl
    by (Some k) runs = refl

-- so is the REC that a CPU is inside of
inside_running : (s : State) (cpu rec : ℕ) → is_inside s cpu ≡ true → rec ≡ rec_inside s cpu → is_some (rec_at s rec).cpu ≡ true
unfolding rec_at
inside_running s cpu rec inside here = is_some-running cpu (s.rec rec) (ap (λ g. runs_on cpu (s.rec g)) here ∙ inside_runs s cpu inside)

-- what does so is there
pub asking_there : (least most : ℕ) (found : Option RecRecord) → runs_or_asks found least most ≡ true → is_some found ≡ true
asking_there least most None is = both_ways is refl
asking_there least most (Some r) is = refl

-- one that runs on none asks so
pub asks-idle : (least most : ℕ) (found : Option RecRecord) → runs_or_asks found least most ≡ true → IsTrue (is_none (unwrap_or found no_rec).cpu)
    → is_within least most (request_of (unwrap_or found no_rec)).base ≡ true
asks-idle least most None is idle = both_ways is refl
asks-idle least most (Some r) is idle = by r.cpu is idle
  where
    by : (at : Option ℕ) → (is_some at || is_within least most (request_of r).base) ≡ true → IsTrue (is_none at)
        → is_within least most (request_of r).base ≡ true
    by None is idle = is
    by (Some k) is idle = both_ways idle refl

-- where a part is set from one of the addresses on, and not past them, its end is one of them
end_within : (least most from top end : ℕ) → is_within least most from ≡ true → nat_le top most ≡ true → from ≤ end → end ≤ top
    → is_within least most end ≡ true
end_within least most from top end within ends on under =
    let parts = and_parts (nat_le least from) (nat_le from most) within in
    let first = leb-true least from parts.0 in
    let last = leb-true top most ends in
    and_from _ _ (le-leb least end (omega (arith, first, on))) (le-leb end most (omega (arith, under, last)))

module _ (rec least most : ℕ) (s new : State) (cpu : ℕ) (given : Reply) (is : runs_or_asks (s.rec rec) least most ≡ true) where
  -- one that runs on none is read to ask so
  read_idle : (other : ℕ) → rec ≡ other → IsTrue (is_none (rec_at s other).cpu) → is_within least most (request_of (rec_at s other)).base ≡ true
  unfolding rec_at
  read_idle other here idle =
      ap (λ g. is_within least most (request_of (unwrap_or (s.rec g) no_rec)).base) (sym here)
      ∙ asks-idle least most (s.rec rec) is (subst (λ g. IsTrue (is_none (unwrap_or (s.rec g) no_rec).cpu)) (sym here) idle)

  -- so no call is carried out as if it asked from elsewhere on
  rows_asked : (c : Call) → IsCarried s cpu c given new → asks_outside c given rec least most ≡ true → ⊥
  unfolding behind asks_outside
  rows_asked (call.RecEnter other) carried outside =
      let parts = and_parts (rec == other) (not (is_told_within least most given)) outside in
      both_ways (ap (is_told_within least most) carried.done.0 ∙ read_idle other (eqb-true rec other parts.0) carried.rows.1.1.0)
      (not-true (is_told_within least most given) parts.1)
  rows_asked (call.RttSetRipas rd other from top) carried outside =
      let parts = and_parts (rec == other) (not (is_within least most from)) outside in
      both_ways (ap (is_within least most) (eqb-true from _ carried.rows.1.1.1.0)
      ∙ read_idle other (eqb-true rec other parts.0) carried.rows.1.0)
      (not-true (is_within least most from) parts.1)
  rows_asked _ carried outside = both_ways outside refl

  -- it is so behind a call that doesn't end it
  keeps_asking : (c : Call) → IsCarried s cpu c given new → (destroys c rec || exits c || sets_past c rec least most) ≡ false
      → StaysDone (λ found. runs_or_asks found least most) refl rec s is (behind s cpu c).1
  unfolding behind class_of destroys exits reached_change rec_updated sets_past
  keeps_asking (call.RecDestroy other) carried keeps = apart other rec (or_parts (other == rec) _ (or_parts (other == rec || false) _ keeps).0).0
  keeps_asking (call.RecEnter other) carried keeps = λ here. refl
  keeps_asking (call.IpaStateSet from top ripas) carried keeps = λ here.
      rw (inside_running s cpu rec (and_parts (is_inside s cpu) _ carried.placed).0 here) refl
  keeps_asking (call.HostCall imm) carried keeps = λ here. met_record (λ found. runs_or_asks found least most) refl rec s is
  keeps_asking call.CpuOff carried keeps = λ here. met_record (λ found. runs_or_asks found least most) refl rec s is
  keeps_asking call.SystemOff carried keeps = λ here. met_record (λ found. runs_or_asks found least most) refl rec s is
  keeps_asking call.Exit carried keeps = both_ways refl keeps
  keeps_asking (call.RttInitRipas rd from top) carried keeps = λ end reached. tt
  keeps_asking (call.RttSetRipas rd other from top) carried keeps = λ end reached here.
      let within = ap (is_within least most) (eqb-true from _ carried.rows.1.1.1.0) ∙ read_idle other here carried.rows.1.0 in
      let on : from ≤ end = let is_end = reached.is_end in omega (arith, is_end) in
      or_right (is_some (rec_at s rec).cpu) _ (end_within least most from top end within (not_past (eq-eqb rec other here) within keeps) on
      reached.within)
    where
      not_past : {mine : Bool} → mine ≡ true → is_within least most from ≡ true
          → (mine && is_within least most from && not (nat_le top most)) ≡ false → nat_le top most ≡ true
      not_past mine within keeps = true_from_ne_false (nat_le top most) (λ past.
          both_ways (and_from _ _ (and_from _ _ mine within) (ap not past)) keeps)
  keeps_asking _ carried keeps = tt

-- nor does a call end up to where one asks that neither destroys it nor lets one leave
keeps_up_to : (rec top ripas : ℕ) (s new : State) (cpu : ℕ) (given : Reply) (is : runs_or_asks_to (s.rec rec) top ripas ≡ true) (c : Call)
    → IsCarried s cpu c given new → (destroys c rec || exits c) ≡ false
    → StaysDone (λ found. runs_or_asks_to found top ripas) refl rec s is (behind s cpu c).1
unfolding behind class_of destroys exits reached_change rec_updated
keeps_up_to rec top ripas s new cpu given is (call.RecDestroy other) carried keeps = apart other rec (or_parts (other == rec) _ keeps).0
keeps_up_to rec top ripas s new cpu given is (call.RecEnter other) carried keeps = λ here. refl
keeps_up_to rec top ripas s new cpu given is (call.IpaStateSet from its_top its_ripas) carried keeps = λ here.
    rw (inside_running s cpu rec (and_parts (is_inside s cpu) _ carried.placed).0 here) refl
keeps_up_to rec top ripas s new cpu given is (call.HostCall imm) carried keeps = λ here.
    met_record (λ found. runs_or_asks_to found top ripas) refl rec s is
keeps_up_to rec top ripas s new cpu given is call.CpuOff carried keeps = λ here. met_record (λ found. runs_or_asks_to found top ripas) refl rec s is
keeps_up_to rec top ripas s new cpu given is call.SystemOff carried keeps = λ here.
    met_record (λ found. runs_or_asks_to found top ripas) refl rec s is
keeps_up_to rec top ripas s new cpu given is call.Exit carried keeps = both_ways refl keeps
keeps_up_to rec top ripas s new cpu given is (call.RttInitRipas rd from its_top) carried keeps = λ end reached. tt
keeps_up_to rec top ripas s new cpu given is (call.RttSetRipas rd other from its_top) carried keeps = λ end reached here.
    to_moved top ripas end (rec_at s rec) (met_record (λ found. runs_or_asks_to found top ripas) refl rec s is)
keeps_up_to rec top ripas s new cpu given is _ carried keeps = tt

-- ---- steps

-- what runs on a CPU runs or asks
asking-running : (cpu least most : ℕ) (found : Option RecRecord) → runs_on cpu found ≡ true → runs_or_asks found least most ≡ true
asking-running cpu least most None runs = both_ways runs refl
asking-running cpu least most (Some r) runs = or_left (is_some r.cpu) _ (runs-on_some cpu r runs)

to-running : (cpu top ripas : ℕ) (found : Option RecRecord) → runs_on cpu found ≡ true → runs_or_asks_to found top ripas ≡ true
to-running cpu top ripas None runs = both_ways runs refl
to-running cpu top ripas (Some r) runs = or_left (is_some r.cpu) _ (runs-on_some cpu r runs)

-- so does one that is entered
pub to-made : (rec top ripas : ℕ) (s new : State) (cpu : ℕ) (command : Command) (given : Reply) → IsSound s → Step s cpu command given new
    → is_accepted given ≡ true → enters (call_of command) rec ≡ true → runs_or_asks_to (new.rec rec) top ripas ≡ true
to-made rec top ripas s new cpu command given sound step accepted made =
    to-running cpu top ripas (new.rec rec)
    (running-made rec cpu s new cpu command given sound step accepted (and_from _ _ (eq-eqb cpu cpu refl) made))

-- up to where one asks stays so until it is destroyed or leaves
pub to-left : (rec top ripas : ℕ) (s new : State) (cpu : ℕ) (command : Command) (given : Reply) → IsSound s → Step s cpu command given new
    → (destroys (call_of command) rec || exits (call_of command)) ≡ false → runs_or_asks_to (s.rec rec) top ripas ≡ true
    → runs_or_asks_to (new.rec rec) top ripas ≡ true
to-left rec top ripas s new cpu command given sound step keeps is =
    let test = λ (found : Option RecRecord). runs_or_asks_to found top ripas in
    let c = call_of command in
    elim (cases_Bool (is_accepted given)) [
      | inl accepted ↦ rec-kept test refl rec s is new cpu command given sound step (λ placed.
          keeps_up_to rec top ripas s new cpu given is c
          (carried_by s cpu command given new (outcome s cpu c) sound accepted refl step) keeps)
      | inr refused ↦ ap (λ (t : State). test (t.rec rec)) (step-refuses s new cpu command given step refused) ∙ is
    ]

module _ (rec least most : ℕ) (s new : State) (cpu : ℕ) (command : Command) (given : Reply) (sound : IsSound s)
    (step : Step s cpu command given new) where
  -- the call
  abbrev c : Call
  c = call_of command

  -- where it is accepted, it is carried out
  carried : is_accepted given ≡ true → IsCarried s cpu c given new
  carried accepted = carried_by s cpu command given new (outcome s cpu c) sound accepted refl step

  -- where it is entered, it runs
  entered_running : is_accepted given ≡ true → enters c rec ≡ true → runs_on cpu (new.rec rec) ≡ true
  entered_running accepted made = running-made rec cpu s new cpu command given sound step accepted (and_from _ _ (eq-eqb cpu cpu refl) made)

  -- where a call lets it run, or makes it ask for that, it does
  pub asking-made : is_accepted given ≡ true → (enters c rec || (moves_request c given rec least && nat_le least most)) ≡ true
      → runs_or_asks (new.rec rec) least most ≡ true
  asking-made accepted makes = elim (or_cases (enters c rec) (moves_request c given rec least && nat_le least most) makes) [
    | inl made ↦ asking-running cpu least most (new.rec rec) (entered_running accepted made)
    | inr asks ↦
        let parts = and_parts (moves_request c given rec least) (nat_le least most) asks in
        runs_or_asks-asking least most (new.rec rec) (made_request s cpu given new rec least c (carried accepted) parts.0) parts.1
  ]

  -- until it is destroyed or leaves, or a part is set past that
  pub asking-left : (destroys c rec || exits c || sets_past c rec least most) ≡ false → runs_or_asks (s.rec rec) least most ≡ true
      → runs_or_asks (new.rec rec) least most ≡ true
  asking-left keeps is =
      let test = λ (found : Option RecRecord). runs_or_asks found least most in
      elim (cases_Bool (is_accepted given)) [
        | inl accepted ↦ rec-kept test refl rec s is new cpu command given sound step (λ placed.
            keeps_asking rec least most s new cpu given is c (carried accepted) keeps)
        | inr refused ↦ ap (λ (t : State). test (t.rec rec)) (step-refuses s new cpu command given step refused) ∙ is
      ]

  -- and no call is carried out as if one that runs on no CPU asked for something from elsewhere on
  pub asking-denied : runs_or_asks (s.rec rec) least most ≡ true → (is_accepted given && asks_outside c given rec least most) ≡ true → ⊥
  asking-denied is denied =
      let parts = and_parts (is_accepted given) (asks_outside c given rec least most) denied in
      rows_asked rec least most s new cpu given is c (carried parts.0) parts.1

-- ---- CPUs elsewhere

-- a CPU that stands elsewhere isn't inside of the REC
not_here : (s : State) (cpu rec : ℕ) (standing : Standing) → standing_of s cpu ≡ standing → is_elsewhere standing rec ≡ true → is_inside s cpu ≡ true
    → rec ≡ rec_inside s cpu → ⊥
not_here s cpu rec standing stands other inside here =
    both_ways (ap (λ (at : Standing). is_elsewhere at rec) (sym (standing-inside s cpu inside) ∙ stands) ∙ other)
    (ap not (eq-eqb rec (rec_inside s cpu) here))

module _ (s new : State) (cpu : ℕ) (command : Command) (given : Reply) (standing : Standing) (sound : IsSound s)
    (step : Step s cpu command given new) (stands : standing_of s cpu ≡ standing) where
  -- so a test of the REC is met behind its exit, or behind the call by which another turns itself off
  module _ (test : Option RecRecord → Bool) (absent : test None ≡ false) (rec : ℕ) (met : test (s.rec rec) ≡ true) where
    out : (c : Call) (standing : Standing) → is_placed s cpu (class_of c) ≡ true → standing_of s cpu ≡ standing
        → exits_other c standing rec ≡ true → StaysDone test absent rec s met (behind s cpu c).1
    unfolding behind class_of exits_other
    out call.Exit standing placed stands other = λ here. absurd (not_here s cpu rec standing stands other placed here)
    out _ _ placed stands other = both_ways other refl

    off : (c : Call) (standing : Standing) → is_placed s cpu (class_of c) ≡ true → standing_of s cpu ≡ standing
        → turns_off_other c standing rec ≡ true → StaysDone test absent rec s met (behind s cpu c).1
    unfolding behind class_of turns_off_other
    off call.CpuOff standing placed stands other =
        λ here. absurd (not_here s cpu rec standing stands other (and_parts (is_inside s cpu) _ placed).0 here)
    off _ _ placed stands other = both_ways other refl

    exits-elsewhere : exits_other (call_of command) standing rec ≡ true → test (new.rec rec) ≡ true
    exits-elsewhere other =
        rec-kept test absent rec s met new cpu command given sound step (λ placed. out (call_of command) standing placed stands other)

    off-elsewhere : turns_off_other (call_of command) standing rec ≡ true → test (new.rec rec) ≡ true
    off-elsewhere other =
        rec-kept test absent rec s met new cpu command given sound step (λ placed. off (call_of command) standing placed stands other)

  -- or behind an exit of it that makes the fact so
  leaves-so : (fact : Fact) → leaves_with fact (call_of command) standing ≡ true → holds fact s ≡ true → holds fact new ≡ true
  leaves-so fact leaves is = elim (cases_Bool (is_accepted given)) [
    | inl accepted ↦ leaves-made fact s new cpu command given standing sound step accepted stands leaves
    | inr refused ↦ ap (holds fact) (step-refuses s new cpu command given step refused) ∙ is
  ]

  -- so such a call leaves a fact of it
  pub holds-elsewhere : (fact : Fact) → stays_with fact (call_of command) standing ≡ true → holds fact s ≡ true → holds fact new ≡ true
  holds-elsewhere (Runnable rec) other is = off-elsewhere can_run refl rec is other
  holds-elsewhere (RunsOrAsksWithin rec least most) other is =
      let fact = RunsOrAsksWithin rec least most in
      elim (or_cases (exits_other (call_of command) standing rec) (leaves_with fact (call_of command) standing) other) [
        | inl elsewhere ↦ exits-elsewhere (λ found. runs_or_asks found least most) refl rec is elsewhere
        | inr leaves ↦ leaves-so fact leaves is
      ]
  holds-elsewhere (RunsOrAsksTo rec top ripas) other is =
      let fact = RunsOrAsksTo rec top ripas in
      elim (or_cases (exits_other (call_of command) standing rec) (leaves_with fact (call_of command) standing) other) [
        | inl elsewhere ↦ exits-elsewhere (λ found. runs_or_asks_to found top ripas) refl rec is elsewhere
        | inr leaves ↦ leaves-so fact leaves is
      ]
  holds-elsewhere _ other is = both_ways other refl
