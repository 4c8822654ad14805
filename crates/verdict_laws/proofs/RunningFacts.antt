-- RECs that run: one that is entered runs on the CPU until that exits, and no call that needs it idle is carried out.
use Rattle.verdict_laws.proofs.Common.{◌≡◌, ℕ, ◌==◌, ◌&&◌, true, false, Option, Some, None, IsTrue, is_some, refl, sym, ◌∙◌, ap, eqb-true, eq-eqb, inl, inr, is_none, unwrap_or, and_parts, cases_Bool, false_from_ne_true, Call, Command, Reply, call_of, class_of, changed, rec_updated, no_rec, rec_at, runs_on, is_accepted, IsSound, RecRecord, State, Step, outcome, reached_change, both_ways, behind, inside_runs, step-refuses}
use Rattle.rmm_spec.specs.declared.call.Call.TheVariants as call
use Rattle.rmm_spec.specs.Lookup.{is_cpu}
use Rattle.rmm_laws.proofs.ByRows.{AllHold}
use Rattle.verdict_laws.specs.Denying.{needs_idle}
use Rattle.verdict_laws.specs.Facts.{enters, exits}
use Rattle.verdict_laws.proofs.RecChanges.{StaysDone, met_record, rec-kept}
use Rattle.verdict_laws.proofs.Spared.{runs_on-read}
use Rattle.verdict_laws.proofs.SparedCalls.{idle_elsewhere}
use Rattle.verdict_laws.proofs.TagFacts.{IsCarried, carried_by}

-- what runs is there
pub running_there : (at : ℕ) (found : Option RecRecord) → runs_on at found ≡ true → is_some found ≡ true
running_there at None runs = both_ways runs refl
running_there at (Some r) runs = refl

-- and isn't read as idle
pub running_read : (at : ℕ) (found : Option RecRecord) → runs_on at found ≡ true → is_none (unwrap_or found no_rec).cpu ≡ false
running_read at None runs = both_ways runs refl
running_read at (Some r) runs = by r.cpu runs
  where
    by : (found : Option ℕ) → is_cpu at found ≡ true → is_none found ≡ false
    by None runs = both_ways runs refl
    by (Some k) runs = refl

-- so it runs, whatever else it is tested for
pub runs-on_some : (at : ℕ) (r : RecRecord) → runs_on at (Some r) ≡ true → is_some r.cpu ≡ true
runs-on_some at r runs = by r.cpu runs
  where
    by : (found : Option ℕ) → is_cpu at found ≡ true → is_some found ≡ true
    by None runs = both_ways runs refl
    by (Some k) runs = refl

-- on one CPU
one_cpu : (at cpu : ℕ) (found : Option RecRecord) → runs_on at found ≡ true → runs_on cpu found ≡ true → at ≡ cpu
one_cpu at cpu None one other = both_ways one refl
one_cpu at cpu (Some r) one other = by r.cpu one other
  where
    by : (found : Option ℕ) → is_cpu at found ≡ true → is_cpu cpu found ≡ true → at ≡ cpu
    by None one other = both_ways one refl
    by (Some k) one other = sym (eqb-true k at one) ∙ eqb-true k cpu other

module _ (rec at : ℕ) (s new : State) (cpu : ℕ) (given : Reply) where
  -- where its CPU enters it, it runs there
  made_running : at ≡ cpu → (c : Call) → IsCarried s cpu c given new → enters c rec ≡ true → runs_on at (new.rec rec) ≡ true
  unfolding behind changed enters rec_updated
  made_running same (call.RecEnter other) carried makes = rw (carried.done.1, makes) (eq-eqb cpu at (sym same))
  made_running same _ carried makes = both_ways makes refl

  module _ (runs : runs_on at (s.rec rec) ≡ true) where
    -- so no row holds that asks for it to be idle
    not_idle : (other : ℕ) → rec ≡ other → IsTrue (is_none (rec_at s other).cpu) → ⊥
    unfolding rec_at
    not_idle other here idle =
        both_ways (ap (λ g. runs_on at (s.rec g)) (sym here) ∙ runs)
        (runs_on-read s.rec at other ∙ idle_elsewhere at (unwrap_or (s.rec other) no_rec).cpu idle)

    -- and not all rows of a call that needs that
    rows_fail : (c : Call) → needs_idle c rec ≡ true → AllHold (behind s cpu c).0 → ⊥
    unfolding behind needs_idle
    rows_fail (call.RecEnter other) needs rows = not_idle other (eqb-true rec other needs) rows.1.1.0
    rows_fail (call.RecDestroy other) needs rows = not_idle other (eqb-true rec other needs) rows.0
    rows_fail (call.RttSetRipas rd other base top) needs rows = not_idle other (eqb-true rec other needs) rows.1.0
    rows_fail _ needs rows = both_ways needs refl

    -- it runs still behind a call that isn't an exit of its CPU
    keeps_running : (c : Call) → IsCarried s cpu c given new → (exits c && at == cpu) ≡ false
        → StaysDone (runs_on at) refl rec s runs (behind s cpu c).1
    unfolding behind class_of exits reached_change rec_updated
    keeps_running (call.RecDestroy other) carried keeps =
        false_from_ne_true (rec == other) (λ same. not_idle other (eqb-true rec other same) carried.rows.0)
    keeps_running (call.RecEnter other) carried keeps = λ here. absurd (not_idle other here carried.rows.1.1.0)
    keeps_running (call.IpaStateSet base top ripas) carried keeps = λ here. met_record (runs_on at) refl rec s runs
    keeps_running (call.HostCall imm) carried keeps = λ here. met_record (runs_on at) refl rec s runs
    keeps_running call.CpuOff carried keeps = λ here. met_record (runs_on at) refl rec s runs
    keeps_running call.SystemOff carried keeps = λ here. met_record (runs_on at) refl rec s runs
    keeps_running call.Exit carried keeps = λ here.
        both_ways
        (eq-eqb at cpu (one_cpu at cpu (s.rec rec) runs (ap (λ g. runs_on cpu (s.rec g)) here ∙ inside_runs s cpu carried.placed)))
        keeps
    keeps_running (call.RttInitRipas rd base top) carried keeps = λ end reached. tt
    keeps_running (call.RttSetRipas rd other base top) carried keeps = λ end reached here. met_record (runs_on at) refl rec s runs
    keeps_running _ carried keeps = tt

-- ---- steps

module _ (rec at : ℕ) (s new : State) (cpu : ℕ) (command : Command) (given : Reply) (sound : IsSound s) (step : Step s cpu command given new) where
  -- the call
  abbrev c : Call
  c = call_of command

  -- where it is accepted, it is carried out
  carried : is_accepted given ≡ true → IsCarried s cpu c given new
  carried accepted = carried_by s cpu command given new (outcome s cpu c) sound accepted refl step

  -- where the CPU enters the REC, that runs there
  pub running-made : is_accepted given ≡ true → (at == cpu && enters c rec) ≡ true → runs_on at (new.rec rec) ≡ true
  running-made accepted makes =
      let parts = and_parts (at == cpu) (enters c rec) makes in
      made_running rec at s new cpu given (eqb-true at cpu parts.0) c (carried accepted) parts.1

  -- until the CPU exits
  pub running-left : (exits c && at == cpu) ≡ false → runs_on at (s.rec rec) ≡ true → runs_on at (new.rec rec) ≡ true
  running-left keeps runs = elim (cases_Bool (is_accepted given)) [
    | inl accepted ↦ rec-kept (runs_on at) refl rec s runs new cpu command given sound step (λ placed.
        keeps_running rec at s new cpu given runs c (carried accepted) keeps)
    | inr refused ↦ ap (λ (t : State). runs_on at (t.rec rec)) (step-refuses s new cpu command given step refused) ∙ runs
  ]

  -- and no call that needs it idle is carried out
  pub running-denied : runs_on at (s.rec rec) ≡ true → (is_accepted given && needs_idle c rec) ≡ true → ⊥
  running-denied runs denied =
      let parts = and_parts (is_accepted given) (needs_idle c rec) denied in
      rows_fail rec at s new cpu given runs c parts.1 (carried parts.0).rows
