-- Open calls that are put in before a call returns, one after the other.
use Rattle.verdict_laws.proofs.Common.{◌≡◌, ℕ, suc, ◌+◌, Bool, true, false, inl, inr, List, [], ◌∷◌, ◌++◌, length, Option, Some, None, refl, sym, ◌∙◌, subst, arith, append_assoc, slice_get, cases_Bool, cases_lt, none-some, Event, Line, Keep, Measurement, Reply, History, IsHistory, IsReturned, IsLinearization, cpu_named, number_named, Register, HasOnePlaces-from_history}
use Rattle.std.proofs.Common.{◌≢◌}
use Rattle.std.proofs.lemmas.Bool.Decides.{eqb_tells}
use Rattle.std.proofs.lemmas.List.{append-nil, get_or-set_same, get_or-set_other, length-set}
use Rattle.spec_lemmas.proofs.Calls.{same_reply}
use Rattle.verdict_laws.specs.Registers.{AreNext, FitsValue, IsAmong, IsDone, IsOpenCall, IsRegisterRun, Possibility, RegisterCall, Represents, Stands, is_placed, value_after, with_placed}
use Rattle.verdict_laws.proofs.FirstParts.{apart_parts}
use Rattle.verdict_laws.proofs.RegisterCalls.{IsRegisterRun-append, few_cpus, one_open_call, returning_is_open, same_done}
use Rattle.verdict_laws.proofs.RegisterPlaces.{HasReturned, HasReturned-append, Stands-append, Stands-last, Stands-push_cases}
use Rattle.verdict_laws.proofs.RegisterReturns.{early}
use Rattle.verdict_laws.proofs.Settled.{behind, kept_line}

-- a possibility without the CPU's call that the lines come to, from which more lines are a run
pub record Stage (events : List Event) (register : Register) (mine : ℕ → Bool) (place cpu : ℕ) (begun : List Possibility)
    (front rest : List Line) : Type 0 where
  pub possibility : Possibility
  pub among : IsAmong possibility begun
  pub represents : Represents events register mine place front possibility
  pub unplaced : is_placed possibility cpu ≡ false
  pub last : Option Measurement
  pub run : IsRegisterRun events register mine possibility.value rest last

module _ (history : History) (is_history : IsHistory history) (register : Register) (mine : ℕ → Bool) (place cpu number : ℕ)
    (given : Reply) (returned : IsReturned history.events place cpu number given) (done : RegisterCall)
    (possibilities begun next : List Possibility)
    (are_next : AreNext history register mine place cpu given done possibilities begun next) where
  abbrev pub Staged : List Line → List Line → Type 0
  Staged front rest = Stage history.events register mine place cpu begun front rest

  module _ (front rest : List Line) (x : Line) (valid : IsLinearization history (front ++ (x ∷ rest))) (j : ℕ)
      (keeps : slice_get rest j ≡ Some (Keep cpu number)) (before : HasReturned history.events register mine place front) where
    -- a line before the call that returns is of an open call if it does something
    is_open_there : (told : Reply) (also : RegisterCall) → IsDone history.events register mine x told (Some also)
        → IsOpenCall history.events place (cpu_named x) (number_named x)
    is_open_there told also is_also =
        let at = behind front (x ∷ rest) 0 x refl in
        let known = valid.order.names.known (length front + 0) x at in
        let kind = valid.order.names.kinds (length front + 0) x at in
        record {
          called = known.0;
          command = known.1;
          is_called = known.2;
          before = early history is_history register mine place cpu number given returned (front ++ (x ∷ rest))
              (length front + 0) (length front + suc j) x valid (omega arith) at
              (behind front (x ∷ rest) (suc j) (Keep cpu number) keeps) known.0 known.1 known.2;
          unreturned = λ other reply is. elim (cases_lt other place) [
            | inr late ↦ late
            | inl soon ↦
                let c = cpu_named x in
                let n = number_named x in
                let line = kept_line history.events x c n kind refl refl (other, reply, is) in
                let one = HasOnePlaces-from_history history is_history in
                let kept = subst (λ (l : Line). IsDone history.events register mine l told (Some also)) line is_also in
                let same = same_reply history.events one (Keep c n) told reply kept.is_given (other, is) in
                let stands = before c n other reply also is soon
                (subst (λ (g : Reply). IsDone history.events register mine (Keep c n) g (Some also)) same kept) in
                absurd (apart_parts history front (x ∷ rest) valid stands.i 0 stands.line x stands.at refl (stands.of_cpu, stands.numbered))
          ];
        }

    -- it isn't the one that returns
    not_returning : IsOpenCall history.events place (cpu_named x) (number_named x) → cpu_named x ≢ cpu
    not_returning is_open of_cpu =
        let here = subst (λ (c : ℕ). IsOpenCall history.events place c (number_named x)) of_cpu is_open in
        let numbered = one_open_call history is_history place cpu (number_named x) number here
        (returning_is_open history is_history place cpu number given returned) in
        valid.order.names.once (length front + 0) (length front + suc j) x (Keep cpu number) (omega arith) (behind front (x ∷ rest) 0 x refl)
        (behind front (x ∷ rest) (suc j) (Keep cpu number) keeps) (of_cpu, numbered)

    -- and isn't in yet
    not_placed : (possibility : Possibility) → Represents history.events register mine place front possibility
        → IsOpenCall history.events place (cpu_named x) (number_named x) → is_placed possibility (cpu_named x) ≡ false
    not_placed possibility represents is_open = elim (cases_Bool (is_placed possibility (cpu_named x))) [
      | inr unplaced ↦ unplaced
      | inl placed ↦
          let at = represents.placed (cpu_named x) placed in
          let numbered = one_open_call history is_history place (cpu_named x) at.0 (number_named x) at.1 is_open in
          absurd (apart_parts history front (x ∷ rest) valid at.2.i 0 at.2.line x at.2.at refl (at.2.of_cpu, at.2.numbered ∙ numbered))
    ]

    -- a line that does nothing changes nothing
    Stage-nothing : (ys : List Line) (stage : Staged front (x ∷ ys)) (told : Reply)
        → IsDone history.events register mine x told None → stage.run.0 ≡ stage.possibility.value → Staged (front ++ x ∷ []) ys
    Stage-nothing ys stage told is_nothing after =
        let events = history.events in
        let p = stage.possibility in
        let old = stage.represents in
        let run = IsRegisterRun-append events register mine front (x ∷ []) None p.value stage.run.0 old.run (stage.run.0, stage.run.1, refl) in
        record {
          possibility = p;
          among = stage.among;
          represents = record {
            size = old.size;
            run = subst (λ (m : Option Measurement). IsRegisterRun events register mine None (front ++ x ∷ []) m) after run;
            stands = λ other later is_open stands. elim (Stands-push_cases events register mine front x other later stands) [
              | inl there ↦ old.stands other later is_open there
              | inr itself ↦
                  absurd (none-some itself.done
                  (same_done history is_history register mine x told itself.given None (Some itself.done) is_nothing itself.is_done))
            ];
            placed = λ other placed.
                let at = old.placed other placed in
                (at.0, at.1, Stands-append events register mine front (x ∷ []) other at.0 at.2);
          };
          unplaced = stage.unplaced;
          last = stage.last;
          run = subst (λ (m : Option Measurement). IsRegisterRun events register mine m ys stage.last) after stage.run.2;
        }

    -- one that does something is put in
    Stage-grows : (ys : List Line) (stage : Staged front (x ∷ ys)) (told : Reply) (also : RegisterCall)
        → IsDone history.events register mine x told (Some also) → FitsValue (Some also) stage.possibility.value told
        → stage.run.0 ≡ value_after (Some also) stage.possibility.value → Staged (front ++ x ∷ []) ys
    Stage-grows ys stage told also is_also fits after =
        let events = history.events in
        let p = stage.possibility in
        let old = stage.represents in
        let c = cpu_named x in
        let is_open = is_open_there told also is_also in
        let apart = not_returning is_open in
        let kind = valid.order.names.kinds (length front + 0) x (behind front (x ∷ rest) 0 x refl) in
        let within = few_cpus history is_history c (number_named x) is_open.called is_open.command
        is_open.is_called in
        let size = old.size in
        let there = get_or-set_same p.placed c true false (omega (arith, within, size)) in
        let run = IsRegisterRun-append events register mine front (x ∷ []) None p.value stage.run.0 old.run (stage.run.0, stage.run.1, refl) in
        record {
          possibility = with_placed p c true (Some also);
          among = are_next.grows p x told also stage.among apart kind is_open (not_placed p old is_open) is_also fits;
          represents = record {
            size = length-set p.placed c true ∙ size;
            run = subst (λ (m : Option Measurement). IsRegisterRun events register mine None (front ++ x ∷ []) m) after run;
            stands = λ other later is_open_too stands. elim (eqb_tells other c) [
              | inl same ↦ subst (λ (d : ℕ). is_placed (with_placed p c true (Some also)) d ≡ true) (sym same.1) there
              | inr differs ↦ elim (Stands-push_cases events register mine front x other later stands) [
                | inl earlier ↦ get_or-set_other p.placed c other true false differs.1 ∙ old.stands other later is_open_too earlier
                | inr itself ↦ absurd (differs.1 (sym itself.of_cpu))
              ]
            ];
            placed = λ other placed. elim (eqb_tells other c) [
              | inl same ↦
                  subst (λ (d : ℕ). (later : ℕ) × IsOpenCall events place d later × Stands events register mine (front ++ x ∷ []) d later)
                  (sym same.1) (number_named x, is_open, Stands-last events register mine front x told also is_also)
              | inr differs ↦
                  let at = old.placed other (sym (get_or-set_other p.placed c other true false differs.1) ∙ placed) in
                  (at.0, at.1, Stands-append events register mine front (x ∷ []) other at.0 at.2)
            ];
          };
          unplaced = get_or-set_other p.placed c cpu true false (λ same. apart (sym same)) ∙ stage.unplaced;
          last = stage.last;
          run = subst (λ (m : Option Measurement). IsRegisterRun events register mine m ys stage.last) after stage.run.2;
        }

    -- so the line is put in
    Stage-push : (ys : List Line) → Staged front (x ∷ ys) → Staged (front ++ x ∷ []) ys
    Stage-push ys stage = by stage.run.1.given stage.run.1.done stage.run.1.is_done stage.run.1.fits stage.run.1.after
      where
        by : (told : Reply) (effect : Option RegisterCall) → IsDone history.events register mine x told effect
            → FitsValue effect stage.possibility.value told → stage.run.0 ≡ value_after effect stage.possibility.value
            → Staged (front ++ x ∷ []) ys
        by told None is_nothing fits after = Stage-nothing ys stage told is_nothing after
        by told (Some also) is_also fits after = Stage-grows ys stage told also is_also fits after

  -- so it goes along all lines before the call that returns
  pub Stage-along : (xs front more : List Line) → IsLinearization history (front ++ (xs ++ Keep cpu number ∷ more))
      → HasReturned history.events register mine place front → Staged front (xs ++ Keep cpu number ∷ [])
      → Staged (front ++ xs) (Keep cpu number ∷ [])
  Stage-along [] front more valid before stage =
      subst (λ (ls : List Line). Staged ls (Keep cpu number ∷ [])) (sym (append-nil front)) stage
  Stage-along (x ∷ xs) front more valid before stage =
      let keep = Keep cpu number in
      let there = subst (IsLinearization history) (sym (append_assoc front (x ∷ []) (xs ++ keep ∷ more))) valid in
      let first = Stage-push front (xs ++ keep ∷ more) x valid (length xs + 0) (behind xs (keep ∷ more) 0 keep refl) before
      (xs ++ keep ∷ []) stage in
      subst (λ (ls : List Line). Staged ls (keep ∷ [])) (append_assoc front (x ∷ []) xs)
      (Stage-along xs (front ++ x ∷ []) more there
      (HasReturned-append history.events register mine place front (x ∷ []) before) first)
