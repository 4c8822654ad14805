-- First parts of orders and a register: behind the return of a call that does something to it.
use Rattle.verdict_laws.proofs.Common.{◌≡◌, ℕ, ◌+◌, Bool, true, false, inl, inr, List, [], ◌∷◌, ◌++◌, Option, Some, None, refl, sym, ◌∙◌, ap, subst, append_assoc, false≢true, cases_Bool, Line, Keep, Measurement, Reply, History, IsHistory, IsReturned, IsFinished, IsLinearization, Register, HasOnePlaces-from_history}
use Rattle.spec_lemmas.proofs.Calls.{same_reply}
use Rattle.verdict_laws.specs.Registers.{AreMine, AreNext, FitsValue, HaveParts, IsDone, IsPart, IsRegister, IsRegisterRun, Possibility, RegisterCall, Stands, is_placed, value_after, with_placed}
use Rattle.verdict_laws.proofs.Moves.{Around, around_place}
use Rattle.verdict_laws.proofs.RegisterCalls.{IsRegisterRun-append, IsRegisterRun-behind, one_open_call, returning_is_open, same_done}
use Rattle.verdict_laws.proofs.RegisterPlaces.{HasReturned, HasReturned-append, MadeBefore-next, Stands-append, Stands-last, Stands-push_cases}
use Rattle.verdict_laws.proofs.RegisterReturns.{HasReturned-return, MadeBefore-return, Represents-return}
use Rattle.verdict_laws.proofs.RegisterRuns.{register-runs}
use Rattle.verdict_laws.proofs.RegisterStages.{Stage, Stage-along}
use Rattle.verdict_laws.proofs.Settled.{in_either, kept_line}

module _ (history : History) (is_history : IsHistory history) (register : Register) (mine : ℕ → Bool) (place cpu number : ℕ)
    (given : Reply) (returned : IsReturned history.events place cpu number given) (done : RegisterCall)
    (is_done : IsDone history.events register mine (Keep cpu number) given (Some done)) (possibilities begun next : List Possibility)
    (are_next : AreNext history register mine place cpu given done possibilities begun next) where
  -- the call that returns is in already
  IsPart-stays : (lines : List Line) → (part : IsPart history register mine place possibilities lines) → is_placed part.possibility cpu ≡ true
      → IsPart history register mine (place + 1) next lines
  IsPart-stays lines part placed =
      let old = part.represents in
      let among = are_next.stays part.possibility (part.i, part.at) placed in
      let at = old.placed cpu placed in
      let numbered = one_open_call history is_history place cpu at.0 number at.1
      (returning_is_open history is_history place cpu number given returned) in
      record {
        made = MadeBefore-next history.events lines place part.made;
        returned = HasReturned-return history is_history register mine place cpu number given returned lines part.returned
            (subst (λ (n : ℕ). Stands history.events register mine lines cpu n) numbered at.2);
        i = among.0;
        possibility = with_placed part.possibility cpu false None;
        at = among.1;
        represents = Represents-return history is_history register mine place cpu number given returned lines part.possibility None old.size old.run
            (λ other later apart is_open stands. old.stands other later is_open stands)
            (λ other apart is_placed. old.placed other is_placed);
      }

  -- or it comes behind open calls that are put in
  IsPart-ends : (front more : List Line) → IsLinearization history ((front ++ Keep cpu number ∷ []) ++ more)
      → HasReturned history.events register mine place front → Stage history.events register mine place cpu begun front (Keep cpu number ∷ [])
      → IsPart history register mine (place + 1) next (front ++ Keep cpu number ∷ [])
  IsPart-ends front more valid before stage =
      let events = history.events in
      let keep = Keep cpu number in
      let one = HasOnePlaces-from_history history is_history in
      let p = stage.possibility in
      let old = stage.represents in
      let does = stage.run.1 in
      let same = same_done history is_history register mine keep does.given given does.done (Some done) does.is_done is_done in
      let reply = same_reply events one keep does.given given does.is_done.is_given is_done.is_given in
      let fits = subst (λ (g : Reply). FitsValue (Some done) p.value g) reply
      (subst (λ (d : Option RegisterCall). FitsValue d p.value does.given) same does.fits) in
      let after = does.after ∙ ap (λ (d : Option RegisterCall). value_after d p.value) same in
      let among = are_next.ends p stage.among fits in
      let run = IsRegisterRun-append events register mine front (keep ∷ []) None p.value stage.run.0 old.run (stage.run.0, does, refl) in
      record {
        made = MadeBefore-next events (front ++ keep ∷ []) place
            (MadeBefore-return history is_history register mine place cpu number given returned front more valid);
        returned = HasReturned-return history is_history register mine place cpu number given returned (front ++ keep ∷ [])
            (HasReturned-append events register mine place front (keep ∷ []) before)
            (Stands-last events register mine front keep given done is_done);
        i = among.0;
        possibility = with_placed p cpu false (Some done);
        at = among.1;
        represents = Represents-return history is_history register mine place cpu number given returned (front ++ keep ∷ []) p (Some done) old.size
            (subst (λ (m : Option Measurement). IsRegisterRun events register mine None (front ++ keep ∷ []) m) after run)
            (λ other later apart is_open stands. elim (Stands-push_cases events register mine front keep other later stands) [
              | inl there ↦ old.stands other later is_open there
              | inr itself ↦ absurd (apart (sym itself.of_cpu))
            ])
            (λ other apart placed.
            let at = old.placed other placed in
            (at.0, at.1, Stands-append events register mine front (keep ∷ []) other at.0 at.2));
      }

  -- a call that isn't in stands behind the first part
  returns_behind : (lines rest : List Line) → IsLinearization history (lines ++ rest)
      → (part : IsPart history register mine place possibilities lines) → is_placed part.possibility cpu ≡ false → Around rest (Keep cpu number)
  returns_behind lines rest valid part unplaced =
      let finished : IsFinished history.events cpu number = (place, given, returned) in
      let named = valid.order.complete cpu number finished in
      let line : named.1 ≡ Keep cpu number =
      kept_line history.events named.1 cpu number (valid.order.names.kinds named.0 named.1 named.2) named.3 named.4 finished in
      elim (in_either lines rest named.0 named.1 named.2) [
        | inl among ↦
            let stands : Stands history.events register mine lines cpu number = record {
              i = named.0;
              line = named.1;
              at = among;
              of_cpu = named.3;
              numbered = named.4;
              given = given;
              done = done;
              is_done = subst (λ (l : Line). IsDone history.events register mine l given (Some done)) (sym line) is_done;
            } in
            let is_open = returning_is_open history is_history place cpu number given returned in
            absurd (false≢true (sym unplaced ∙ part.represents.stands cpu number is_open stands))
        | inr there ↦ around_place rest there.0 (Keep cpu number) (there.1 ∙ ap (λ (l : Line). Some l) line)
      ]

  module _ (is_register : IsRegister register) (are_mine : AreMine history.events register mine place) where
    -- the first part with the call that returns at its end
    IsPart-grows : (order lines xs more : List Line) → order ≡ lines ++ (xs ++ Keep cpu number ∷ more)
        → IsLinearization history (lines ++ (xs ++ Keep cpu number ∷ more))
        → (part : IsPart history register mine place possibilities lines) → is_placed part.possibility cpu ≡ false
        → (first rest : List Line) × (order ≡ first ++ rest) × IsPart history register mine (place + 1) next first
    IsPart-grows order lines xs more split valid part unplaced =
        let events = history.events in
        let keep = Keep cpu number in
        let front = lines ++ xs in
        let p = part.possibility in
        let whole : lines ++ (xs ++ keep ∷ more) ≡ (front ++ keep ∷ []) ++ more =
        sym (append_assoc front (keep ∷ []) more ∙ append_assoc lines xs (keep ∷ more)) in
        let there = subst (IsLinearization history) whole valid in
        let made = MadeBefore-return history is_history register mine place cpu number given returned front more there in
        let all = register-runs history register mine place (front ++ keep ∷ []) more is_history is_register are_mine there made in
        let run = subst (λ (ls : List Line). IsRegisterRun events register mine None ls all.0) (append_assoc lines xs (keep ∷ [])) all.1 in
        let stage : Stage history.events register mine place cpu begun lines (xs ++ keep ∷ []) = record {
          possibility = p;
          among = are_next.begins p (part.i, part.at) unplaced;
          represents = part.represents;
          unplaced = unplaced;
          last = all.0;
          run = IsRegisterRun-behind history is_history register mine lines (xs ++ keep ∷ []) None p.value all.0 run part.represents.run;
        } in (
          front ++ keep ∷ [],
          more,
          split ∙ whole,
          IsPart-ends front more there
              (HasReturned-append events register mine place lines xs part.returned)
              (Stage-along history is_history register mine place cpu number given returned done possibilities begun next are_next xs lines more valid
              part.returned stage),
        )

    -- an order with a first part has one behind the return
    HaveParts-from : (order lines rest : List Line) → order ≡ lines ++ rest → IsLinearization history order
        → IsPart history register mine place possibilities lines
        → (first more : List Line) × (order ≡ first ++ more) × IsPart history register mine (place + 1) next first
    HaveParts-from order lines rest whole valid part = elim (cases_Bool (is_placed part.possibility cpu)) [
      | inl placed ↦ (lines, rest, whole, IsPart-stays lines part placed)
      | inr unplaced ↦
          let there = returns_behind lines rest (subst (IsLinearization history) whole valid) part unplaced in
          let split = whole ∙ ap (λ (ls : List Line). lines ++ ls) there.whole in
          IsPart-grows order lines there.front there.back split (subst (IsLinearization history) split valid) part unplaced
    ]

    -- so each order has one
    pub HaveParts-return : HaveParts history register mine place possibilities → HaveParts history register mine (place + 1) next
    HaveParts-return parts order valid =
        let old = parts order valid in
        HaveParts-from order old.0 old.1 old.2 valid old.3
