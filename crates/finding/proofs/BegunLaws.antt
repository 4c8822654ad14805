-- Orders that are begun, as they grow by a line and stand for others.
use Rattle.finding.proofs.Common.{◌++◌, ◌+◌, ◌∙◌, ◌∷◌, ◌≡◌, Choice, History, IsBegun, IsFinished, IsHistory, IsLeast, IsNextCall, LeadsNowhere, Line, List, Option, Some, State, TriedIn, Unfinished, [], ap, arith, cpu_named, inl, inr, number_named, opening, rank_of, refl, state_of, subst, sym, ℕ}
use Rattle.std.proofs.Common.{Bool, true, set, append_assoc, subst₂}
use Rattle.rmm_spec.specs.declared.line.Line.TheVariants.{Keep}
use Rattle.rmm_spec.specs.declared.reply.Reply.{Reply}
use Rattle.rmm_spec.specs.FirstFault.{IsRefused}
use Rattle.rmm_spec.specs.Rows.{ok}
use Rattle.rmm_spec.specs.Linearization.{IsLinearization, IsOfItsKind}
use Rattle.verdict_laws.specs.Order.{count_of, Reaches}
use Rattle.verdict_laws.proofs.Growth.{Reaches-nil, Reaches-push}
use Rattle.verdict_laws.proofs.Nowhere.{nowhere_by, nowhere_unless}
use Rattle.verdict_laws.proofs.UnreadOrders.{nowhere_unmeasured}
use Rattle.verdict_laws.specs.Unread.{ReadsNothing, unmeasured}
use Rattle.finding.specs.Attempt.{IsAttempt, MayTry}
use Rattle.finding.specs.Begun.{Holds, HoldsOf, IsBegunAt, IsGrown, IsLostAt, IsSoon, IsSoonAt, Stays}
use Rattle.finding.specs.Counts.{AreCounts}
use Rattle.finding.specs.Front.{IsFront}
use Rattle.finding.specs.Offering.{IsGiven}
use Rattle.finding.specs.Waiting.{MayCome}
use Rattle.finding.specs.declared.begun.Begun.{Begun}
use Rattle.finding.specs.declared.candidate.Candidate.{Candidate}
use Rattle.finding.specs.declared.front.Front.{Front}
use Rattle.verdict_laws.proofs.Configurations.{nowhere_alike}
use Rattle.finding.specs.declared.attempt.Attempt.{Attempt}
use Rattle.finding.proofs.Attempts.{of_a_line}
use Rattle.finding.proofs.Choices.{rank_pending}
use Rattle.finding.proofs.Counted.{AreCounts-nil, AreCounts-push, same_counts}
use Rattle.finding.proofs.Growing.{Grows-given}
use Rattle.finding.proofs.TriedLaws.{Tried-passed, Tried-ended}

-- what continues a longer order continues the shorter one
pub nowhere_longer : (history : History) (lines : List Line) (line : Line) → LeadsNowhere history lines → LeadsNowhere history (lines ++ line ∷ [])
nowhere_longer history lines line nowhere =
    record { none = λ more valid. nowhere.none (line ∷ more) (subst (IsLinearization history) (append_assoc lines (line ∷ []) more) valid) }

-- where one order of so many calls to the state leads nowhere, each does
pub IsLost-from : (history : History) → IsHistory history → (counts : List ℕ) (state : State) (lines : List Line)
    → HoldsOf history counts state lines → LeadsNowhere history lines
    → IsLostAt history counts state
IsLost-from history is_history counts state lines holds nowhere = record {
  nowhere = λ other also.
      nowhere_alike history is_history lines other state holds.reached also.reached
      (same_counts history is_history lines other state state holds.reached also.reached counts holds.counts also.counts) nowhere;
}

-- what is held of the one is held of the other
pub Holds-alike : (history : History) (one other : Begun) (lines : List Line) → one.front.counts ≡ other.front.counts
    → state_of one.machine ≡ state_of other.machine → Holds history other lines → Holds history one lines
Holds-alike history one other lines counts state holds =
    subst₂ (λ (cs : List ℕ) (s : State). HoldsOf history cs s lines) (sym counts) (sym state) holds

-- where none is read, the states may differ in measurements
pub IsLost-like : (history : History) → ReadsNothing history.events → (one : Front) (counts : List ℕ) (state other : State)
    → IsBegunAt history one state → one.counts ≡ counts → unmeasured state ≡ unmeasured other → IsLostAt history one.counts state
    → IsLostAt history counts other
IsLost-like history reads one counts state other begun same like lost = record {
  nowhere = λ lines holds.
      nowhere_unmeasured history begun.front.is_history reads begun.lines lines state other begun.holds.reached holds.reached
      (same_counts history begun.front.is_history begun.lines lines state other begun.holds.reached holds.reached
      counts (subst (λ (cs : List ℕ). AreCounts cs begun.lines) same begun.holds.counts) holds.counts)
      like (lost.nowhere begun.lines begun.holds);
}

-- no line
pub Holds-nil : (history : History) (counts : List ℕ) (state : State)
    → counts ≡ 0 ∷ 0 ∷ 0 ∷ 0 ∷ 0 ∷ 0 ∷ 0 ∷ 0 ∷ [] → state ≡ opening history.config
    → HoldsOf history counts state []
Holds-nil history counts state none opens = record {
  reached = subst (Reaches history []) (sym opens) (Reaches-nil history);
  counts = subst (λ (cs : List ℕ). AreCounts cs []) (sym none) AreCounts-nil;
}

module _ (history : History) (is_history : IsHistory history) (old new : Begun) (choice : Choice)
    (line : Line) (next : IsNextCall history old.front.counts 0 choice) (of_cpu : cpu_named line ≡ choice.cpu)
    (numbered : number_named line ≡ choice.number) (kind : IsOfItsKind history.events line) (soon : IsSoon history old choice) where
  module _ (given : IsGiven history.events line choice.places.called (state_of old.machine) (state_of new.machine))
      (counts : new.front.counts ≡ set old.front.counts choice.cpu (choice.number + 1)) where
    -- it is held of the order with the line behind it
    Holds-grown : (lines : List Line) → Holds history old lines → Holds history new (lines ++ line ∷ [])
    Holds-grown lines holds =
        let grows =
        Grows-given history is_history lines (state_of old.machine) (state_of new.machine) old.front.counts 0 choice line holds.counts next of_cpu
        numbered kind (soon lines holds) given in
        let counted : choice.number + 1 ≡ count_of choice.cpu lines + 1 =
        ap (λ (n : ℕ). n + 1) (sym numbered ∙ grows.next.numbered ∙ ap (λ (c : ℕ). count_of c lines) of_cpu) in
        record {
          reached = Reaches-push history is_history lines (state_of old.machine) holds.reached line (state_of new.machine) grows;
          counts = subst (λ (cs : List ℕ). AreCounts cs (lines ++ line ∷ [])) (sym counts)
              (AreCounts-push old.front.counts lines line choice.cpu (choice.number + 1) holds.counts of_cpu
              (of_a_line history is_history choice next.places).0 counted);
        }

    pub IsGrown-given : IsBegun history old → IsFront history new.front → IsGrown history line old new
    IsGrown-given begun front = record {
      begun = record { front = front; lines = begun.lines ++ line ∷ []; holds = Holds-grown begun.lines begun.holds };
      behind = λ lines holds lost. lost.nowhere (lines ++ line ∷ []) (Holds-grown lines holds);
      before = λ lost.
          IsLost-from history is_history new.front.counts (state_of new.machine) (begun.lines ++ line ∷ []) (Holds-grown begun.lines begun.holds)
          (nowhere_longer history begun.lines line (lost.nowhere begun.lines begun.holds));
    }

  -- the machine refuses the reply
  pub Stays-refused : IsBegun history old → IsRefused history.events (state_of old.machine) line → new.front ≡ old.front
      → state_of new.machine ≡ state_of old.machine → Stays history line old new
  Stays-refused begun refused front state = record {
    begun = record {
      front = subst (IsFront history) (sym front) begun.front;
      lines = begun.lines;
      holds = Holds-alike history new old begun.lines (ap (λ f. f.counts) front) state begun.holds;
    };
    refused = λ lines holds.
        nowhere_by history is_history lines (state_of old.machine) holds.reached line
        (λ entry later is_entry step. absurd (refused entry later is_entry step));
  }

-- ---- what is tried behind an order

module _ (history : History) (is_history : IsHistory history) (lines : List Line) (state : State) (reached : Reaches history lines state)
    (counts : List ℕ) (are : AreCounts counts lines) (from : ℕ) (above : Option ℕ) (choice : Choice)
    (next : IsNextCall history counts from choice) (is_least : IsLeast history.events counts from history.config.cpus (rank_of choice)) where
  -- the call may be tried, with the ends that are left
  pub MayTry-begun : (group : ℕ → Bool) → group choice.cpu ≡ true → TriedIn history group lines from above → (held : Option ℕ)
      → ((bound : ℕ) → held ≡ Some bound → (above ≡ Some bound) × (rank_of choice ≡ from)) → MayTry history lines state choice held
  MayTry-begun group inside tried held left = record {
    is_history = is_history;
    reached = reached;
    places = next.places;
    numbered = next.numbered
        ∙ are.each choice.cpu (let most = is_history.config.most_cpus in let within = next.of_machine in omega (arith, within, most));
    ended = λ end bound is within.
        nowhere_unless history is_history lines state reached (Unfinished choice.cpu choice.number (ok (end ∷ []))) (λ is_next.
        let given = left bound is in
        let rank = rank_pending history.events choice.cpu choice.number choice.places next.places is_next.kind in
        tried.ended choice.cpu choice.number end bound inside is_next.kind (sym rank ∙ given.1) given.0 within);
  }

  -- the line that was tried leads nowhere
  pub Tried-attempt : (group : ℕ → Bool) → TriedIn history group lines from above → (made : Attempt) → IsAttempt history lines choice made
      → LeadsNowhere history (lines ++ made.line ∷ []) → TriedIn history group lines made.left.from made.left.above
  Tried-attempt group tried made attempt nowhere = elim (attempt.left nowhere) [
    | inl passed ↦
        subst (λ (f : ℕ). TriedIn history group lines f made.left.above) (sym passed.from)
        (subst (λ (a : Option ℕ). TriedIn history group lines (rank_of choice + 1) a) (sym passed.above)
        (Tried-passed history is_history lines state reached counts are group from above tried choice next is_least (λ inside. passed.nowhere)))
    | inr ended ↦
        subst (λ (f : ℕ). TriedIn history group lines f made.left.above) (sym ended.from)
        (Tried-ended history is_history lines state reached counts are group from above tried choice next is_least made.left.above ended.nowhere)
  ]

-- ---- what may come next

-- a call that has returned may, with its reply
pub MayCome-returned : (history : History) (counts : List ℕ) (state : State) (choice : Choice) (next : Candidate) → next.choice ≡ choice
    → next.line ≡ Keep choice.cpu choice.number → IsNextCall history counts 0 choice → IsFinished history.events choice.cpu choice.number
    → IsSoonAt history counts state choice → MayCome history counts state next
MayCome-returned history counts state choice next of_choice of_line call finished soon =
    subst (MayCome history counts state) (λ i. record { choice = sym of_choice i; line = sym of_line i })
    (record { call = call; of_cpu = refl; numbered = refl; kind = finished; soon = soon })

-- one that hasn't returned may, with any reply
pub MayCome-pending : (history : History) (counts : List ℕ) (state : State) (choice : Choice) (claimed : Reply) (next : Candidate)
    → next.choice ≡ choice → next.line ≡ Unfinished choice.cpu choice.number claimed → IsNextCall history counts 0 choice
    → ¬ IsFinished history.events choice.cpu choice.number → IsSoonAt history counts state choice → MayCome history counts state next
MayCome-pending history counts state choice claimed next of_choice of_line call pending soon =
    subst (MayCome history counts state) (λ i. record { choice = sym of_choice i; line = sym of_line i })
    (record { call = call; of_cpu = refl; numbered = refl; kind = pending; soon = soon })
