-- The lines of a call that can come next: its recorded reply, or what the specification answers.
use Rattle.finding.proofs.Common.{◌++◌, ◌+◌, ◌<◌, ◌∷◌, ◌≡◌, ◌≤◌, Choice, HasOnePlaces-from_history, History, IsFinished, IsHistory, LeadsNowhere, Line, List, None, Option, Reply, Some, State, Unfinished, [], arith, cases_lt, inl, inr, rank_of, refl, subst, sym, ℕ}
use Rattle.std.proofs.Common.{Result, Ok}
use Rattle.std.specs.Option.{MatchOption}
use Rattle.std.proofs.lemmas.Option.{none-some, same_Some}
use Rattle.rmm_spec.specs.declared.accepted.Accepted.{Accepted}
use Rattle.rmm_spec.specs.declared.accepted.Accepted.TheVariants.{Reaches}
use Rattle.rmm_spec.specs.declared.accepted.Stretch.{Stretch}
use Rattle.rmm_spec.specs.declared.command.Command.{Command}
use Rattle.rmm_spec.specs.declared.line.Line.TheVariants.{Keep}
use Rattle.rmm_spec.specs.declared.refusal.Refusal.{Refusal}
use Rattle.rmm_spec.specs.declared.reply.Reply.TheVariants as reply
use Rattle.rmm_spec.specs.Call.{call_of}
use Rattle.rmm_spec.specs.CommandText.{IsReply}
use Rattle.rmm_spec.specs.Rows.{ok}
use Rattle.rmm_spec.specs.Run.{JournalEntry}
use Rattle.rmm_spec.specs.Step.{Step, CarriesOut, outcome}
use Rattle.rmm_spec.specs.Step.Ripas.{IsReached}
use Rattle.rmm_spec.specs.Linearization.{IsReturned, IsEntryOf}
use Rattle.spec_lemmas.proofs.Places.{call_is_event}
use Rattle.history.specs.Calls.{ArePlacesOf}
use Rattle.spec_lemmas.proofs.Calls.{same_command}
use Rattle.verdict_laws.proofs.CallOrder.{few_calls}
use Rattle.verdict_laws.proofs.Nowhere.{nowhere_by}
use Rattle.finding.specs.Attempt.{EndsLeadNowhere, MayTry, IsAnswered, IsAttempt}
use Rattle.finding.specs.declared.attempt.Attempt.{Attempt}
use Rattle.finding.specs.Ends.{IsBelow, IsEnd}
use Rattle.finding.specs.Tried.{CallLeadsNowhere}
use Rattle.spec_lemmas.proofs.Replies.{word_of}

-- the places of a call that hasn't returned
pub pending_at : (history : History) (choice : Choice) → ArePlacesOf history.events choice.cpu choice.number choice.places
    → choice.places.returned ≡ None → ¬ IsFinished history.events choice.cpu choice.number
pending_at history choice are none =
    subst (λ (o : Option ℕ). MatchOption o (¬ IsFinished history.events choice.cpu choice.number)
    (λ p. (given : Reply) × IsReturned history.events p choice.cpu choice.number given)) none are.returned

-- a call's CPU and number are those of a line
pub of_a_line : (history : History) → IsHistory history → (choice : Choice) → ArePlacesOf history.events choice.cpu choice.number choice.places
    → (choice.cpu < 8) × (choice.number < 1000000)
of_a_line history is_history choice are =
    let called = are.called in
    let event = call_is_event history choice.places.called choice.cpu choice.number called.0 is_history called.1 in
    let most = is_history.config.most_cpus in
    (omega (arith, event.0, most), few_calls history is_history choice.cpu choice.number (choice.places.called, called.0, called.1))

-- only a kept line is of a finished call's kind
pub nowhere_kept : (history : History) (lines : List Line) (cpu number : ℕ) → IsFinished history.events cpu number
    → LeadsNowhere history (lines ++ Keep cpu number ∷ []) → CallLeadsNowhere history lines cpu number
nowhere_kept history lines cpu number finished nowhere (Keep c n) of_cpu numbered kind =
    subst (λ (x : ℕ). LeadsNowhere history (lines ++ Keep x n ∷ [])) (sym of_cpu)
    (subst (λ (x : ℕ). LeadsNowhere history (lines ++ Keep cpu x ∷ [])) (sym numbered) nowhere)
nowhere_kept history lines cpu number finished nowhere (Unfinished c n claimed) of_cpu numbered kind =
    absurd (kind (subst (λ (x : ℕ). IsFinished history.events x n) (sym of_cpu)
    (subst (λ (x : ℕ). IsFinished history.events cpu x) (sym numbered) finished)))

-- only an unfinished line is of a call's kind that hasn't returned
nowhere_pending : (history : History) (lines : List Line) (cpu number : ℕ) → ¬ IsFinished history.events cpu number
    → ((claimed : Reply) → LeadsNowhere history (lines ++ Unfinished cpu number claimed ∷ [])) → CallLeadsNowhere history lines cpu number
nowhere_pending history lines cpu number pending each (Keep c n) of_cpu numbered kind =
    absurd (pending (subst (λ (x : ℕ). IsFinished history.events x number) of_cpu (subst (λ (x : ℕ). IsFinished history.events c x) numbered kind)))
nowhere_pending history lines cpu number pending each (Unfinished c n claimed) of_cpu numbered kind =
    subst (λ (x : ℕ). LeadsNowhere history (lines ++ Unfinished x n claimed ∷ [])) (sym of_cpu)
    (subst (λ (x : ℕ). LeadsNowhere history (lines ++ Unfinished cpu x claimed ∷ [])) (sym numbered) (each claimed))

module _ (history : History) (lines : List Line) (state : State) (choice : Choice) (above : Option ℕ) (may : MayTry history lines state choice above)
    (command : Command) (answer : Result Accepted Refusal) (answered : IsAnswered history choice state command answer) where
  pending : ¬ IsFinished history.events choice.cpu choice.number
  pending = pending_at history choice may.places answered.pending

  -- what is carried out for a claim is what the specification answers
  claim_carries : (claimed : Reply) (entry : JournalEntry) (new : State)
      → IsEntryOf history.events (Unfinished choice.cpu choice.number claimed) entry
      → Step state entry.cpu entry.command entry.given new → CarriesOut answer state claimed new
  claim_carries claimed entry new is_entry step =
      let one = HasOnePlaces-from_history history may.is_history in
      let same = same_command history.events one is_entry.called choice.places.called
      choice.cpu choice.number entry.command command is_entry.is_called answered.is_called in
      subst (λ (a : Result Accepted Refusal). CarriesOut a state claimed new) (sym answered.answered)
      (subst (λ (g : Reply). CarriesOut (outcome state choice.cpu (call_of command)) state g new) is_entry.given
      (subst (λ (m : Command). CarriesOut (outcome state choice.cpu (call_of m)) state entry.given new) same
      (subst (λ (c : ℕ). CarriesOut (outcome state c (call_of entry.command)) state entry.given new) is_entry.cpu step)))

  -- a claim that leads nowhere wherever it is carried out
  nowhere_claim : (claimed : Reply)
      → ((new : State) → CarriesOut answer state claimed new → LeadsNowhere history (lines ++ Unfinished choice.cpu choice.number claimed ∷ []))
      → LeadsNowhere history (lines ++ Unfinished choice.cpu choice.number claimed ∷ [])
  nowhere_claim claimed each =
      nowhere_by history may.is_history lines state may.reached (Unfinished choice.cpu choice.number claimed) (λ entry new is_entry step.
      each new (claim_carries claimed entry new is_entry step))

  -- the only reply
  only_reply : (given : Reply) → ((claimed : Reply) (new : State) → CarriesOut answer state claimed new → claimed ≡ given)
      → LeadsNowhere history (lines ++ Unfinished choice.cpu choice.number given ∷ []) → CallLeadsNowhere history lines choice.cpu choice.number
  only_reply given only nowhere =
      nowhere_pending history lines choice.cpu choice.number pending (λ claimed. nowhere_claim claimed (λ new carried.
      subst (λ (r : Reply). LeadsNowhere history (lines ++ Unfinished choice.cpu choice.number r ∷ [])) (sym (only claimed new carried)) nowhere))

  pub IsAttempt-only : (given : Reply) → ((claimed : Reply) (new : State) → CarriesOut answer state claimed new → claimed ≡ given) → (made : Attempt)
      → made.line ≡ Unfinished choice.cpu choice.number given → made.left.from ≡ rank_of choice + 1 → made.left.above ≡ None → IsReply given
      → IsAttempt history lines choice made
  IsAttempt-only given only made is_line from none has_text =
      let at = of_a_line history may.is_history choice may.places in
      let here : IsAttempt history lines choice (record made { line = Unfinished choice.cpu choice.number given }) = record {
        is_line = (at.0, at.1, has_text);
        of_cpu = refl;
        numbered = refl;
        kind = pending;
        left = λ nowhere. inl (record { from = from; above = none; nowhere = only_reply given only nowhere });
      } in
      subst (λ (l : Line). IsAttempt history lines choice (record made { line = l })) (sym is_line) here

-- what is reached is an end of the stretch
IsEnd-reached : (s : State) (stretch : Stretch) (top : ℕ) → IsReached s stretch top → IsEnd stretch top
IsEnd-reached s stretch top reached =
    record { count = reached.count; some = reached.some; is_end = reached.is_end; within = reached.within; in_table = reached.in_table }

-- the one word of a reply
unfoldable words_in : Reply → List ℕ
words_in (reply.Ok words) = words.items
words_in (reply.Err status index) = []
words_in reply.Misplaced = []

module _ (history : History) (lines : List Line) (state : State) (choice : Choice) (above : Option ℕ) (may : MayTry history lines state choice above)
    (command : Command) (stretch : Stretch) (answered : IsAnswered history choice state command (Ok (Reaches stretch))) where
  -- an end that isn't below the bound leads nowhere, and each other is below it
  end_nowhere : (bound : Option ℕ) → EndsLeadNowhere history lines choice bound → (end : ℕ)
      → (IsBelow bound end → LeadsNowhere history (lines ++ Unfinished choice.cpu choice.number (ok (end ∷ [])) ∷ []))
      → LeadsNowhere history (lines ++ Unfinished choice.cpu choice.number (ok (end ∷ [])) ∷ [])
  end_nowhere None ended end below = below (λ bound is. absurd (none-some bound is))
  end_nowhere (Some limit) ended end below = elim (cases_lt end limit) [
    | inl before ↦ below (λ bound is. let same = same_Some limit bound is in omega (arith, before, same))
    | inr past ↦ ended end limit refl past
  ]

  -- no end is left
  pub nowhere_ends : ((end : ℕ) → IsEnd stretch end → IsBelow above end → ⊥) → CallLeadsNowhere history lines choice.cpu choice.number
  nowhere_ends none =
      nowhere_pending history lines choice.cpu choice.number (pending_at history choice may.places answered.pending) (λ claimed.
      nowhere_claim history lines state choice above may command (Ok (Reaches stretch)) answered claimed (λ new carried.
      subst (λ (r : Reply). LeadsNowhere history (lines ++ Unfinished choice.cpu choice.number r ∷ [])) (sym carried.1.1)
      (end_nowhere above may.ended carried.0 (λ below. absurd (none carried.0 (IsEnd-reached state stretch carried.0 carried.1.0) below)))))

  -- the greatest that is left
  ended : (top : ℕ) → ((end : ℕ) → IsEnd stretch end → IsBelow above end → end ≤ top)
      → LeadsNowhere history (lines ++ Unfinished choice.cpu choice.number (ok (top ∷ [])) ∷ [])
      → EndsLeadNowhere history lines choice (Some top)
  ended top greatest nowhere end bound is within =
      let same = same_Some top bound is in
      nowhere_claim history lines state choice above may command (Ok (Reaches stretch)) answered (ok (end ∷ [])) (λ new carried.
      let at = word_of end carried.0 carried.1.1 in
      end_nowhere above may.ended end (λ below.
      let is_end : IsEnd stretch end = subst (IsEnd stretch) (sym at) (IsEnd-reached state stretch carried.0 carried.1.0) in
      let no_greater = greatest end is_end below in
      let top_is : top ≡ end = omega (arith, same, within, no_greater) in
      subst (λ (e : ℕ). LeadsNowhere history (lines ++ Unfinished choice.cpu choice.number (ok (e ∷ [])) ∷ [])) top_is nowhere))

  pub IsAttempt-ended : (top : ℕ) → ((end : ℕ) → IsEnd stretch end → IsBelow above end → end ≤ top) → (made : Attempt)
      → made.line ≡ Unfinished choice.cpu choice.number (ok (top ∷ []))
      → made.left.from ≡ rank_of choice → made.left.above ≡ Some top → IsReply (ok (top ∷ []))
      → IsAttempt history lines choice made
  IsAttempt-ended top greatest made is_line from is_above has_text =
      let at = of_a_line history may.is_history choice may.places in
      let here : IsAttempt history lines choice (record made { line = Unfinished choice.cpu choice.number (ok (top ∷ [])) }) = record {
        is_line = (at.0, at.1, has_text);
        of_cpu = refl;
        numbered = refl;
        kind = pending_at history choice may.places answered.pending;
        left = λ nowhere. inr (record {
          from = from;
          pending = answered.pending;
          nowhere = subst (EndsLeadNowhere history lines choice) (sym is_above) (ended top greatest nowhere);
        });
      } in
      subst (λ (l : Line). IsAttempt history lines choice (record made { line = l })) (sym is_line) here
