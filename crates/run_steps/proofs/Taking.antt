-- One line more is replayed.
use Rattle.std.proofs.Common.{◌≡◌, ℕ, ◌+◌, ◌≤◌, List, [], ◌∷◌, ◌++◌, length, take, Some, Result, inl, inr, refl, sym, ◌∙◌, subst, arith}
use Rattle.std.specs.List.{slice_get}
use Rattle.std.proofs.lemmas.List.{length-append}
use Rattle.std.proofs.lemmas.Option.{same_Some, slice_get_within}
use Rattle.lemmas.proofs.Elements.{take-next_at}
use Rattle.history.specs.Calls.{IsCallOf}
use Rattle.history.specs.declared.history.Call.{Call}
use Rattle.rmm_spec.specs.declared.accepted.Accepted.{Accepted}
use Rattle.rmm_spec.specs.declared.event.Event.{Event}
use Rattle.rmm_spec.specs.declared.line.Line.{Line}
use Rattle.rmm_spec.specs.declared.refusal.Refusal.{Refusal}
use Rattle.rmm_spec.specs.declared.reply.Reply.{Reply}
use Rattle.rmm_spec.specs.Call.{call_of}
use Rattle.rmm_spec.specs.HistoryText.{History}
use Rattle.rmm_spec.specs.Linearization.{IsReplyOf, cpu_named, number_named}
use Rattle.rmm_spec.specs.State.{State, opening}
use Rattle.rmm_spec.specs.Step.{Step, outcome}
use Rattle.run_steps.specs.Replayed.{AreReplayed, AreTaken, StopsAt, TakesLine, Told}

-- the first lines are replayed, and this is told of them
pub record AreFirst (history : History) (lines : List Line) (count : ℕ) (told : List Told) (last : State) : Type 0 where
  pub taken : AreTaken history.events (opening history.config) (take count lines) told last
  pub within : count ≤ length lines
  pub counted : length told ≡ count

AreTaken-push : (events : List Event) (old : State) (lines : List Line) (told : List Told) (middle : State) (line : Line) (here : Told) (new : State)
    → AreTaken events old lines told middle → TakesLine events middle line here.command here.answer new
    → AreTaken events old (lines ++ line ∷ []) (told ++ here ∷ []) new
AreTaken-push events old [] [] middle line here new same step =
    (new, (subst (λ (s : State). TakesLine events s line here.command here.answer new) same step, refl))
AreTaken-push events old (first ∷ lines) (one ∷ told) middle line here new (next, (step, rest)) last =
    (next, (step, AreTaken-push events next lines told middle line here new rest last))
AreTaken-push events old [] (one ∷ told) middle line here new taken step = absurd taken
AreTaken-push events old (first ∷ lines) [] middle line here new taken step = absurd taken

pub AreFirst-next : (history : History) (lines : List Line) (count : ℕ) (told : List Told) (middle : State) (line : Line) (here : Told) (new : State)
    → AreFirst history lines count told middle → slice_get lines count ≡ Some line → TakesLine history.events middle line here.command here.answer new
    → AreFirst history lines (count + 1) (told ++ here ∷ []) new
AreFirst-next history lines count told middle line here new first is_line step =
    let within = slice_get_within lines count line is_line in
    record {
      taken = subst (λ (xs : List Line). AreTaken history.events (opening history.config) xs (told ++ here ∷ []) new)
          (sym (take-next_at lines count line is_line))
          (AreTaken-push history.events (opening history.config) (take count lines) told middle line here new first.taken step);
      within = omega (arith, within);
      counted = omega (arith, first.counted, length-append told (here ∷ []));
    }

-- before the first line
pub AreFirst-none : (history : History) (lines : List Line) (state : State) → state ≡ opening history.config → AreFirst history lines 0 [] state
AreFirst-none history lines state same = record { taken = same; within = omega arith; counted = refl }

-- the next line stops the replay
pub AreReplayed-stopped : (history : History) (lines : List Line) (count : ℕ) (told : List Told) (last : State) (line : Line)
    → AreFirst history lines count told last → slice_get lines count ≡ Some line
    → StopsAt history.events last line → AreReplayed history lines count told
AreReplayed-stopped history lines count told last line first is_line stops = record {
  last = last;
  taken = first.taken;
  within = first.within;
  next = λ other is_other. subst (λ (l : Line). StopsAt history.events last l) (same_Some line other (sym is_line ∙ is_other)) stops;
}

-- no line is left
pub AreReplayed-all : (history : History) (lines : List Line) (count : ℕ) (told : List Told) (last : State)
    → AreFirst history lines count told last → length lines ≤ count → AreReplayed history lines count told
AreReplayed-all history lines count told last first all = record {
  last = last;
  taken = first.taken;
  within = first.within;
  next = λ other is_other. absurd (let within = slice_get_within lines count other is_other in let bad : ⊥ = omega (arith, within, all) in bad);
}

-- a line is taken, of whose call and reply this is known
pub TakesLine-of : (events : List Event) (old : State) (line : Line) (cpu number : ℕ)
    (call : Call) (given : Reply) (answer : Result Accepted Refusal) (new : State)
    → cpu ≡ cpu_named line → number ≡ number_named line → IsCallOf events cpu number call
    → ((all : List Event) → IsCallOf all (cpu_named line) (number_named line) call → IsReplyOf all line given)
    → answer ≡ outcome old cpu (call_of call.command) → Step old cpu call.command given new → TakesLine events old line call.command answer new
TakesLine-of events old line cpu number call given answer new same_cpu same_number is_call claims answers step =
    let named : IsCallOf events (cpu_named line) (number_named line) call =
    subst (λ (c : ℕ). IsCallOf events c (number_named line) call) same_cpu (subst (λ (n : ℕ). IsCallOf events cpu n call) same_number is_call) in
    record {
      entry = record { cpu = cpu; command = call.command; given = given };
      is_entry = record { cpu = same_cpu; called = named.called.0; is_called = named.called.2; given = claims events named };
      is_command = refl;
      answers = answers;
      step = step;
    }

-- the line claims no reply
pub StopsAt-unclaimed : (events : List Event) (old : State) (line : Line) (cpu number : ℕ) (call : Call)
    → cpu ≡ cpu_named line → number ≡ number_named line
    → IsCallOf events cpu number call
    → ((all : List Event) (given : Reply) → IsCallOf all (cpu_named line) (number_named line) call → ¬ IsReplyOf all line given)
    → StopsAt events old line
StopsAt-unclaimed events old line cpu number call same_cpu same_number is_call none =
    let named : IsCallOf events (cpu_named line) (number_named line) call =
    subst (λ (c : ℕ). IsCallOf events c (number_named line) call) same_cpu (subst (λ (n : ℕ). IsCallOf events cpu n call) same_number is_call) in
    inl (λ entry is. none events entry.given named is.given)

-- or one that isn't given
pub StopsAt-refused : (events : List Event) (old : State) (line : Line) (cpu number : ℕ) (call : Call) (given : Reply)
    → cpu ≡ cpu_named line → number ≡ number_named line → IsCallOf events cpu number call
    → ((all : List Event) → IsCallOf all (cpu_named line) (number_named line) call → IsReplyOf all line given)
    → ((new : State) → ¬ Step old cpu call.command given new) → StopsAt events old line
StopsAt-refused events old line cpu number call given same_cpu same_number is_call claims refused =
    let named : IsCallOf events (cpu_named line) (number_named line) call =
    subst (λ (c : ℕ). IsCallOf events c (number_named line) call) same_cpu (subst (λ (n : ℕ). IsCallOf events cpu n call) same_number is_call) in
    inr (
      record { cpu = cpu; command = call.command; given = given },
      record { cpu = same_cpu; called = named.called.0; is_called = named.called.2; given = claims events named },
      refused,
    )
