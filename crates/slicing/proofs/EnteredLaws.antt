-- Where a CPU's call leaves it, from which the next one is made.
use Rattle.std.proofs.Common.{◌≡◌, ℕ, Bool, Option, None, Some, MatchOption, sym, ◌∙◌, ap}
use Rattle.std.specs.List.{slice_get}
use Rattle.std.proofs.Math.Path.{subst₂}
use Rattle.rmi_view.specs.Seen.{reply_seen}
use Rattle.rmm_spec.specs.declared.command.Command.{Command}
use Rattle.rmm_spec.specs.declared.event.Event.TheVariants.{Called, Returned}
use Rattle.rmm_spec.specs.declared.reply.Reply.{Reply}
use Rattle.rmm_spec.specs.Call.{call_of}
use Rattle.rmm_spec.specs.HistoryText.{History, IsHistory}
use Rattle.rmm_spec.specs.Linearization.{IsCalled, IsReturned}
use Rattle.spec_lemmas.proofs.Places.{one_call_place, one_return_place}
use Rattle.verdict_laws.specs.Slices.{is_entered_by}
use Rattle.slicing.specs.declared.call_at.Answer.{Answer}
use Rattle.slicing.specs.declared.call_at.CallAt.{CallAt}
use Rattle.slicing.specs.declared.plan.Plan.{Plan}
use Rattle.slicing.specs.Calls.{HasAnswer, IsCallAt}
use Rattle.slicing.specs.Plans.{entered_at, number_at}

-- the CPU of a call with the answer is inside of a REC behind it
abbrev pub Leaves : Plan → CallAt → Option Answer → Bool → Type 0
Leaves plan c answer inside =
    MatchOption answer (inside ≡ entered_at plan c.place)
    (λ a. inside ≡ is_entered_by (number_at plan c.place) c.call (reply_seen a.reply) (entered_at plan c.place))

module _ (history : History) (is_history : IsHistory history) where
  -- the replies of a call's returns are one
  same_given : (place other cpu number : ℕ) (given told : Reply) → IsReturned history.events place cpu number given
      → IsReturned history.events other cpu number told → given ≡ told
  same_given place other cpu number given told here there =
      let at = one_return_place cpu number history.events place other given told (is_history.records cpu) here there in
      let both : Some (Returned cpu number given) ≡ Some (Returned cpu number told) =
      sym here ∙ ap (λ (p : ℕ). slice_get history.events p) at ∙ there in cc

  -- the call that is found where one of a CPU is made is that one
  found_call : (at place cpu number : ℕ) (made command : Command) (c : CallAt) → IsCalled history.events at cpu number made
      → IsCallAt history.events at c → IsCalled history.events place cpu number command
      → (c.place ≡ place) × (c.cpu ≡ cpu) × (c.number ≡ number) × (c.call ≡ call_of command)
  found_call at place cpu number made command c is_made found is_called =
      let here = found.0 ∙ one_call_place cpu number history.events at place made command (is_history.records cpu) is_made is_called in
      let both : Some (Called c.cpu c.number found.1.0) ≡ Some (Called cpu number command) =
      sym found.1.1.is_called ∙ ap (λ (p : ℕ). slice_get history.events p) here ∙ is_called in
      let of_cpu : c.cpu ≡ cpu = cc in
      let numbered : c.number ≡ number = cc in
      let same : found.1.0 ≡ command = cc in (here, of_cpu, numbered, found.1.1.call ∙ ap call_of same)

  -- it leaves its CPU as its return does
  pub entered_behind : (plan : Plan) (at place returned cpu number : ℕ) (made command : Command) (given : Reply) (c : CallAt) (inside : Bool)
      → IsCalled history.events at cpu number made → IsCallAt history.events at c → IsCalled history.events place cpu number command
      → IsReturned history.events returned cpu number given → Leaves plan c c.answer inside
      → inside ≡ is_entered_by (number_at plan place) (call_of command) given (entered_at plan place)
  entered_behind plan at place returned cpu number made command given c inside is_made found is_called is_returned leaves =
      let same = found_call at place cpu number made command c is_made found is_called in
      by c.answer (subst₂ (λ (k n : ℕ). HasAnswer history.events k n c.answer) same.1 same.2 found.1.1.answer) leaves
      ∙ (λ i. is_entered_by (number_at plan (same.0 i)) (same.3 i) given (entered_at plan (same.0 i)))
    where
      by : (answer : Option Answer) → HasAnswer history.events cpu number answer → Leaves plan c answer inside
          → inside ≡ is_entered_by (number_at plan c.place) c.call given (entered_at plan c.place)
      by None none leaves = absurd (none (returned, given, is_returned))
      by (Some a) is leaves =
          leaves
          ∙ ap (λ (g : Reply). is_entered_by (number_at plan c.place) c.call g (entered_at plan c.place))
          (same_given a.place returned cpu number (reply_seen a.reply) given is is_returned)
