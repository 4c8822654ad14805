-- A CPU's calls one after another: those made before a place are its first ones, and they return in their order.
use Rattle.std.proofs.Common.{◌≡◌, ℕ, ◌<◌, ◌≤◌, inl, inr, Some, take, refl, arith}
use Rattle.std.specs.List.{slice_get}
use Rattle.std.proofs.lemmas.Bool.{cases_lt}
use Rattle.rmm_spec.specs.declared.command.Command.{Command}
use Rattle.rmm_spec.specs.declared.event.Event.{Event}
use Rattle.rmm_spec.specs.declared.event.Event.TheVariants.{Called, Returned}
use Rattle.rmm_spec.specs.declared.reply.Reply.{Reply}
use Rattle.rmm_spec.specs.HistoryText.{History, IsHistory, cpu_of, rank}
use Rattle.rmm_spec.specs.Linearization.{IsCalled, IsReturned}
use Rattle.lemmas.proofs.Elements.{slice_get-front, slice_get-take}
use Rattle.spec_lemmas.proofs.Places.{IsFinished-below, IsKnown-below, below-IsFinished, below-IsKnown, length-subhistory_of-lt, rank-slice_get}
use Rattle.verdict_laws.specs.Slices.{IsBack}

module _ (history : History) (is_history : IsHistory history) where
  -- of two events of a CPU, the one of the lower rank doesn't come behind the other
  rank_order : (cpu place other : ℕ) (event later : Event) → slice_get history.events place ≡ Some event
      → slice_get history.events other ≡ Some later → cpu_of event ≡ cpu → cpu_of later ≡ cpu → rank event ≤ rank later → place ≤ other
  rank_order cpu place other event later is_event is_later its also below = elim (cases_lt other place) [
    | inl behind ↦
        let here = rank-slice_get cpu history.events place event (is_history.records cpu) is_event its in
        let there = rank-slice_get cpu history.events other later (is_history.records cpu) is_later also in
        absurd (omega (arith, below, here, there, length-subhistory_of-lt cpu history.events other place later is_later also behind))
    | inr before ↦ before
  ]

  -- where a CPU's call isn't made before a place, those that are have lower numbers
  pub number_below : (count cpu made from : ℕ)
      → ((called : ℕ) (command : Command) → IsCalled history.events called cpu made command → from ≤ called)
      → (place number : ℕ) (command : Command) → IsCalled (take count history.events) place cpu number command → place < from → number < made
  number_below count cpu made from late place number command is_called early = elim (cases_lt number made) [
    | inl below ↦ below
    | inr above ↦
        let here = (slice_get-take count history.events place (Called cpu number command) is_called).1 in
        let within = below-IsKnown cpu number history.events (is_history.records cpu) (place, command, here) in
        let known = IsKnown-below cpu made history.events (is_history.records cpu) (omega (arith, above, within)) in
        let order = rank_order cpu known.0 place (Called cpu made known.1) (Called cpu number command) known.2 here refl refl
        (omega (arith, above)) in
        absurd (omega (arith, order, early, late known.0 known.1 known.2))
  ]

  -- where a call returned among the first events, the calls before it did so no later
  pub IsBack-below : (count cpu number last returned first : ℕ) (given : Reply) → number ≤ last → IsReturned history.events returned cpu last given
      → returned < first → returned < count → IsBack (take count history.events) cpu number first
  IsBack-below count cpu number last returned first given below is_returned before within =
      let far = below-IsFinished cpu last history.events (is_history.records cpu) (returned, given, is_returned) in
      let finished = IsFinished-below cpu number history.events (is_history.records cpu) (omega (arith, below, far)) in
      let order = rank_order cpu finished.0 returned (Returned cpu number finished.1) (Returned cpu last given) finished.2 is_returned refl refl
      (omega (arith, below)) in (
        finished.0,
        finished.1,
        slice_get-front count history.events finished.0 (Returned cpu number finished.1) (omega (arith, order, within)) finished.2,
        omega (arith, order, before),
      )
