-- The first events of a history, so many.
use Rattle.std.proofs.Common.{ℕ, ◌≤◌, take, arith}
use Rattle.rmm_spec.specs.declared.event.Event.TheVariants.{Returned}
use Rattle.rmm_spec.specs.declared.reply.Reply.{Reply}
use Rattle.rmm_spec.specs.HistoryText.{History, IsHistory}
use Rattle.rmm_spec.specs.Linearization.{IsReturned, IsFinished}
use Rattle.lemmas.proofs.Elements.{slice_get-take}
use Rattle.spec_lemmas.proofs.Places.{one_return_place}

-- a call that returns behind the first events isn't finished among them
pub unfinished_to : (history : History) → IsHistory history → (count cpu number place : ℕ)
    → (given : Reply) × IsReturned history.events place cpu number given → count ≤ place → ¬ IsFinished (take count history.events) cpu number
unfinished_to history is_history count cpu number place returned behind finished =
    let first = slice_get-take count history.events finished.0 (Returned cpu number finished.1) finished.2 in
    let before = first.0 in
    let at = one_return_place cpu number history.events place finished.0 returned.0 finished.1 (is_history.records cpu) returned.1 first.1 in
    omega (arith, before, behind, at)
