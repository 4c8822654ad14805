-- Calls that never returned, place by place.
use Rattle.explain.proofs.Common.{◌++◌, ◌+◌, ◌∷◌, ◌≡◌, Command, Event, IsCalled, Line, List, [], arith, inl, inr, subst, suc, ℕ}
use Rattle.rmm_spec.specs.Linearization.{IsFinished}
use Rattle.reasons.specs.declared.named_call.UnfinishedCall.{UnfinishedCall}
use Rattle.explain.specs.Unfinished.{AreUnfinished, IsUnfinished}

next_place : (place : ℕ) → suc place ≡ place + 1
next_place place = omega arith

-- one more
pub next_open : (events : List Event) (lines : List Line) (place : ℕ) (before calls : List UnfinishedCall) (last : UnfinishedCall)
    → AreUnfinished events lines place before → calls ≡ before ++ last ∷ []
    → IsUnfinished events lines place last → AreUnfinished events lines (place + 1) calls
next_open events lines place before calls last are is open_call =
    subst (λ (n : ℕ). AreUnfinished events lines n calls) (next_place place) (inl (before, are, last, is, open_call))

-- none at a place of another event, or of a call that returned
pub next_other : (events : List Event) (lines : List Line) (place : ℕ) (calls : List UnfinishedCall) → AreUnfinished events lines place calls
    → ((cpu number : ℕ) (command : Command) → IsCalled events place cpu number command → IsFinished events cpu number)
    → AreUnfinished events lines (place + 1) calls
next_other events lines place calls are returned =
    subst (λ (n : ℕ). AreUnfinished events lines n calls) (next_place place) (inr (are, returned))
