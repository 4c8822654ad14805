-- At a return the calls of a group are enough, where those outside pass those inside.
use Rattle.verdict_laws.proofs.Common.{◌≡◌, ℕ, ◌≤◌, Bool, true, false, List, [], ◌∷◌, ◌++◌, subst, append_assoc, Line, Keep, Reply, History, IsHistory, State, IsReturned, count_of, LeadsNowhere}
use Rattle.verdict_laws.specs.Forward.{IsKept, IsOpen, Gives, IsLook, Passes}
use Rattle.verdict_laws.proofs.Looks.{Gives-split, nowhere_further, nowhere_unless_looked, stay_inside}
use Rattle.verdict_laws.proofs.Steps.{nowhere_unless_put}

module _ (history : History) (is_history : IsHistory history) (place : ℕ) (lines : List Line) (state : State)
    (kept : IsKept history place lines state) (cpu number : ℕ) (inside : Line → Bool) (is_inside : inside (Keep cpu number) ≡ true)
    (passes : (line other : Line) → inside line ≡ false → inside other ≡ true → Passes history place lines state line other)
    (tries : (line : Line) (new : State) → inside line ≡ true → IsOpen history.events place lines line → Gives history.events state (line ∷ []) new
    → LeadsNowhere history (lines ++ line ∷ [])) where
  -- a sequence that has to be looked at begins with a call of the group
  looked : (before : List Line) (new : State) → IsLook history place lines state before (Keep cpu number) new
      → LeadsNowhere history (lines ++ (before ++ Keep cpu number ∷ []))
  looked [] new look = tries (Keep cpu number) new is_inside look.are_open.0 look.given
  looked (x ∷ xs) new look =
      let rest = xs ++ Keep cpu number ∷ [] in
      let all = stay_inside history is_history place lines state kept inside (x ∷ xs) (Keep cpu number) new is_inside passes look in
      let parts = Gives-split history.events state (x ∷ []) rest new look.given in
      subst (λ (ls : List Line). LeadsNowhere history ls) (append_assoc lines (x ∷ []) rest)
      (nowhere_further history (lines ++ x ∷ []) rest (tries x parts.middle all.0 look.are_open.0 parts.first))

  -- so the order leads nowhere
  pub nowhere_unless_inside : (given : Reply) → IsReturned history.events place cpu number given → count_of cpu lines ≤ number
      → LeadsNowhere history lines
  nowhere_unless_inside given returned lacks =
      nowhere_unless_put history is_history place lines state kept cpu number given returned lacks
      (nowhere_unless_looked history is_history place lines state kept (Keep cpu number) looked)
