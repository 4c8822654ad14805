-- Steps of the plan, one further.
use Rattle.std.proofs.Common.{◌≡◌, List, [], ◌∷◌, ◌++◌, None, refl, sym, subst}
use Rattle.rmm_spec.specs.declared.call.Call.{Call}
use Rattle.rmm_spec.specs.HistoryText.{Config}
use Rattle.rmm_spec.specs.Shape.{CpuPlace}
use Rattle.rmm_spec.specs.Local.{HeldCell}
use Rattle.granule_lock.specs.Locked.{Locking, locking, IsPlannedStep, ArePlannedSteps, IsReached}

module _ (config : Config) (call : Call) (place : CpuPlace) where
  planned-push : (old : Locking) (steps : List Locking) (last new : Locking) → ArePlannedSteps config call place old steps last
      → IsPlannedStep config call place last new → ArePlannedSteps config call place old (steps ++ new ∷ []) new
  planned-push old [] last new is step = (subst (λ (l : Locking). IsPlannedStep config call place l new) (sym is) step, refl)
  planned-push old (first ∷ steps) last new is step = (is.0, planned-push first steps last new is.1 step)

  -- nothing is held before the first
  pub reached-none : (held : List HeldCell) → held ≡ [] → IsReached config call place (locking held None)
  reached-none held none = record { steps = []; planned = λ i. locking (sym none i) None }

  -- one step further
  pub reached-push : (last new : Locking) → IsReached config call place last → IsPlannedStep config call place last new
      → IsReached config call place new
  reached-push last new is step =
      record { steps = is.steps ++ new ∷ []; planned = planned-push (locking [] None) is.steps last new is.planned step }
