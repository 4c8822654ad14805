-- What was tried behind an order that is begun.
use Rattle.std.specs.Prelude.{◌≡◌, ℕ, ◌<◌, ◌≤◌, Bool, true, List, [], ◌∷◌, ◌++◌, Option, Some}
use Rattle.rmm_spec.specs.declared.line.Line.{Line}
use Rattle.rmm_spec.specs.declared.line.Line.TheVariants.{Keep, Unfinished}
use Rattle.rmm_spec.specs.declared.reply.Reply.{Reply}
use Rattle.rmm_spec.specs.HistoryText.{History}
use Rattle.rmm_spec.specs.Rows.{ok}
use Rattle.rmm_spec.specs.Linearization.{IsReturned, IsFinished, IsOfItsKind, cpu_named, number_named}
use Rattle.verdict_laws.specs.Order.{LeadsNowhere}
use Rattle.finding.specs.Choice.{pending_rank}

-- Of the group's CPUs, each call that is tried before the rank leads nowhere, and one that is tried at it and hasn't returned leads
-- nowhere with the ends of its stretch that aren't below the bound.
pub record TriedIn (history : History) (group : ℕ → Bool) (lines : List Line) (from : ℕ) (above : Option ℕ) : Type 0 where
  pub returned : (cpu number place : ℕ) (given : Reply) → group cpu ≡ true → IsReturned history.events place cpu number given → place < from
      → LeadsNowhere history (lines ++ Keep cpu number ∷ [])
  pub pending : (cpu number : ℕ) (claimed : Reply) → group cpu ≡ true → ¬ IsFinished history.events cpu number → pending_rank cpu < from
      → LeadsNowhere history (lines ++ Unfinished cpu number claimed ∷ [])
  pub ended : (cpu number end bound : ℕ) → group cpu ≡ true → ¬ IsFinished history.events cpu number → pending_rank cpu ≡ from
      → above ≡ Some bound → bound ≤ end → LeadsNowhere history (lines ++ Unfinished cpu number (ok (end ∷ [])) ∷ [])

-- each line of that call, of its kind, leads nowhere
abbrev pub CallLeadsNowhere : History → List Line → ℕ → ℕ → Type 0
CallLeadsNowhere history lines cpu number =
    (line : Line) → cpu_named line ≡ cpu → number_named line ≡ number → IsOfItsKind history.events line
    → LeadsNowhere history (lines ++ line ∷ [])
