-- A line that may come next, and lines that are tried behind an order.
use Rattle.std.specs.Prelude.{◌≡◌, ℕ, List, [], ◌∷◌, ◌++◌}
use Rattle.std.specs.List.{All}
use Rattle.rmm_spec.specs.declared.line.Line.{Line}
use Rattle.rmm_spec.specs.HistoryText.{History}
use Rattle.rmm_spec.specs.Linearization.{IsOfItsKind, cpu_named, number_named}
use Rattle.rmm_spec.specs.State.{State}
use Rattle.verdict_laws.specs.Order.{LeadsNowhere}
use Rattle.finding.specs.Begun.{HoldsOf, IsSoonAt}
use Rattle.finding.specs.Choice.{IsNextCall}
use Rattle.finding.specs.declared.candidate.Candidate.{Candidate}

-- the line may come next behind an order of so many calls of each CPU with the state
pub record MayCome (history : History) (counts : List ℕ) (state : State) (next : Candidate) : Type 0 where
  pub call : IsNextCall history counts 0 next.choice
  pub of_cpu : cpu_named next.line ≡ next.choice.cpu
  pub numbered : number_named next.line ≡ next.choice.number
  pub kind : IsOfItsKind history.events next.line
  pub soon : IsSoonAt history counts state next.choice

-- it leads nowhere there
abbrev pub LeadsNowhereWith : History → List ℕ → State → Candidate → Type 0
LeadsNowhereWith history counts state next = (lines : List Line) → HoldsOf history counts state lines → LeadsNowhere history (lines ++ next.line ∷ [])

abbrev pub AllMayCome : History → List ℕ → State → List Candidate → Type 0
AllMayCome history counts state lines = All (MayCome history counts state) lines

abbrev pub AllLeadNowhere : History → List ℕ → State → List Candidate → Type 0
AllLeadNowhere history counts state lines = All (LeadsNowhereWith history counts state) lines
