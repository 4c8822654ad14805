-- Calls that are tried alone.
use Rattle.finding.proofs.Common.{◌++◌, ◌≡◌, ◌∷◌, ◌<◌, Choice, History, IsHistory, IsLeast, IsNextCall, LeadsNowhere, Line, None, [], rank_of, state_of, subst, sym, ◌∙◌, ℕ}
use Rattle.std.proofs.Common.{true}
use Rattle.rmm_spec.specs.declared.line.Line.TheVariants.{Keep}
use Rattle.finding.specs.Begun.{IsGroup, IsSoon}
use Rattle.finding.specs.Group.{is_inside}
use Rattle.finding.specs.Only.{IsFirstGroup, IsOnly}
use Rattle.finding.specs.Settled.{IsSettledHere}
use Rattle.finding.specs.declared.begun.Begun.{Begun}
use Rattle.finding.specs.declared.candidate.Candidate.{Candidate}
use Rattle.finding.specs.declared.group.Group.{Group}
use Rattle.finding.specs.declared.left.Left.{Left}
use Rattle.finding.proofs.BegunLaws.{MayCome-returned}
use Rattle.finding.proofs.Choices.{returned_first}
use Rattle.finding.proofs.NextLines.{IsFinished-settled, IsLost-alone, IsLost-settled, IsSoon-first}

-- the group that is drawn for the call that returned first
pub IsFirstGroup-drawn : (history : History) (begun : Begun) (first : Choice) (group : Group) → group.first ≡ first
    → IsNextCall history begun.front.counts 0 first → IsLeast history.events begun.front.counts 0 history.config.cpus (rank_of first)
    → rank_of first < 1000000 → IsGroup history begun first (is_inside group) → IsFirstGroup history begun group
IsFirstGroup-drawn history begun first group same next least returned drawn = record {
  first = subst (IsNextCall history begun.front.counts 0) (sym same) next;
  least = subst (λ (c : Choice). IsLeast history.events begun.front.counts 0 history.config.cpus (rank_of c)) (sym same) least;
  returned = subst (λ (c : Choice). rank_of c < 1000000) (sym same) returned;
  group = subst (λ (c : Choice). IsGroup history begun c (is_inside group)) (sym same) drawn;
}

module _ (history : History) (is_history : IsHistory history) (begun : Begun) (choice : Choice) (next : Candidate)
    (same : next.choice ≡ choice) (line : next.line ≡ Keep choice.cpu choice.number) (call : IsNextCall history begun.front.counts 0 choice) where
  -- one that may come at once
  pub IsOnly-settled : IsSoon history begun choice → IsSettledHere history (state_of begun.machine) choice → IsOnly history begun next
  IsOnly-settled soon settled = record {
    come = MayCome-returned history begun.front.counts (state_of begun.machine) choice next same line call
        (IsFinished-settled history (state_of begun.machine) choice settled) soon;
    alone = λ nowhere. IsLost-settled history is_history begun choice call soon settled
        (λ lines holds. subst (λ (l : Line). LeadsNowhere history (lines ++ l ∷ [])) line (nowhere lines holds));
  }

  -- the one that returned, where it is alone in its group
  pub IsOnly-alone : (group : Group) → group.first ≡ choice → IsFirstGroup history begun group
      → ((cpu : ℕ) → cpu < 8 → is_inside group cpu ≡ true → cpu ≡ group.first.cpu) → IsOnly history begun next
  IsOnly-alone group first is alone =
      let returned = returned_first history.events group.first is.first.places is.returned in
      let left : Left = record { from = 0; above = None } in
      let also : next.line ≡ Keep group.first.cpu group.first.number =
      subst (λ (c : Choice). next.line ≡ Keep c.cpu c.number) (sym first) line in
      record {
        come = MayCome-returned history begun.front.counts (state_of begun.machine) group.first next (same ∙ sym first) also is.first
            (rank_of group.first, returned.0, returned.1)
            (IsSoon-first history is_history begun (is_inside group) left group.first is.first is.least is.returned);
        alone = λ nowhere. IsLost-alone history is_history begun (is_inside group) left group.first is.first is.least is.returned is.group alone
            (λ lines holds. subst (λ (l : Line). LeadsNowhere history (lines ++ l ∷ [])) also (nowhere lines holds));
      }
