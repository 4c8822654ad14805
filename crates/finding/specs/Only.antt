-- What is tried next behind an order.
use Rattle.std.specs.Prelude.{⊤, ◌<◌}
use Rattle.rmm_spec.specs.HistoryText.{History}
use Rattle.spec_machine.specs.View.{state_of}
use Rattle.finding.specs.Begun.{IsGroup, IsLost}
use Rattle.finding.specs.Choice.{IsLeast, IsNextCall, rank_of}
use Rattle.finding.specs.Group.{is_inside}
use Rattle.finding.specs.Waiting.{LeadsNowhereWith, MayCome}
use Rattle.finding.specs.declared.begun.Begun.{Begun}
use Rattle.finding.specs.declared.candidate.Candidate.{Candidate}
use Rattle.finding.specs.declared.group.Group.{Group}
use Rattle.finding.specs.declared.only.NextStep.{NextStep}
use Rattle.finding.specs.declared.only.NextStep.TheVariants as next_step

-- the call may come next, and where it leads nowhere, the order does
pub record IsOnly (history : History) (begun : Begun) (next : Candidate) : Type 0 where
  pub come : MayCome history begun.front.counts (state_of begun.machine) next
  pub alone : LeadsNowhereWith history begun.front.counts (state_of begun.machine) next → IsLost history begun

-- it is the group of the open call that returned first
pub record IsFirstGroup (history : History) (begun : Begun) (drawn : Group) : Type 0 where
  pub first : IsNextCall history begun.front.counts 0 drawn.first
  pub least : IsLeast history.events begun.front.counts 0 history.config.cpus (rank_of drawn.first)
  pub returned : rank_of drawn.first < 1000000
  pub group : IsGroup history begun drawn.first (is_inside drawn)

abbrev pub IsNextStep : History → Begun → NextStep → Type 0
IsNextStep history begun (next_step.Only next) = IsOnly history begun next
IsNextStep history begun (next_step.Group group) = IsFirstGroup history begun group
IsNextStep history begun next_step.Nothing = ⊤
