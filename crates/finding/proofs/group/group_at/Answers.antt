-- The CPUs outside pass those inside, or none is outside.
use Rattle.finding.proofs.Common.{◌≤◌, subst, ℕ}
use Rattle.finding.specs.Group.{is_inside}
use Rattle.finding.proofs.GroupLaws.{IsGroup-drawn}
use Rattle.finding.proofs.group.group_at.Goals as goal

pub returns-in-None-clause-group : goal.returns-in-None-clause-group
returns-in-None-clause-group c =
    IsGroup-drawn c.args.history.now.recorded c.args.begun.now c.requires.begun c.args.first c.open_calls-calls.result (is_inside c.drawn.group)
    c.drawn.invariant.inside (subst (λ (n : ℕ). n ≤ 8) c.cpus_of-fact.ensures.count c.cpus_of-fact.ensures.few)
    (rw c.rank.ensures.rank at c.open_calls-calls.ensures) c.in-None.ensures.none
