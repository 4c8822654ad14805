use Rattle.finding.proofs.group.stays_outside.Goals as goal

pub returns-else-has : goal.returns-else-has
returns-else-has c = λ passes _. c.passes_inside.ensures passes
