use Rattle.finding.proofs.ends.furthest.Goals as goal

pub returns-in-None : goal.returns-in-None
returns-in-None c = λ end is_end below. c.last_end-end.ensures end is_end

pub returns-in-Some-2 : goal.returns-in-Some-2
returns-in-Some-2 c = λ end is_end below. c.last_end-end.ensures end is_end
