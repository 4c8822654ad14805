use Rattle.std.proofs.Common.{arith, [], ◌∷◌, length-append}
use Rattle.std.proofs.lemmas.Result.{on_ok_weaker}
use Rattle.checker.proofs.failure.judge_told.Goals as goal

pub returns-in-Some-clause-judged : goal.returns-in-Some-clause-judged
returns-in-Some-clause-judged c =
    rw c.in-Some.is
    (on_ok_weaker c.judge_line.result
    (λ judge lines counted. judge lines (omega (arith, counted, length-append lines (c.in-Some.line ∷ []))))
    (rw c.of.ensures at c.judge_line.ensures.judged))
