-- Both are what the order's verdict is said to be.
use Rattle.checker.proofs.judged.judged_order.Goals as goal

pub returns-clause-judged : goal.returns-clause-judged
returns-clause-judged c = c.in_ok-verdict.ensures.judged

pub returns-clause-left : goal.returns-clause-left
returns-clause-left c = c.in_ok-verdict.ensures.left
