-- Where the call that is tried alone leads nowhere, the order does.
use Rattle.std.proofs.lemmas.Result.{on_ok_weaker}
use Rattle.finding.proofs.round.Round.take_each.Goals as goal

pub returns-in-Only-clause-taken : goal.returns-in-Only-clause-taken
returns-in-Only-clause-taken c = on_ok_weaker c.take_grown.result (λ taken lost. c.in-Only.ensures.alone (taken lost)) c.take_grown.ensures.taken
