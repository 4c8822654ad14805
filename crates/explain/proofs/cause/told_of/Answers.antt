-- What is decided, and since when.
use Rattle.explain.proofs.cause.told_of.Goals as goal

pub returns : goal.returns
returns c = record {
  watched = c.in_ok-decision.decision.watch;
  decides = c.in_ok-decision.ensures.decision;
  since = c.in_ok-steps.ensures.since;
  put = c.in_ok-steps.ensures.put;
  late = c.in_ok-steps.ensures.late;
  before = rw c.call.ensures at c.state_before.ensures;
}
