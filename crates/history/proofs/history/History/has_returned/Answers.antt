-- A call that isn't there hasn't returned.
use Rattle.spec_lemmas.proofs.Places.{finished_is_known}
use Rattle.history.proofs.history.History.has_returned.Goals as goal

pub returns-in-None : goal.returns-in-None
returns-in-None c = (
  λ bad. absurd (cc),
  λ finished.
      absurd (c.in-None.ensures.none (finished_is_known c.args.cpu c.args.number c.args.self.now.recorded.events
      (c.well_formed-fact.ensures.records c.args.cpu) finished)),
)
