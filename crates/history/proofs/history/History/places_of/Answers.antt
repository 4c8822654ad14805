use Rattle.history.proofs.SubhistoryLaws.{unknown_past, ArePlacesOf-subhistory}
use Rattle.history.proofs.history.History.places_of.Goals as goal

pub returns-in_err-called-clause-none : goal.returns-in_err-called-clause-none
returns-in_err-called-clause-none c =
    rw c.from_residual-in_err-called.ensures
    (unknown_past c.args.self.now.recorded.events c.args.cpu c.args.number c.in_ok-subhistory.subhistory.now c.in_ok-subhistory.ensures.some.1
    (c.subhistory.ensures.history.records c.args.cpu) c.in_err-called.ensures)

pub returns-clause-some : goal.returns-clause-some
returns-clause-some c =
    ArePlacesOf-subhistory c.args.self.now.recorded.events c.args.cpu c.args.number
    c.in_ok-subhistory.subhistory.now c.in_ok-called.called c.returned.result
    c.in_ok-subhistory.ensures.some.1
    (c.subhistory.ensures.history.records c.args.cpu) c.in_ok-called.ensures.0 c.in_ok-called.ensures.1 c.returned.ensures
