-- Where the history without readings has no order, the history has none.
use Rattle.verdict_laws.proofs.UnreadOrders.{nowhere-from_unread}
use Rattle.finding.proofs.survey.answer_unread.Goals as goal

pub returns-in-Lost : goal.returns-in-Lost
returns-in-Lost g c =
    nowhere-from_unread c.args.history.now.recorded c.in-Some.unread.recorded c.well_formed-fact.ensures
    (rw c.in-Some.is at c.in_ok-unread.ensures) (rw c.in-Lost.is at c.in_ok-found.ensures)
