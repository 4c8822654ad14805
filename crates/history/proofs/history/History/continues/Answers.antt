use Rattle.history.specs.EventRef.{event_seen}
use Rattle.history.proofs.SubhistoryLaws.{continues_iff}
use Rattle.history.proofs.history.History.continues.Goals as goal

-- the subhistory of the event's CPU decides
pub returns-in-Some : goal.returns-in-Some
returns-in-Some c =
    let found = rw c.cpu_of.ensures at c.in-Some.ensures.some in
    continues_iff c.args.self.now.recorded.config.cpus c.args.self.now.recorded.events
    (event_seen c.args.event) c.in-Some.subhistory.now c.takes.result found.0
    (c.subhistory.ensures.history.records _) found.1 c.takes.ensures
