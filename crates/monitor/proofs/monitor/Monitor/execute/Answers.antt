use Rattle.monitor.proofs.Common.{sym, subst, rules, Err, place_of, LeavesHeld}
use Rattle.monitor.proofs.Calls.{paired-recorded, paired-failed}
use Rattle.monitor.proofs.Causes.{held-recorded, held-failed}
use Rattle.monitor.proofs.monitor.Monitor.execute.Goals as goal

pub returns-in-Ok-clause-pair : goal.returns-in-Ok-clause-pair
returns-in-Ok-clause-pair g c =
    paired-recorded c.args.self.now c.args.command c.args.token.now c.args.pass.now c.requires.pair (search rules)
    c.record_return.result c.in-Ok.done c.commit_locked-committed.new.token
    c.record_return.new.token c.commit_locked-committed.new.pass c.record_return.new.pass
    (search rules) c.in-Ok.ensures.done c.record_return.ensures.told c.record_return.ensures.full

pub returns-in-Err-clause-pair : goal.returns-in-Err-clause-pair
returns-in-Err-clause-pair g c =
    paired-failed c.args.self.now c.args.command c.args.token.now c.args.pass.now c.requires.pair (search rules)
    c.in-Err.fault c.commit_locked-committed.new.token c.stop.new.self
    c.commit_locked-committed.new.pass c.in-Err.ensures.fault c.stop.ensures (search rules)

pub returns-in-Ok-clause-held : goal.returns-in-Ok-clause-held
returns-in-Ok-clause-held g c =
    held-recorded c.args.self.now.config c.args.command c.args.token.now _ c.record_return.result c.in-Ok.done c.commit_locked-committed.new.token
    c.record_return.new.token c.commit_locked-committed.new.pass c.record_return.new.pass
    c.in-Ok.ensures.held c.record_return.ensures.told c.record_return.ensures.full

pub returns-in-Err-clause-held : goal.returns-in-Err-clause-held
returns-in-Err-clause-held g c =
    subst (λ refused. LeavesHeld c.args.self.now.config c.args.command c.args.token.now (place_of c.stop.new.self.place) (Err refused))
    (sym c.for_fault.ensures)
    (held-failed c.args.self.now.config c.args.command c.args.token.now _ c.in-Err.fault c.commit_locked-committed.new.token c.stop.new.self
    c.in-Err.ensures.held c.stop.ensures)
