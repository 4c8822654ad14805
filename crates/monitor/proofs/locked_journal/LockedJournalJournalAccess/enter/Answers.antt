use Rattle.monitor.proofs.Common.{refl}
use Rattle.command_core.specs.Changed.{given_of}
use Rattle.monitor.proofs.Passes.{in_step}
use Rattle.monitor.proofs.locked_journal.LockedJournalJournalAccess.enter.Goals as goal

pub returns : goal.returns
returns g c =
    let entry = c.enter-entered.ensures.entry in
    record {
      before = entry.before;
      after = entry.after;
      shown = (
        refl,
        in_step c.args.command.now c.args.self.now.pass.now _ entry.before entry.after c.requires.ready.2 c.enter-entered.result c.args.token.now.cpu
            (given_of c.enter-entered.new.draft.answer)
            c.requires.ready.1 entry.holds.journal entry.holds.kept_journal c.enter-entered.ensures.committed
            c.enter-entered.ensures.kept,
      );
      holds = entry.holds;
    }
