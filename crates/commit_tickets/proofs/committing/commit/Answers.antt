use Rattle.commit_tickets.proofs.Common.{Ok, Err, hold_cells}
use Rattle.commit_tickets.proofs.Entered.{IsEntry-less, committed, refused}
use Rattle.commit_tickets.proofs.committing.commit.Goals as goal

pub returns-in-Ok : goal.returns-in-Ok
returns-in-Ok g c =
    let entry = c.in-Ok.ensures in record {
      before = entry.before;
      after = entry.after;
      shown = entry.shown;
      holds = committed g.S.Site.config c.args.command.now entry.before entry.after
          c.args.token.now _ _ c.args.hold.now _ c.enter.new.draft c.in-Ok.ticket _
          (IsEntry-less g.S.Site.config c.args.command.now entry.before entry.after
          c.args.token.now c.foresee.new.token _ (hold_cells c.args.hold.now)
          c.enter.new.draft (Ok c.in-Ok.ticket) c.foresee.ensures.token c.foresee.ensures.room entry.holds)
          c.settle-reply.ensures.reply c.settle-reply.ensures.cells c.settle-reply.ensures.place c.settle-reply.ensures.token;
    }

pub returns-in-Err : goal.returns-in-Err
returns-in-Err g c =
    let entry = c.in-Err.ensures in record {
      before = entry.before;
      after = entry.after;
      shown = entry.shown;
      holds = refused g.S.Site.config c.args.command.now entry.before entry.after
          c.args.token.now c.enter.new.token _ c.args.hold.now c.args.hold.now c.enter.new.draft
          c.in-Err.fault
          (IsEntry-less g.S.Site.config c.args.command.now entry.before entry.after
          c.args.token.now c.foresee.new.token _ (hold_cells c.args.hold.now)
          c.enter.new.draft (Err c.in-Err.fault) c.foresee.ensures.token c.foresee.ensures.room entry.holds);
    }
