use Rattle.commit_tickets.proofs.Common.{refl}
use Rattle.commit_tickets.proofs.journal_access.JournalJournalAccess.enter.Goals as goal

pub returns : goal.returns
returns g c = record {
  before = c.args.self.now;
  after = c.enter.new.journal;
  shown = (refl, refl);
  holds = record {
    of_run = c.enter.ensures.of_run;
    ticket = c.enter.ensures.ticket;
    journal = c.enter.ensures.journal;
    side = c.enter.ensures.side;
    token = c.enter.ensures.token;
    owed = c.enter.ensures.owed;
    entered = c.enter.ensures.entered;
    told = c.enter.ensures.told;
    short = c.enter.ensures.short;
    cause = c.enter.ensures.cause;
    kept_journal = c.enter.ensures.kept_journal;
    kept_token = c.enter.ensures.kept_token;
    kept_draft = c.enter.ensures.kept_draft;
  };
}
