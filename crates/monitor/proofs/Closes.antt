-- A run that is closed, or whose tokens and journal disagree.
use Rattle.monitor.proofs.Common.{◌≡◌, List, length, sym, subst, sum_by, Event, Line, Config, JournalEntry, JournalView, TokenView, AreInOrder, lines_for, IsJournal, AreListed}
use Rattle.rmm_spec.specs.Linearization.{IsLinearization}
use Rattle.commit_tickets.specs.Commits.{IsOfRun}
use Rattle.monitor.specs.Closed.{Disagree}

module _ (config : Config) (journal : JournalView) (of_run : IsOfRun config journal)
    (tokens compared : List TokenView) (are : compared ≡ tokens) where
  pub disagree : (entries : List JournalEntry) → entries ≡ journal.entries
      → length journal.entries ≡ sum_by (λ (token : TokenView). length token.mine) tokens → ¬ AreListed compared journal.entries
      → Disagree config tokens entries
  disagree entries is_journal counted unlisted = subst (Disagree config tokens) (sym is_journal) (record {
    last = of_run.last;
    run = of_run.run;
    counted = counted;
    unlisted = subst (λ ts. ¬ AreListed ts journal.entries) are unlisted;
  })

  -- with what the queue has shown of journal and history
  pub closed : (events : List Event) (lines : List Line) → AreInOrder events journal.entries → AreListed compared journal.entries
      → lines ≡ lines_for events journal.entries → IsJournal config tokens events lines
  closed events lines ordered granted written = record {
    entries = journal.entries;
    linearization = subst (IsLinearization (record { config = config; events = events })) (sym written) (record {
      order = ordered.order;
      real_time = ordered.real_time;
      entries = journal.entries;
      last = of_run.last;
      run = record { claimed = ordered.claimed; run = of_run.run };
    });
    listed = subst (λ ts. AreListed ts journal.entries) are granted;
    written = written;
  }
