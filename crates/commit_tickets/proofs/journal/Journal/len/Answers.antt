-- What every journal keeps.
use Rattle.commit_tickets.proofs.Common.{map, subst, Config, IsRun, opening, state_of, entry_of}
use Rattle.commit_tickets.proofs.journal.Journal.len.Goals as goal

pub returns-clause-of_run : goal.returns-clause-of_run
returns-clause-of_run g c =
    let inside = c.self.inside in
    let last = state_of inside.books in
    rw (← c.self.view_is) (record {
      size = c.self.invariant.1;
      last = last;
      run = subst (λ (config : Config). IsRun (opening config) (map entry_of inside.entries.logged) last) c.self.invariant.1 c.self.invariant.0;
    })
