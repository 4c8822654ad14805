use Rattle.commit_tickets.specs.View.{no_queue}
use Rattle.thread_tests.proofs.tickets.other_cells_disagree.Given as goal

abbrev pub ghosts-delegate_twice-S-Ledger : goal.ghosts-delegate_twice-S-Ledger
ghosts-delegate_twice-S-Ledger g a = record { name = a.blank.name; parts = a.blank.parts }

abbrev pub ghosts-delegate_twice-S-Site : goal.ghosts-delegate_twice-S-Site
ghosts-delegate_twice-S-Site g a = record { config = a.config; queue = no_queue }
