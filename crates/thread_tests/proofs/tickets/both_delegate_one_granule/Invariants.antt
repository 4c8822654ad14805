use Rattle.commit_tickets.specs.View.{no_queue}
use Rattle.thread_tests.proofs.tickets.both_delegate_one_granule.Given as goal

abbrev pub ghosts-commits_of_two-S-Ledger : goal.ghosts-commits_of_two-S-Ledger
ghosts-commits_of_two-S-Ledger g a = record { name = a.blank.name; parts = a.blank.parts }

abbrev pub ghosts-commits_of_two-S-Site : goal.ghosts-commits_of_two-S-Site
ghosts-commits_of_two-S-Site g a = record { config = a.config; queue = no_queue }
