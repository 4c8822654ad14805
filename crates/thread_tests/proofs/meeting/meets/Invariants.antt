use Rattle.thread_tests.proofs.meeting.meets.Given as goal

abbrev pub ghosts-run_two-S-Site : goal.ghosts-run_two-S-Site
ghosts-run_two-S-Site g a = record { config = a.config; queue = a.queue.queue }

abbrev pub ghosts-run_two-S-Ledger : goal.ghosts-run_two-S-Ledger
ghosts-run_two-S-Ledger g a = record { name = a.blank.name; parts = a.blank.parts }
