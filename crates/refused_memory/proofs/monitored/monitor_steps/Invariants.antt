use Rattle.refused_memory.proofs.monitored.monitor_steps.Given as goal

abbrev pub ghosts-push_run-S-Ledger : goal.ghosts-push_run-S-Ledger
ghosts-push_run-S-Ledger g a = record { name = a.blank.name; parts = a.blank.parts }

abbrev pub ghosts-push_run-S-Site : goal.ghosts-push_run-S-Site
ghosts-push_run-S-Site g a = record { config = a.config; queue = a.queue.queue }
