use Rattle.monitor_runs.proofs.run.threads_text.Given as goal

abbrev pub ghosts-recorded-S-Ledger : goal.ghosts-recorded-S-Ledger
ghosts-recorded-S-Ledger g a = record { name = a.blank.name; parts = a.blank.parts }

abbrev pub ghosts-recorded-S-Site : goal.ghosts-recorded-S-Site
ghosts-recorded-S-Site g a = record { config = a.config; queue = a.queue.queue }
