use Rattle.bench.proofs.monitors.runs.run_of.Given as goal

abbrev pub ghosts-recorded-S-Site : goal.ghosts-recorded-S-Site
ghosts-recorded-S-Site g a = record { config = a.config; queue = a.queue.queue }

abbrev pub ghosts-recorded-S-Ledger : goal.ghosts-recorded-S-Ledger
ghosts-recorded-S-Ledger g a = record { name = a.blank.name; parts = a.blank.parts }
