use Rattle.thread_tests.proofs.gated.passes_by.Given as goal

abbrev pub ghosts-ask_apart-S-Site : goal.ghosts-ask_apart-S-Site
ghosts-ask_apart-S-Site g a = record { config = a.config; queue = a.queue.queue }

abbrev pub ghosts-ask_apart-S-Ledger : goal.ghosts-ask_apart-S-Ledger
ghosts-ask_apart-S-Ledger g a = record { name = a.blank.name; parts = a.blank.parts }
