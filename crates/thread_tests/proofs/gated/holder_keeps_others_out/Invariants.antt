use Rattle.thread_tests.proofs.gated.holder_keeps_others_out.Given as goal

abbrev pub ghosts-delegate_same-S-Site : goal.ghosts-delegate_same-S-Site
ghosts-delegate_same-S-Site g a = record { config = a.config; queue = a.queue.queue }

abbrev pub ghosts-delegate_same-S-Ledger : goal.ghosts-delegate_same-S-Ledger
ghosts-delegate_same-S-Ledger g a = record { name = a.blank.name; parts = a.blank.parts }
