use Rattle.bench.proofs.monitors.timed.time_rounds.Given as goal

abbrev pub ghosts-round-S-Site : goal.ghosts-round-S-Site
ghosts-round-S-Site g a = record { config = a.config; queue = a.queue.queue }

abbrev pub ghosts-round-S-Ledger : goal.ghosts-round-S-Ledger
ghosts-round-S-Ledger g a = record { name = a.blank.name; parts = a.blank.parts }

abbrev pub invariant-loop-round : goal.invariant-loop-round
invariant-loop-round g l = Unit {0}
