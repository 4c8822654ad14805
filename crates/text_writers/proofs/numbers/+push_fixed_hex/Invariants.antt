use Rattle.text_writers.proofs.numbers.+push_fixed_hex.Given as goal

abbrev pub decreases-push_fixed_hex : goal.decreases-push_fixed_hex
decreases-push_fixed_hex l = l.count
