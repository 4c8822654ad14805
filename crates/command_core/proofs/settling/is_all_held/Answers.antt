use Rattle.std.proofs.Common.{sym}
use Rattle.command_core.proofs.Walked.{taken-way}
use Rattle.command_words.specs.Ways.{way_seen}
use Rattle.command_core.proofs.settling.is_all_held.Goals as goal

pub is_walk_over-requires : goal.is_walk_over-requires
is_walk_over-requires c = taken-way c.args.call.now (way_seen c.in-Some.way) (sym c.in-Some.ensures)
