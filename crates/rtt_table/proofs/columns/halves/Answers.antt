use Rattle.rtt_table.proofs.Joined.{halves-written}
use Rattle.rtt_table.proofs.columns.halves.Goals as goal

pub returns : goal.returns
returns c = halves-written 256 256 c.args.lower c.args.upper c.fill.new.kinds c.fill.ensures
