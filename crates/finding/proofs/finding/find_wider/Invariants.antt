-- How many steps are left until the limit.
use Rattle.std.proofs.Common.{◌-◌}
use Rattle.finding.proofs.finding.find_wider.Given as goal

abbrev pub decreases-wider : goal.decreases-wider
decreases-wider g l = l.limit - l.offers.count
