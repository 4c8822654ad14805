use Rattle.reasons.proofs.Common.{arith}
use Rattle.reasons.proofs.owner_rows.owner_report.Goals as goal

pub returns-in_default-clause-full : goal.returns-in_default-clause-full
returns-in_default-clause-full c = omega (arith, c.in_default.ensures.full, c.granule_count.ensures.is)

pub push_rows-requires : goal.push_rows-requires
push_rows-requires c = omega (arith, c.reserve.ensures.len, c.in-Ok.ensures.ok, c.granule_count.ensures.is)
