use Rattle.command_core.proofs.Rising.{upward-rises, downward-rises}
use Rattle.command_core.proofs.laws.tested_takes_rise.Goals as goal

pub returns-clause-upward : goal.returns-clause-upward
returns-clause-upward c = upward-rises

pub returns-clause-downward : goal.returns-clause-downward
returns-clause-downward c = downward-rises
