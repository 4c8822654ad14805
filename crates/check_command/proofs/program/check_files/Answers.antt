use Rattle.check_command.proofs.Judged.{EndsCheck-judged}
use Rattle.check_command.proofs.program.check_files.Goals as goal

pub returns : goal.returns
returns g c = EndsCheck-judged c.args.paths _ _ _ c.check_sources.result c.check_sources.ensures
