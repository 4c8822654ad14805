use Rattle.std.proofs.Common.{Err, sym, ap, ◌∙◌}
use Rattle.check_command.specs.Faults.{checked}
use Rattle.check_command.specs.declared.fault.CheckFault.TheVariants.{Device}
use Rattle.check_command.proofs.program.check_sources.Goals as goal

pub returns-in-Ok : goal.returns-in-Ok
returns-in-Ok g c = record {
  answer = c.judge.result;
  is_judgement = c.judge.ensures;
  is_end = ap (checked c.args.paths) (sym c.in-Ok.is);
}

pub returns-in-Err : goal.returns-in-Err
returns-in-Err g c = record {
  answer = c.judge.result;
  is_judgement = c.judge.ensures;
  is_end = ap (λ failed. Err (Device failed)) c.fault.ensures ∙ ap (checked c.args.paths) (sym c.in-Err.is);
}
