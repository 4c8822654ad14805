use Rattle.std.proofs.Common.{Some, ap, sym, subst, ◌∙◌}
use Rattle.std.proofs.lemmas.Option.{slice_get-get_or}
use Rattle.scenario_report.specs.Flaws.{IsFlawOfProgram}
use Rattle.scenario_report.proofs.commands.wrong_command.Goals as goal

pub returns-in-Some-clause-some : goal.returns-in-Some-clause-some
returns-in-Some-clause-some c =
    let cpu = c.loop-cpu.cpu in
    let program = c.index-programs-cpu.result in (
      cpu,
      program,
      slice_get-get_or c.args.programs.now cpu program c.loop-cpu-test.true ∙ ap Some (sym c.index-programs-cpu.is),
      subst (λ texts. IsFlawOfProgram cpu texts c.in-Some.flaw) c.as_slice.ensures.value c.in-Some.ensures.some,
    )
