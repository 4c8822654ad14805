use Rattle.world.proofs.Common.{◌∙◌, Cpu, Some, [], ap, arith, drop, slice_get, sym, views_of}
use Rattle.std.proofs.lemmas.Option.{slice_get_read, slice_get_past}
use Rattle.world.proofs.Views.{told_there}
use Rattle.world.proofs.cpus.Cpus.next_command.Goals as goal
use Rattle.lemmas.proofs.Elements.{slice_get-drop}

pub returns-then-called-count : goal.returns-then-called-count
unfolding views_of
returns-then-called-count c =
    let old = c.index-cpu.result.now in
    let read = told_there (λ (cpu : Cpu). drop cpu.called cpu.program.items) [] c.args.self.now c.args.cpu old c.requires c.index-cpu.ensures in
    sym (ap (λ commands. slice_get commands 0) read ∙ slice_get-drop old.program.items old.called
    ∙ slice_get_past old.program.items old.called (omega (arith, c.len-count.ensures, c.if-called-count.true, old.program.ok.0)))

pub returns : goal.returns
unfolding views_of
returns c =
    let old = c.index-cpu.result.now in
    let read = told_there (λ (cpu : Cpu). drop cpu.called cpu.program.items) [] c.args.self.now c.args.cpu old c.requires c.index-cpu.ensures in
    ap Some c.copied_command.ensures
    ∙ sym (ap (λ commands. slice_get commands 0) read ∙ slice_get-drop old.program.items old.called
    ∙ slice_get_read old.program.items old.program.len old.called c.index-command.result.now old.program.ok.0
    (omega (arith, c.len-count.ensures, c.if-called-count.false)) c.index-command.ensures)
