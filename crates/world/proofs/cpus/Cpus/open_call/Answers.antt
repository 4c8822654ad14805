use Rattle.world.proofs.Common.{◌∙◌, Cpu, None, Views, [], ap, drop, phase_in, put, sym, views_of}
use Rattle.std.proofs.lemmas.List.{drop-drop}
use Rattle.world.proofs.Views.{told_there, views-changed, with_cpu}
use Rattle.world.proofs.cpus.Cpus.open_call.Goals as goal

pub returns-clause-views : goal.returns-clause-views
unfolding views_of
returns-clause-views c =
    let cpu = c.args.cpu in
    let v = views_of c.args.self.now in
    let old = c.index_mut-cpu.result.now in
    let value = c.index_mut-cpu.ensures.value in
    let read = told_there (λ (cpu : Cpu). drop cpu.called cpu.program.items) [] c.args.self.now cpu old c.requires.cpu value in
    views-changed c.args.self.now cpu old _ (λ (w : Views). record w {
      waits = put v.waits cpu None;
      phase = put v.phase cpu (phase_in c.args.phase);
      program = put v.program cpu (drop 1 (v.program cpu));
    }) c.requires.cpu value (ap (λ commands. record (with_cpu c.args.self.now.list.items cpu old) {
      waits = put v.waits cpu None;
      phase = put v.phase cpu (phase_in c.args.phase);
      program = put v.program cpu commands;
    }) (sym (drop-drop 1 old.called old.program.items) ∙ ap (drop 1) (sym read)))
