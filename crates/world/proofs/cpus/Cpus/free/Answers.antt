use Rattle.world.proofs.Common.{◌∙◌, Cpu, None, Views, [], ap, phase_in, put, sym, views_of}
use Rattle.std.proofs.Common.{rules}
use Rattle.arrayvec.proofs.ArrayVecLemmas.{filter-from_retain}
use Rattle.rmm_spec.specs.World.{without_granule, phase_learnt}
use Rattle.rmm_spec.specs.World as world
use Rattle.world.proofs.Views.{told_there, views-changed, with_cpu}
use Rattle.world.proofs.cpus.Cpus.free.Goals as goal

pub returns-clause-views : goal.returns-clause-views
unfolding views_of
returns-clause-views c =
    let cpus = c.args.self.now in
    let cpu = c.args.cpu in
    let v = views_of cpus in
    let old = c.index_mut-cpu.result.now in
    let value = c.index_mut-cpu.ensures.value in
    let taken = filter-from_retain _ _ _ (λ x b f y called. search rules) _ _ c.retain.ensures.filtered
    ∙ ap (without_granule c.args.pa) (sym (told_there (λ (cpu : Cpu). cpu.taken.items) [] cpus cpu old c.requires value)) in
    let phase = c.learn.ensures
    ∙ ap (phase_learnt c.args.learnt) (sym (told_there (λ (cpu : Cpu). phase_in cpu.phase) (world.Between 0) cpus cpu old c.requires value)) in
    views-changed cpus cpu old _ (λ (w : Views). record w {
      waits = put v.waits cpu None;
      taken = put v.taken cpu (without_granule c.args.pa (v.taken cpu));
      phase = put v.phase cpu (phase_learnt c.args.learnt (v.phase cpu));
    }) c.requires value
    (λ i. record (with_cpu cpus.list.items cpu
    old) { waits = put v.waits cpu None; taken = put v.taken cpu (taken i); phase = put v.phase cpu (phase i) })
