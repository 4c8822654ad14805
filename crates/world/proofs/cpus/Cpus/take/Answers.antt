use Rattle.world.proofs.Common.{◌++◌, ◌<◌, ◌∙◌, ◌∷◌, Cpu, List, None, Views, [], ap, arith, length, put, subst, sym, views_of, ℕ}
use Rattle.world.proofs.Views.{told_there, views-changed, with_cpu}
use Rattle.world.proofs.cpus.Cpus.take.Goals as goal

pub push-requires : goal.push-requires
unfolding views_of
push-requires c =
    let read = told_there (λ (cpu : Cpu). cpu.taken.items)
    [] c.args.self.now c.args.cpu c.index_mut-cpu.result.now c.requires.cpu c.index_mut-cpu.ensures.value in
    (omega arith, subst (λ (xs : List ℕ). length xs < 6) read c.requires.room)

pub returns-clause-views : goal.returns-clause-views
unfolding views_of
returns-clause-views c =
    let v = views_of c.args.self.now in
    let old = c.index_mut-cpu.result.now in
    let read = told_there (λ (cpu : Cpu). cpu.taken.items) [] c.args.self.now c.args.cpu old c.requires.cpu c.index_mut-cpu.ensures.value in
    views-changed c.args.self.now c.args.cpu old _
    (λ (w : Views). record w { waits = put v.waits c.args.cpu None; taken = put v.taken c.args.cpu (v.taken c.args.cpu ++ c.args.pa ∷ []) })
    c.requires.cpu c.index_mut-cpu.ensures.value
    (ap (λ xs. record (with_cpu c.args.self.now.list.items c.args.cpu old) { waits = put v.waits c.args.cpu None; taken = put v.taken c.args.cpu xs })
    (c.push.ensures.items ∙ ap (λ xs. xs ++ c.args.pa ∷ []) (sym read)))
