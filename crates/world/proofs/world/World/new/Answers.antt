use Rattle.world.proofs.Common.{◌∙◌, Views, ap, cells_of, holder_of, side_of, sym, views_of, world_from, world_of}
use Rattle.rmm_spec.specs.HistoryText.{History}
use Rattle.world.specs.World.{waits_of}
use Rattle.world.specs.Opening.{programs_of}
use Rattle.world.proofs.Opened.{opened-world, opened-kept}
use Rattle.world.proofs.world.World.new.Goals as goal

pub invariant_of-result-clause-kept : goal.invariant_of-result-clause-kept
unfolding world_from
invariant_of-result-clause-kept c =
    let cells = c.in_ok-cells.cells in
    let side = c.in_ok-side.side in
    let cpus = c.in_ok-cpus.cpus in
    let history = c.new-6.result.recorded in
    let programs = programs_of c.args.programs.items in
    let is = opened-world (cells_of cells) (side_of side) (views_of cpus) c.new-5.result.items history c.args.config.now programs
    c.in_ok-cells.ensures.cells c.in_ok-side.ensures.unused c.in_ok-side.ensures.none c.in_ok-cpus.ensures.views c.new-5.ensures c.new-6.ensures in
    opened-kept c.args.config.now c.args.programs.items (world_from cells side cpus c.new-5.result.items history) (holder_of c.in_ok-locks.locks)
    (views_of cpus).waits c.requires is c.in_ok-locks.ensures.free (ap (λ (v : Views). v.waits) c.in_ok-cpus.ensures.views)

pub invariant_of-result-clause-has_cells : goal.invariant_of-result-clause-has_cells
invariant_of-result-clause-has_cells c = c.in_ok-cells.ensures.size ∙ sym (ap (λ (h : History). h.config.granules) c.new-6.ensures)

pub invariant_of-result-clause-has_locks : goal.invariant_of-result-clause-has_locks
invariant_of-result-clause-has_locks c = c.in_ok-locks.ensures.size ∙ sym (ap (λ (h : History). h.config.granules) c.new-6.ensures)

pub invariant_of-result-clause-has_cpus : goal.invariant_of-result-clause-has_cpus
invariant_of-result-clause-has_cpus c =
    c.in_ok-cpus.ensures.size ∙ c.args.programs.ok.0 ∙ c.requires.count ∙ sym (ap (λ (h : History). h.config.cpus) c.new-6.ensures)

pub returns-clause-world : goal.returns-clause-world
unfolding world_of world_from
returns-clause-world c =
    opened-world (cells_of c.in_ok-cells.cells) (side_of c.in_ok-side.side) (views_of c.in_ok-cpus.cpus) c.new-5.result.items c.new-6.result.recorded
    c.args.config.now (programs_of c.args.programs.items)
    c.in_ok-cells.ensures.cells c.in_ok-side.ensures.unused c.in_ok-side.ensures.none c.in_ok-cpus.ensures.views c.new-5.ensures c.new-6.ensures

pub returns-clause-waits : goal.returns-clause-waits
unfolding waits_of
returns-clause-waits c = ap (λ (v : Views). v.waits) c.in_ok-cpus.ensures.views
