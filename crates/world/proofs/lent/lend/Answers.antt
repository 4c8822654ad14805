use Rattle.world.proofs.Common.{◌++◌, ◌<◌, ◌∙◌, ◌∷◌, ◌≡◌, Contains, [], ap, arith, cells_at, cells_of, get_or, length, put, subst, sym, take}
use Rattle.std.proofs.lemmas.List.{get_or_default, length-map, length-take-le, take_all}
use Rattle.rmm_spec.specs.Cell as whole
use Rattle.rmm_spec.specs.Local.{granules_held}
use Rattle.spec_lemmas.proofs.Members.{granules_held-cells_at}
use Rattle.world_laws.specs.Replaced.{held_at}
use Rattle.command_core.specs.Seen.{is_held}
use Rattle.world.proofs.Lending.{cells_at-next, distinct-before, is_held-apart, kept-next}
use Rattle.world.proofs.lent.lend.Goals as goal

pub push-requires-clause-room : goal.push-requires-clause-room
push-requires-clause-room c =
    let taken = take c.loop-pa.pa-index c.args.granules.now in
    let count = length-map taken (λ granule. held_at granule (cells_of c.args.cells.now granule)) in
    omega (
      arith,
      ap length c.loop-pa.invariant.lent,
      count,
      length-take-le c.loop-pa.pa-index c.args.granules.now (omega (arith, c.loop-pa-test.true)),
      c.loop-pa-test.true,
      c.requires.few,
    )

pub push-requires-clause-new : goal.push-requires-clause-new
push-requires-clause-new c =
    let gs = c.args.granules.now in
    let i = c.loop-pa.pa-index in
    let start = cells_of c.args.cells.now in
    let at : c.pa-item.result ≡ get_or gs i 0 = c.pa-item.is ∙ get_or_default gs i c.pa-item.result 0 c.loop-pa-test.true in
    ap (is_held c.pa-item.result) c.loop-pa.invariant.lent
    ∙ is_held-apart (cells_at start (take i gs)) c.pa-item.result (λ has. distinct-before gs i c.loop-pa-test.true c.requires.distinct
    (subst (Contains (take i gs)) at (subst (λ xs. Contains xs c.pa-item.result) (granules_held-cells_at start (take i gs)) has)))

pub loop-pa-preserved : goal.loop-pa-preserved
loop-pa-preserved c =
    let gs = c.args.granules.now in
    let i = c.loop-pa.pa-index in
    let pa = c.pa-item.result in
    let start = cells_of c.args.cells.now in
    let now = cells_of c.loop-pa.cells in
    let inv = c.loop-pa.invariant in
    let within : i < length gs = c.loop-pa-test.true in
    let at : pa ≡ get_or gs i 0 = c.pa-item.is ∙ get_or_default gs i pa 0 within in
    let given =
    c.replace-cell.ensures.given ∙ inv.kept pa (λ has. distinct-before gs i within c.requires.distinct (subst (Contains (take i gs)) at has)) in
    record {
      size = c.replace-cell.ensures.size ∙ inv.size;
      lent = c.push.ensures ∙ (λ j. inv.lent j ++ held_at pa (given j) ∷ []) ∙ sym (cells_at-next gs i pa start within c.pa-item.is);
      kept = λ x apart. ap (λ cells. cells x) c.replace-cell.ensures.cells ∙ ap (λ g. put now g whole.Undelegated x) at
          ∙ kept-next gs i start now whole.Undelegated within inv.kept x apart;
    }

pub returns-clause-lent : goal.returns-clause-lent
returns-clause-lent c =
    c.loop-pa.invariant.lent
    ∙ ap (cells_at (cells_of c.args.cells.now)) (take_all c.loop-pa.pa-index c.args.granules.now (omega (arith, c.loop-pa-test.false)))

pub returns-clause-granules : goal.returns-clause-granules
returns-clause-granules c =
    let gs = c.args.granules.now in
    let start = cells_of c.args.cells.now in
    ap granules_held (c.loop-pa.invariant.lent ∙ ap (cells_at start) (take_all c.loop-pa.pa-index gs (omega (arith, c.loop-pa-test.false))))
    ∙ granules_held-cells_at start gs
