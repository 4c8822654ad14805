use Rattle.world.proofs.Common.{◌∙◌, ◌≡◌, Contains, IsTrue, ap, are_distinct, call_of, cells_at, cells_of, place_of, put_all, refl, side_of, subst, sym, vec_len, views_of, ℕ}
use Rattle.std.specs.List.{All}
use Rattle.rmm_spec.specs.Local.{Hold, granules_held, LocalStep}
use Rattle.rmm_spec.specs.Lookup.{is_granule}
use Rattle.command_core.specs.Changed.{hold_of}
use Rattle.command_core.specs.Settled.{is_settled}
use Rattle.world.specs.Recorded.{MakesTable}
use Rattle.world.specs.Stepped.{IsAnswered}
use Rattle.command_core.specs.Pairs.{pair_cells}
use Rattle.world.proofs.Lending.{put_all-given_back, put_all-lent}
use Rattle.world.proofs.cpus.Cpus.step.Goals as goal

pub lend-lent-requires-clause-distinct : goal.lend-lent-requires-clause-distinct
lend-lent-requires-clause-distinct c = subst (λ taken. IsTrue (are_distinct taken)) (sym c.taken.ensures.taken) c.requires.distinct

pub lend-lent-requires-clause-granules : goal.lend-lent-requires-clause-granules
lend-lent-requires-clause-granules c =
    subst (All (λ pa. IsTrue (is_granule (vec_len c.args.cells.now.list) pa))) (sym c.taken.ensures.taken) c.requires.granules

pub step_on-replied-requires : goal.step_on-replied-requires
step_on-replied-requires c =
    let held = c.lend-lent.ensures.lent ∙ ap (cells_at (cells_of c.args.cells.now)) c.taken.ensures.taken in
    record {
      settled = (λ i. is_settled c.args.config.now (call_of c.args.command.now) (c.place.ensures i) (held i)) ∙ c.requires.settled;
    }

pub give_back-requires : goal.give_back-requires
give_back-requires c =
    let taken = c.taken.ensures.taken in
    let same = sym taken ∙ sym c.lend-lent.ensures.granules ∙ sym c.step_on-replied.ensures.same in
    subst (All (λ pa. IsTrue (is_granule (vec_len c.lend-lent.new.cells.list) pa))) same
    (subst (λ size. All (λ pa. IsTrue (is_granule size pa)) ((views_of c.args.self.now).taken c.args.cpu))
    (sym c.lend-lent.ensures.size) c.requires.granules)

pub returns-clause-ok : goal.returns-clause-ok
returns-clause-ok c =
    let cells = cells_of c.args.cells.now in
    let side = side_of c.args.side.now in
    let taken = c.taken.ensures.taken in
    let lent = c.step_on-replied.new.held in
    let held : Hold = hold_of (pair_cells lent) (side_of c.step_on-replied.new.side) (place_of c.step_on-replied.new.place) in
    let start : hold_of (pair_cells c.lend-lent.result) side (place_of c.place.result.now)
    ≡ hold_of (cells_at cells ((views_of c.args.self.now).taken c.args.cpu)) side ((views_of c.args.self.now).place c.args.cpu) =
    λ i. hold_of ((c.lend-lent.ensures.lent ∙ ap (cells_at cells) taken) i) side (c.place.ensures i) in
    let same = c.step_on-replied.ensures.same ∙ c.lend-lent.ensures.granules in
    let kept : (x : ℕ) → (Contains (granules_held (pair_cells lent)) x → ⊥) → cells_of c.lend-lent.new.cells x ≡ cells x =
    λ x apart. c.lend-lent.ensures.kept x (λ has. apart (subst (λ locks. Contains locks x) (sym same) has)) in
    record {
      held = held;
      step = subst (λ (h : Hold). LocalStep c.args.config.now c.args.cpu c.args.command.now c.in-Ok.reply h held) start c.in-Ok.ensures.ok;
      answered = subst (λ (h : Hold). IsAnswered c.args.config.now c.args.cpu c.args.command.now c.in-Ok.reply h held) start c.in-Ok.ensures.answered;
      has_cells = c.give_back.ensures.cells ∙ put_all-lent (pair_cells lent) cells (cells_of c.lend-lent.new.cells) kept;
      has_side = refl;
      has_views = c.set_place.ensures.views;
    }

pub returns-in_default-clause-err_cells : goal.returns-in_default-clause-err_cells
returns-in_default-clause-err_cells c =
    c.give_back.ensures.cells
    ∙ ap (put_all (cells_of c.lend-lent.new.cells)) (ap (λ (h : Hold). h.cells) c.in_default.ensures.err ∙ c.lend-lent.ensures.lent)
    ∙ put_all-given_back c.taken.result.now (cells_of c.args.cells.now) (cells_of c.lend-lent.new.cells) c.lend-lent.ensures.kept

pub returns-in_default-clause-only : goal.returns-in_default-clause-only
returns-in_default-clause-only c =
    let cells = cells_of c.args.cells.now in
    let side = side_of c.args.side.now in
    let start : hold_of (pair_cells c.lend-lent.result) side (place_of c.place.result.now)
    ≡ hold_of (cells_at cells ((views_of c.args.self.now).taken c.args.cpu)) side ((views_of c.args.self.now).place c.args.cpu) =
    λ i. hold_of ((c.lend-lent.ensures.lent ∙ ap (cells_at cells) c.taken.ensures.taken) i) side (c.place.ensures i) in
    subst (λ (h : Hold). MakesTable c.args.config.now c.args.cpu c.args.command.now h) start c.in_default.ensures.only
