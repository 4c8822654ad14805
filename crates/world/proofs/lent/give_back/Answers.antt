use Rattle.std.proofs.Common.{◌≡◌, ℕ, sym, ap, ◌∙◌, subst, vec_len}
use Rattle.std.specs.Prelude.{IsTrue}
use Rattle.std.specs.List.{All}
use Rattle.std.proofs.lemmas.List.Elements.{All-get_or}
use Rattle.rmm_spec.specs.Lookup.{is_granule}
use Rattle.rmm_spec.specs.Local.{granules_held}
use Rattle.command_core.specs.Pairs.{pair_cells, granules_held-paired}
use Rattle.world.proofs.lent.give_back.Goals as goal

pub replace-requires : goal.replace-requires
replace-requires c =
    let parts = c.into_parts-granules in
    let items = c.deref-pa-items.result.now in
    let is_ours = λ (pa : ℕ). IsTrue (is_granule (vec_len c.loop-place.cells.list) pa) in
    let same : granules_held (pair_cells c.args.lent) ≡ items = ap granules_held (sym parts.ensures.pairs)
    ∙ granules_held-paired parts.result.0.items parts.result.1.items parts.ensures.same_count ∙ sym c.deref-pa-items.ensures.0 in
    let all = subst (All is_ours) same
    (subst (λ size. All (λ pa. IsTrue (is_granule size pa)) (granules_held (pair_cells c.args.lent))) (sym c.loop-place.invariant.size) c.requires) in
    subst is_ours (sym c.pa-item.is) (All-get_or is_ours items c.loop-place.place c.pa-item.result c.loop-place-test.true all)
