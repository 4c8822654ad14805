use Rattle.reasons.proofs.Common.{◌∙◌, ◌≡◌, IsOf, Some, ap, arith, subst, sym}
use Rattle.std.proofs.lemmas.Option.{slice_get_within}
use Rattle.rmm_spec.specs.declared.entry.Entry.TheVariants.{Assigned}
use Rattle.rmm_spec.specs.declared.place.Place.{Place}
use Rattle.reasons.specs.Owners.{Assigns, IsPageOf}
use Rattle.reasons.proofs.Owners.{gives-both, gives-none, gives-same, page-next}
use Rattle.reasons.proofs.owner_rows.give_pages.Goals as goal

pub loop-index-init : goal.loop-index-init
loop-index-init c s whole of = gives-none s c.args.first _ c.args.rows.now.items (λ page there. absurd (omega (arith, there.2)))

pub loop-index-preserved : goal.loop-index-preserved
loop-index-preserved c s whole of =
    let l = c.loop-index in
    let rd : c.place-rd.result.rd ≡ c.args.table.now.place.rd = ap (λ (p : Place). p.rd) c.place-rd.ensures.place in
    gives-both s c.args.first _ (Assigns c.entry.result) _ c.args.rows.now.items l.rows.items _ (l.invariant s whole of)
    (c.give_page.ensures s (λ page is. subst (λ rd. IsOf s page rd) (sym rd) (of page (l.index, is.0, c.entry.ensures.value ∙ ap Some is.1))))
    (λ page there. page-next c.args.table.now.entries l.index c.entry.result page c.entry.ensures.value there)

pub returns : goal.returns
returns c s whole of =
    let l = c.loop-index in
    let entries = c.args.table.now.entries in
    gives-same s c.args.first _ (IsPageOf entries) c.args.rows.now.items l.rows.items (l.invariant s whole of)
    (λ page there.
    (there.0, there.1, omega (arith, slice_get_within entries there.0 (Assigned there.1 page) there.2, whole, c.loop-index-test.false), there.2))
