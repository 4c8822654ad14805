use Rattle.reasons.proofs.Common.{◌∙◌, ◌≡◌, ◌⊎◌, IsOf, Some, ap, state_of, subst, sym}
use Rattle.std.proofs.lemmas.Option.{same_Some}
use Rattle.std.specs.Option.{option_copied}
use Rattle.rmm_spec.specs.declared.place.Place.{Place}
use Rattle.rmm_spec.specs.Table.{TableRecord}
use Rattle.spec_machine.specs.View.{tables_at}
use Rattle.reasons.specs.Owners.{IsPageOf}
use Rattle.reasons.proofs.Owners.{gives-both, page-is_of, table-is_of}
use Rattle.reasons.proofs.owner_rows.give_table.Goals as goal

pub returns-in-Some : goal.returns-in-Some
returns-in-Some c =
    let m = c.args.machine.now in
    let s = state_of m in
    let t : TableRecord = c.in-Some.table.now in
    let is : tables_at m c.args.granule ≡ Some t = sym c.table_in.ensures ∙ ap option_copied c.in-Some.is in
    let rd : c.place.result.rd ≡ t.place.rd = ap (λ (p : Place). p.rd) c.place.ensures.place in
    gives-both s c.args.first (λ x. x ≡ c.args.granule) (IsPageOf t.entries) _ c.args.rows.now.items c.give.new.rows.items _
    (c.give.ensures s (subst (IsOf s c.args.granule) (sym rd) (table-is_of m c.args.granule t is)))
    (c.give_pages.ensures s (m.shaped.tables.whole c.args.granule t is) (page-is_of m c.args.granule t is))
    (λ x gives. subst (λ (u : TableRecord). (x ≡ c.args.granule) ⊎ IsPageOf u.entries x) (same_Some gives.0 t (sym gives.1 ∙ is)) gives.2)
