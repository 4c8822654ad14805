-- A granule that is lent is noted where it stands.
use Rattle.std.proofs.Common.{◌∙◌, List, ap, sym, ℕ}
use Rattle.std.specs.List.{slice_get}
use Rattle.slicing.specs.declared.plan.Mark.{Mark}
use Rattle.slicing.proofs.PlanLaws.{copied-slice_get, is_lent-noted, is_lent-unnoted}
use Rattle.slicing.proofs.plan.Plan.is_lent.Goals as goal

pub returns-in-Some : goal.returns-in-Some
returns-in-Some c noted =
    let index = c.in-Some.index in
    c.eq.ensures
    ∙ is_lent-noted c.args.self.now c.args.granule index c.copied.result noted
    (sym (ap (λ (m : Mark). m.lending) c.mark_of.ensures) ∙ c.in-Some.is)
    (c.copied.ensures ∙ copied-slice_get c.get.result c.deref.result.now index c.get.ensures.lookup.3
    ∙ ap (λ (xs : List ℕ). slice_get xs index) c.deref.ensures.value)

pub returns-in-None : goal.returns-in-None
returns-in-None c noted =
    sym (is_lent-unnoted c.args.self.now c.args.granule noted (sym (ap (λ (m : Mark). m.lending) c.mark_of.ensures) ∙ c.in-None.is))
