-- Where the slice has no order the first events have none.
use Rattle.std.proofs.Common.{refl}
use Rattle.std.proofs.lemmas.Option.{IfSome_then}
use Rattle.std.proofs.lemmas.Result.{IfOk-weaker}
use Rattle.slicing.specs.Plans.{entered_at, number_at}
use Rattle.slicing.proofs.slice.slice_of.Goals as goal

pub returns : goal.returns
returns c =
    let plan = c.in-Some.plan in
    let law = c.nowhere_in_a_slice-law.ensures in
    IfOk-weaker c.sliced.result _ _
    (λ slice of_plan. IfSome_then slice of_plan (λ s is. law c.args.history.now.recorded s.recorded c.args.count
    (number_at plan) plan.lent.items (entered_at plan) c.well_formed-fact.ensures is.0 is.1 (c.if-not-is_cut.ensures refl)))
    c.sliced.ensures
