-- It is known in one of three ways.
use Rattle.std.proofs.Common.{ℕ, ap, inl, inr, refl, subst}
use Rattle.rmm_spec.specs.Rows.{Needed}
use Rattle.verdict_laws.specs.Slices.{IsKnownAt}
use Rattle.slicing.specs.Calls.{events_to}
use Rattle.slicing.specs.Cuts.{IsUnusedTo, KnowsOf}
use Rattle.slicing.specs.Plans.{number_at}
use Rattle.slicing.proofs.cut.knows.Goals as goal

pub returns-then-is_fresh : goal.returns-then-is_fresh
unfolding KnowsOf
returns-then-is_fresh c is = inr (inl (c.if-is_fresh.ensures refl))

pub returns-then-is_known : goal.returns-then-is_known
unfolding KnowsOf
returns-then-is_known c is =
    inl (subst (λ (g : ℕ). IsKnownAt (events_to c.args.count c.args.history.now.recorded.events) (number_at c.args.plan.now) c.args.call.now.place g)
    (ap (λ (n : Needed). n.granule) c.name.view_is) (c.if-is_known.ensures refl))

pub returns : goal.returns
unfolding KnowsOf
returns c is =
    inr (inr (subst (λ (g : ℕ). IsUnusedTo (events_to c.args.count c.args.history.now.recorded.events) c.args.plan.now c.args.call.now g)
    (ap (λ (n : Needed). n.granule) c.name.view_is) (c.is_unused.ensures is)))
