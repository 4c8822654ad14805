-- One further, and the first that fails.
use Rattle.std.proofs.Common.{sym, subst, arith}
use Rattle.std.proofs.lemmas.Option.{slice_get-get_or}
use Rattle.spec_machine.specs.View.{state_of}
use Rattle.reasons.specs.declared.asked.Asked.{Asked}
use Rattle.reasons.specs.Law.{IsFirst}
use Rattle.reasons.proofs.First.{AllPass-next, AllPass-whole, IsFirst-at, none_found}
use Rattle.reasons.proofs.deciding.first_of.Goals as goal

pub loop-i-preserved : goal.loop-i-preserved
loop-i-preserved c =
    let pass = none_found c.if_failing.result _ _ c.if_failing.ensures c.in_default.not-Some in
    AllPass-next (state_of c.args.machine.now) c.args.list.now c.loop-i.i _
    (slice_get-get_or c.args.list.now c.loop-i.i _ c.loop-i-test.true) pass c.loop-i.invariant

pub returns-in-Some : goal.returns-in-Some
returns-in-Some c =
    subst (λ (x : Asked). IsFirst (state_of c.args.machine.now) c.args.list.now x.condition x.test) (sym c.in-Some.ensures.0)
    (IsFirst-at (state_of c.args.machine.now) c.args.list.now c.loop-i.i _ (slice_get-get_or c.args.list.now c.loop-i.i _ c.loop-i-test.true)
    c.loop-i.invariant c.in-Some.ensures.1)

pub returns : goal.returns
returns c = AllPass-whole (state_of c.args.machine.now) c.args.list.now c.loop-i.i (omega (arith, c.loop-i-test.false)) c.loop-i.invariant
