-- The step that is appended is the one that is given.
use Rattle.std.proofs.Common.{subst, sym}
use Rattle.std.specs.Prelude.{All}
use Rattle.std.proofs.lemmas.List.Elements.{All-push}
use Rattle.run_steps.specs.Granule.{IsNamedStep}
use Rattle.run_steps.specs.declared.granule_history.GranuleStep.{GranuleStep}
use Rattle.run_steps.proofs.granule_history.keep_step.Goals as goal

pub returns-in_ok-push-clause-calls : goal.returns-in_ok-push-clause-calls
returns-in_ok-push-clause-calls c history lines each named told =
    let here : GranuleStep = record { step = c.args.step; call = c.args.taken.call; is_changed = c.answer_touches-is_changed.result } in
    subst (All (IsNamedStep history lines)) (sym c.in_ok-push.ensures.items)
    (All-push (IsNamedStep history lines) c.args.steps.now.items here each (named, told))
