-- The CPU's call before is the one that is found.
use Rattle.std.proofs.Common.{◌≡◌, ℕ, ◌∙◌, arith, subst, sym}
use Rattle.std.specs.Cmp.{booleans_Decides}
use Rattle.rmm_spec.specs.declared.event.Event.TheVariants.{Called}
use Rattle.rmm_spec.specs.Linearization.{IsCalled}
use Rattle.spec_lemmas.proofs.HistoryGrammar.{IsHistory-take}
use Rattle.slicing.specs.Calls.{events_to}
use Rattle.slicing.proofs.EnteredLaws.{entered_behind}
use Rattle.lemmas.proofs.Elements.{slice_get-front}
use Rattle.slicing.proofs.entered.is_entered.Goals as goal

pub returns-in-Some-call_at : goal.returns-in-Some-call_at
returns-in-Some-call_at c same =
    let history = c.args.history.now.recorded in
    let count = c.args.count in
    let events = events_to count history.events in
    let cpu = c.args.call.now.cpu in
    let at = c.in-Some-places_of.places.called in
    let made = c.in-Some-places_of.ensures.some.called in
    let last = c.in-Some.ensures in
    let is_made = slice_get-front count history.events at (Called cpu c.in-Some.last made.0) (omega (arith, c.if-places-count.false)) made.1 in (
      λ first. absurd (omega (arith, first, last.0)),
      λ place returned number command given next is_called is_returned.
          let numbered : c.in-Some.last ≡ number = omega (arith, next, last.0, last.1) in
          sym c.entered_at-in-Some-call_at.ensures
          ∙ (booleans_Decides c.entered_at-in-Some-call_at.result c.is_entered_after.result).0 same
          ∙ entered_behind (record history { events = events }) (IsHistory-take count history c.well_formed-fact.ensures) c.args.plan.now
          at place returned cpu number made.0 command given c.in-Some-call_at.before c.is_entered_after.result
          (subst (λ (n : ℕ). IsCalled events at cpu n made.0) numbered is_made) c.in-Some-call_at.ensures.some is_called is_returned
          c.is_entered_after.ensures,
    )
