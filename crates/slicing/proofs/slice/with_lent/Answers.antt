-- One granule more.
use Rattle.std.proofs.Common.{◌≡◌, ◌++◌, ◌∷◌, ◌∙◌, Some, [], ap, arith, refl, subst, sym, take}
use Rattle.std.proofs.lemmas.List.{take_all}
use Rattle.std.proofs.lemmas.Option.{slice_get_read}
use Rattle.std.specs.List.{slice_get}
use Rattle.rmm_spec.specs.HistoryText.{History}
use Rattle.verdict_laws.specs.Slices.{lending_events}
use Rattle.slicing.proofs.EventLaws.{lending_events-next}
use Rattle.slicing.proofs.slice.with_lent.Goals as goal

pub granules-preserved : goal.granules-preserved
granules-preserved c =
    let lent = c.args.plan.now.lent.items in
    let history = c.args.history.now.recorded in
    let granule = c.in-Ok-Some.granule.now in
    let read = c.in-Ok-Some.ensures'.lookup in
    let there : slice_get lent c.granules.index ≡ Some granule =
    subst (λ items. slice_get items c.granules.index ≡ Some granule) c.deref.ensures.value
    (slice_get_read c.deref.result.now _ c.granules.index granule refl read.3.0 read.1) in
    let numbered = ap (λ number. lending_events 0 (take c.granules.index lent) ++ lending_events number (granule ∷ [])) c.in-Ok-Some.ensures.1 in
    let events = numbered ∙ sym (lending_events-next lent c.granules.index granule there) in
    c.in_ok-push_lending.ensures c.if-not-branch.false
    ∙ ap (λ (h : History). record h { events = h.events ++ lending_events c.in-Ok-Some.number (granule ∷ []) }) c.granules.invariant
    ∙ (λ i. record { config = history.config; events = events i })

pub returns : goal.returns
returns c =
    let lent = c.args.plan.now.lent in
    let all = take_all c.granules.index lent.items (omega (arith, lent.ok.0, c.len-index-end.ensures, c.granules-test.false)) in
    c.granules.invariant ∙ (λ i. record { config = c.args.history.now.recorded.config; events = lending_events 0 (all i) })
