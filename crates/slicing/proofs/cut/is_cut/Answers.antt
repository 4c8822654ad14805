-- The events fit, and what comes before them returned.
use Rattle.std.proofs.Common.{◌∙◌, arith, refl, sym}
use Rattle.std.proofs.lemmas.Bool.{false≢true}
use Rattle.std.proofs.lemmas.List.{length-take-le}
use Rattle.spec_lemmas.proofs.HistoryGrammar.{IsHistory-take}
use Rattle.slicing.specs.Calls.{events_to}
use Rattle.slicing.proofs.Cutting.{IsCut-from_fits}
use Rattle.slicing.proofs.cut.is_cut.Goals as goal
use Rattle.slicing.proofs.cut.is_cut.Goals.{then-are_lent, else-are_lent}

pub returns-then-are_back : goal.returns-then-are_back
returns-then-are_back c is = elim c.if-are_lent.branch [
  | then-are_lent w ↦
      let history = c.args.history.now.recorded in
      let count = c.args.count in
      let lent = w.if-are_lent.ensures in
      IsCut-from_fits (record history { events = events_to count history.events }) (IsHistory-take count history c.well_formed-fact.ensures)
      c.args.plan.now (lent.noted refl) (w.are_back.ensures (sym w.value-is ∙ c.if-are_back.true))
      (λ place behind within.
      c.events_fit.ensures is place behind (omega (arith, within, length-take-le count history.events c.requires)))
      (lent.granules refl)
  | else-are_lent w ↦ absurd (false≢true (sym w.if-are_lent.false ∙ sym w.value-is ∙ c.if-are_back.true))
]
