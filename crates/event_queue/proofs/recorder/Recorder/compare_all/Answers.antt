use Rattle.event_queue.proofs.Common.{◌≡◌, ℕ, List, Some, get_or, arith, sym, ap, ◌∙◌, subst, slice_get, IsPrefix, subhistory_of, CpuView, ScribeView, hearing}
use Rattle.std.specs.Prelude.{slice_set}
use Rattle.std.proofs.lemmas.Option.{slice_get-get_or, get_or_from_slice_get, slice_get_within}
use Rattle.std.proofs.lemmas.List.Edits.{map_over_more}
use Rattle.event_queue.proofs.Hearings.{replaced-next}
use Rattle.event_queue.proofs.Wholes.{begun-more}
use Rattle.event_queue.proofs.recorder.Recorder.compare_all.Goals as goal

pub loop-pass-preserved : goal.loop-pass-preserved
loop-pass-preserved c =
    let old = c.loop-pass.invariant in
    let compared = c.drained_in_order.ensures in
    let place = c.loop-pass.pass-index in
    let pass = get_or c.loop-pass.passes place c.pass-item.result in
    let hears = hearing c.args.scribe.now.events in
    let read = slice_get-get_or c.loop-pass.passes place c.pass-item.result (omega arith) in
    let at : slice_get c.args.passes.now place ≡ Some pass =
    sym (replaced-next hears place c.args.passes.now) ∙ ap (λ (ps : List CpuView). slice_get ps place) (sym old.passes) ∙ read in
    let seat = c.requires.passes place pass at in
    record {
      scribe = compared.heard.0 ∙ old.scribe;
      passes = ap (slice_set c.loop-pass.passes place) (compared.heard.1 ∙ ap (λ (s : ScribeView). hearing s.events pass) old.scribe)
          ∙ map_over_more hears c.args.passes.now c.loop-pass.passes place pass (slice_get_within c.args.passes.now place pass at) old.passes
          (sym (get_or_from_slice_get c.loop-pass.passes place pass pass read));
      begun = begun-more c.args.passes.now c.args.scribe.now.events place pass at
          (subst (λ (y : ℕ × ScribeView). IsPrefix (subhistory_of y.0 y.1.events) pass.events)
          (λ i. (seat.1 i, old.scribe i)) compared.beginning) old.begun;
    }

pub returns-clause-begun : goal.returns-clause-begun
returns-clause-begun c = λ cpu pass is. c.loop-pass.invariant.begun cpu pass (omega (arith, slice_get_within c.args.passes.now cpu pass is)) is
