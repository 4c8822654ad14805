use Rattle.event_queue.proofs.Common.{◌≡◌, List, length, arith, sym, ap, ◌∙◌, subst, length-append, AllByRecursion, Event, IsEvent, subhistory_of, AreBegun, AreWhole, CpuView, ScribeView}
use Rattle.std.proofs.lemmas.Result.{on_ok_weaker, on_err_weaker}
use Rattle.rmm_spec.specs.HistoryText.{History}
use Rattle.event_queue.specs.View.{AreSeats}
use Rattle.event_queue.proofs.Hearings.{each_hearing}
use Rattle.event_queue.proofs.Wholes.{are_whole, at_most_recorded}
use Rattle.event_queue.proofs.recorder.Recorder.drain_rest.Goals as goal

pub returns-clause-whole : goal.returns-clause-whole
returns-clause-whole g c =
    let drained = c.drain_to-drained.ensures in
    let same = ap (λ (h : History). h.events) drained.history in
    let cpus = ap (λ (h : History). h.config.cpus) drained.history ∙ c.requires.can.same_cpus ∙ sym c.requires.count in
    on_ok_weaker c.drain_to-drained.result
    (λ reached. are_whole _ _
    (subst (λ n. AllByRecursion (IsEvent n) c.drain_to-drained.new.history.recorded.events) cpus c.well_formed-fact.ensures.events)
    (subst (AreBegun c.args.passes.now) (sym same) c.compare_all.ensures.begun) (omega (arith, c.in-Some.ensures.some.0, reached))) drained.reached

pub returns-clause-short : goal.returns-clause-short
returns-clause-short g c =
    let drained = c.drain_to-drained.ensures in
    let same = ap (λ (h : History). h.events) drained.history in
    let cpus = ap (λ (h : History). h.config.cpus) drained.history ∙ c.requires.can.same_cpus ∙ sym c.requires.count in
    let most = at_most_recorded _ _
    (subst (λ n. AllByRecursion (IsEvent n) c.drain_to-drained.new.history.recorded.events) cpus c.well_formed-fact.ensures.events)
    (subst (AreBegun c.args.passes.now) (sym same) c.compare_all.ensures.begun) in
    let rest = drained.taken.0 in
    let longer = ap length (same ∙ ap (λ (s : ScribeView). s.events) drained.taken.1) in
    on_err_weaker c.drain_to-drained.result
    (λ short. omega (arith, short, most, longer, length-append c.args.scribe.now.events rest, ap length c.requires.can.same_events)) drained.taken.2

pub returns-clause-seats : goal.returns-clause-seats
returns-clause-seats g c =
    subst (AreSeats c.args.self.now.queue) (sym c.compare_all.ensures.heard.1)
    (each_hearing (λ cpu pass. (pass.queue ≡ c.args.self.now.queue) × (pass.cpu ≡ cpu)) c.drain_to-drained.new.scribe.events c.args.passes.now
    (λ cpu pass is. is) c.requires.passes)

pub returns-clause-all : goal.returns-clause-all
returns-clause-all g c =
    let events =
    ap (λ (h : History). h.events) c.drain_to-drained.ensures.history ∙ ap (λ (s : ScribeView). s.events) (sym c.compare_all.ensures.heard.0) in
    on_ok_weaker c.drain_to-drained.result
    (λ whole. subst (λ (y : List CpuView × List Event). AreWhole y.0 y.1) (λ i. (sym c.compare_all.ensures.heard.1 i, events i))
    (each_hearing (λ cpu pass. subhistory_of cpu c.drain_to-drained.new.history.recorded.events ≡ pass.events)
    c.drain_to-drained.new.scribe.events c.args.passes.now
    (λ cpu pass is. is) whole)) (returns-clause-whole g c)
