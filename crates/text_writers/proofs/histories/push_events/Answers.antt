use Rattle.std.proofs.Common.{arith}
use Rattle.std.proofs.lemmas.Result.{MatchResult-from_err}
use Rattle.rmm_spec.specs.HistoryText.{event_parts}
use Rattle.text_writers.proofs.WriteLaws.{begun_after, full_after, kept_after, kept_on, lines_first, written_on}
use Rattle.text_writers.proofs.histories.push_events.Goals as goal

pub loop-event-preserved : goal.loop-event-preserved
loop-event-preserved c =
    let next = lines_first event_parts c.loop-event.events c.next.new.self c.to_event.result
    (rw c.to_event.ensures c.in-Some.ensures.event) in
    record {
      written = written_on c.args.out.now.items c.loop-event.out.items _ _ _ _ _ c.loop-event.invariant.written next c.in_ok-push_event.ensures.ok;
      kept = kept_on c.args.out.now.items c.loop-event.out.items _ _ c.loop-event.invariant.kept c.in_ok-push_event.ensures.ok;
      capacity = omega (arith, c.loop-event.invariant.capacity, c.in_ok-push_event.ensures.capacity);
    }

pub returns-in_err-push_event-clause-kept : goal.returns-in_err-push_event-clause-kept
returns-in_err-push_event-clause-kept c =
    MatchResult-from_err c.from_residual.result _ _ c.from_residual.ensures.0
    (λ _. kept_after c.args.out.now.items c.loop-event.out.items _ c.loop-event.invariant.kept c.in_err-push_event.ensures.kept)

pub returns-in_err-push_event-clause-beginning : goal.returns-in_err-push_event-clause-beginning
returns-in_err-push_event-clause-beginning c =
    let next = lines_first event_parts c.loop-event.events c.next.new.self c.to_event.result
    (rw c.to_event.ensures c.in-Some.ensures.event) in
    MatchResult-from_err c.from_residual.result _ _ c.from_residual.ensures.0
    (λ _. begun_after c.args.out.now.items c.loop-event.out.items _ _ _ _ _ c.loop-event.invariant.written next c.in_err-push_event.ensures.beginning)

pub returns-in_err-push_event-clause-full : goal.returns-in_err-push_event-clause-full
returns-in_err-push_event-clause-full c =
    let next = lines_first event_parts c.loop-event.events c.next.new.self c.to_event.result
    (rw c.to_event.ensures c.in-Some.ensures.event) in
    MatchResult-from_err c.from_residual.result _ _ c.from_residual.ensures.0
    (λ _. full_after c.args.out.now.items c.loop-event.out.items _ _ _ _ _ _ _ _ c.loop-event.invariant.written next c.args.out.now.ok.0
    c.loop-event.out.ok.0 c.loop-event.invariant.capacity c.in_err-push_event.ensures.full)
