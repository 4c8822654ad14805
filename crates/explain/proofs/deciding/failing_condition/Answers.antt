-- The first that fails is that for which it is refused.
use Rattle.explain.proofs.Common.{state_of}
use Rattle.rmm_spec.specs.Lookup.{rec_inside}
use Rattle.reasons.specs.Law.{IsOfWords}
use Rattle.reasons.proofs.First.{fails-first, first-has, none_found}
use Rattle.explain.proofs.Decisions.{IsDecision-condition, IsFailing-first, is_so-condition, refused-none, some_found}
use Rattle.explain.proofs.deciding.failing_condition.Goals as goal

pub unreachable-requires : goal.unreachable-requires
unreachable-requires c =
    refused-none (state_of c.args.machine.now) c.args.cpu c.args.command.now c.requires.refused.0 c.requires.refused.1
    (rw c.call.ensures at (none_found c.in_ok-found.found _ _ c.in_ok-found.ensures c.in_default.not-Some))

pub condition_decision-requires-clause-fails : goal.condition_decision-requires-clause-fails
condition_decision-requires-clause-fails c =
    let first = some_found c.in_ok-found.found _ _ c.in-Some.test c.in_ok-found.ensures c.in-Some.is in
    fails-first (state_of c.args.machine.now) _ first.0 c.in-Some.test first.1

pub returns-clause-decision : goal.returns-clause-decision
returns-clause-decision c claimed =
    let s = state_of c.args.machine.now in
    let first = rw c.call.ensures at (some_found c.in_ok-found.found _ _ c.in-Some.test c.in_ok-found.ensures c.in-Some.is) in
    let command = c.args.command.now in
    let each = c.words_are_asked-fact.ensures command.function command.words.items c.args.cpu (rec_inside s c.args.cpu) in
    IsDecision-condition s c.args.cpu c.args.command.now claimed c.in-Some.test c.condition_decision.result.deciding c.condition_decision.result.watch
    (IsFailing-first s c.args.cpu c.args.command.now first.0 c.in-Some.test first.1)
    (first-has s _ first.0 c.in-Some.test (IsOfWords command.words.items) each first.1) c.condition_decision.ensures

pub returns-clause-so : goal.returns-clause-so
returns-clause-so c =
    let s = state_of c.args.machine.now in
    let first = some_found c.in_ok-found.found _ _ c.in-Some.test c.in_ok-found.ensures c.in-Some.is in
    is_so-condition s c.in-Some.test c.condition_decision.result.deciding c.condition_decision.result.watch
    (fails-first s _ first.0 c.in-Some.test first.1)
    c.condition_decision.ensures
