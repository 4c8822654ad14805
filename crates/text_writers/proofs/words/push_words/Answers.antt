use Rattle.std.proofs.Common.{arith}
use Rattle.std.proofs.lemmas.Result.{MatchResult-from_err}
use Rattle.text_writers.proofs.WriteLaws.{begun_after, full_after, kept_after, kept_on, words_left, written_on}
use Rattle.text_writers.proofs.words.push_words.Goals as goal

pub loop-word-preserved : goal.loop-word-preserved
loop-word-preserved c =
    let next = words_left c.args.words.now c.loop-word.word-index c.loop-word-test.true in
    record {
      written = written_on c.args.out.now.items c.loop-word.out.items _ _ _ _ _ c.loop-word.invariant.written next c.in_ok-push_word.ensures.ok;
      kept = kept_on c.args.out.now.items c.loop-word.out.items _ _ c.loop-word.invariant.kept c.in_ok-push_word.ensures.ok;
      capacity = omega (arith, c.loop-word.invariant.capacity, c.in_ok-push_word.ensures.capacity);
    }

pub returns-in_err-push_word-clause-kept : goal.returns-in_err-push_word-clause-kept
returns-in_err-push_word-clause-kept c =
    MatchResult-from_err c.from_residual.result _ _ c.from_residual.ensures.0
    (λ _. kept_after c.args.out.now.items c.loop-word.out.items _ c.loop-word.invariant.kept c.in_err-push_word.ensures.kept)

pub returns-in_err-push_word-clause-beginning : goal.returns-in_err-push_word-clause-beginning
returns-in_err-push_word-clause-beginning c =
    let next = words_left c.args.words.now c.loop-word.word-index c.loop-word-test.true in
    MatchResult-from_err c.from_residual.result _ _ c.from_residual.ensures.0
    (λ _. begun_after c.args.out.now.items c.loop-word.out.items _ _ _ _ _ c.loop-word.invariant.written next c.in_err-push_word.ensures.beginning)

pub returns-in_err-push_word-clause-full : goal.returns-in_err-push_word-clause-full
returns-in_err-push_word-clause-full c =
    let next = words_left c.args.words.now c.loop-word.word-index c.loop-word-test.true in
    MatchResult-from_err c.from_residual.result _ _ c.from_residual.ensures.0
    (λ _. full_after c.args.out.now.items c.loop-word.out.items _ _ _ _ _ _ _ _ c.loop-word.invariant.written next c.args.out.now.ok.0
    c.loop-word.out.ok.0 c.loop-word.invariant.capacity c.in_err-push_word.ensures.full)
