use Rattle.std.proofs.Common.{arith, ◌∙◌}
use Rattle.spec_lemmas.proofs.Texts.{glyph-IsPlain}
use Rattle.rmi_codec.proofs.NumberLaws.{SpellsSoFar-first, SpellsSoFar-more}
use Rattle.rmi_codec.proofs.PrefixLaws.{digits_read, no_numeral-at_other, no_numeral-below}
use Rattle.rmi_codec.proofs.numeral.longer_prefix.Goals as goal

pub loop-end-init : goal.loop-end-init
loop-end-init c = record {
  so_far = SpellsSoFar-first c.args.base c.args.line.now c.args.first c.requires.least
      c.requires.some c.requires.positive c.requires.digit c.requires.shown;
  inside = c.requires.some;
  within = c.requires.first;
}

pub returns-then-is_end-clause-found : goal.returns-then-is_end-clause-found
returns-then-is_end-clause-found c =
    digits_read c.args.base c.args.line.now c.loop-end.end c.loop-end.number c.requires.least c.requires.some
    (λ e. (glyph-IsPlain c.args.first).0 (c.requires.shown ∙ e))
    c.loop-end.invariant.inside c.loop-end.invariant.so_far (c.is_end.ensures.ended c.if-is_end.true)

pub returns-then-is_end-clause-within : goal.returns-then-is_end-clause-within
returns-then-is_end-clause-within c = c.loop-end.invariant.within

pub returns-else-is_end-clause-none : goal.returns-else-is_end-clause-none
returns-else-is_end-clause-none c = λ n rest _ e.
    no_numeral-at_other c.args.base c.args.line.now c.loop-end.end c.loop-end.number
    n rest c.requires.least c.loop-end-test.true c.loop-end.invariant.so_far
    (c.digit_of-digit.ensures.none c.if-digit-base.true) (c.is_end.ensures.goes_on c.if-is_end.false) e

pub with_digit-requires-clause-number : goal.with_digit-requires-clause-number
with_digit-requires-clause-number c = c.loop-end.invariant.within

pub returns-in_err-number-clause-none : goal.returns-in_err-number-clause-none
returns-in_err-number-clause-none c =
    let past = c.in_err-number.ensures.none in
    rw c.from_residual.ensures (λ n rest small e.
    no_numeral-below c.args.base c.args.line.now c.loop-end.end c.loop-end.number
    c.digit_of-digit.result n rest c.requires.least c.loop-end-test.true c.loop-end.invariant.so_far
    c.if-digit-base.false (c.digit_of-digit.ensures.shown c.if-digit-base.false) (omega arith) e)

pub loop-end-preserved : goal.loop-end-preserved
loop-end-preserved c =
    rw c.in_ok-number.ensures.some (record {
      so_far = SpellsSoFar-more c.args.base c.args.line.now c.loop-end.end c.loop-end.number c.digit_of-digit.result c.requires.least
          c.loop-end-test.true c.loop-end.invariant.so_far c.if-digit-base.false (c.digit_of-digit.ensures.shown c.if-digit-base.false);
      inside = omega (arith, c.loop-end-test.true);
      within = rw (← c.in_ok-number.ensures.some) c.in_ok-number.ensures.within;
    })

pub returns-clause-found : goal.returns-clause-found
returns-clause-found c =
    digits_read c.args.base c.args.line.now c.loop-end.end c.loop-end.number c.requires.least c.requires.some
    (λ e. (glyph-IsPlain c.args.first).0 (c.requires.shown ∙ e))
    c.loop-end.invariant.inside c.loop-end.invariant.so_far (λ before. let past = c.loop-end-test.false in absurd (omega arith))

pub returns-clause-within : goal.returns-clause-within
returns-clause-within c = c.loop-end.invariant.within
