use Rattle.std.proofs.Common.{arith, sym, ap, ◌∙◌}
use Rattle.std.proofs.lemmas.Grind.{pow_more}
use Rattle.rmm_spec.specs.Text.{glyph}
use Rattle.spec_lemmas.proofs.Texts.{numeral_some}
use Rattle.rmi_codec.proofs.FrontLaws.{zero_front}
use Rattle.rmi_codec.proofs.NumberLaws.{SpellsSoFar-first, SpellsSoFar-more, decimal_below}
use Rattle.rmi_codec.proofs.front.digits_front.Goals as goal

pub returns-then-first-eq0-clause-found : goal.returns-then-first-eq0-clause-found
returns-then-first-eq0-clause-found c =
    zero_front 10 c.args.text.now (omega (arith, c.requires))
    (sym (c.digit_of-first.ensures.shown c.if-first-ge10.false) ∙ ap glyph c.if-first-eq0.true)

pub loop-count-init : goal.loop-count-init
loop-count-init c = record {
  so_far = SpellsSoFar-first 10 c.args.text.now c.digit_of-first.result (omega arith) (omega (arith, c.requires))
      (let some = c.if-first-eq0.false in omega (arith, some)) c.if-first-ge10.false (c.digit_of-first.ensures.shown c.if-first-ge10.false);
  some = omega arith;
  within = omega arith;
  below = c.if-first-ge10.false;
}

pub returns-then-digit-ge10-clause-found : goal.returns-then-digit-ge10-clause-found
returns-then-digit-ge10-clause-found c =
    let so_far = c.loop-count.invariant.so_far in
    so_far.spelled ∙ sym (numeral_some 10 c.loop-count.number (so_far.positive c.loop-count.invariant.some))

pub overflow_mul-number : goal.overflow_mul-number
overflow_mul-number c = omega (arith, decimal_below c.loop-count.count c.loop-count.number c.loop-count-test.true c.loop-count.invariant.below)

pub overflow_add-number : goal.overflow_add-number
overflow_add-number c =
    omega (arith, decimal_below c.loop-count.count c.loop-count.number c.loop-count-test.true c.loop-count.invariant.below, c.if-digit-ge10.false)

pub loop-count-preserved : goal.loop-count-preserved
loop-count-preserved c =
    let loop = c.loop-count in
    record {
      so_far = SpellsSoFar-more 10 c.args.text.now loop.count loop.number c.digit_of-digit.result (omega arith)
          (omega (arith, c.loop-count-test.true, c.requires)) loop.invariant.so_far c.if-digit-ge10.false
          (c.digit_of-digit.ensures.shown c.if-digit-ge10.false);
      some = omega arith;
      within = omega (arith, c.loop-count-test.true);
      below = omega (arith, pow_more 10 loop.count, loop.invariant.below, c.if-digit-ge10.false);
    }

pub returns-clause-found : goal.returns-clause-found
returns-clause-found c =
    let so_far = c.loop-count.invariant.so_far in
    so_far.spelled ∙ sym (numeral_some 10 c.loop-count.number (so_far.positive c.loop-count.invariant.some))
