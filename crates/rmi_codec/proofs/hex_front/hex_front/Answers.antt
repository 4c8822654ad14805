use Rattle.std.proofs.Common.{rules, arith, sym, ap, ◌∙◌}
use Rattle.rmm_spec.specs.Text.{glyph}
use Rattle.spec_lemmas.proofs.Texts.{numeral_some}
use Rattle.rmi_codec.proofs.FrontLaws.{zero_front}
use Rattle.rmi_codec.proofs.HexNumbers.{numeral-lanes}
use Rattle.rmi_codec.proofs.NumberLaws.{SpellsSoFar-first}
use Rattle.rmi_codec.proofs.hex_front.hex_front.Goals as goal

pub returns-then-first-eq0-clause-found : goal.returns-then-first-eq0-clause-found
returns-then-first-eq0-clause-found c =
    zero_front 16 c.args.text.now (omega (arith, c.requires.long))
    (sym (c.digit_of-first.ensures.shown c.if-first-ge16.false) ∙ ap glyph c.if-first-eq0.true)

pub returns-then-digit_of-ge16-clause-found : goal.returns-then-digit_of-ge16-clause-found
returns-then-digit_of-ge16-clause-found c =
    let some = c.if-first-eq0.false in
    (SpellsSoFar-first 16 c.args.text.now c.digit_of-first.result (omega arith) (omega (arith, c.requires.long))
    (omega (arith, some)) c.if-first-ge16.false (c.digit_of-first.ensures.shown c.if-first-ge16.false)).spelled
    ∙ sym (numeral_some 16 c.digit_of-first.result (omega (arith, some)))

pub returns-clause-found : goal.returns-clause-found
returns-clause-found c =
    let some = c.if-first-eq0.false in
    numeral-lanes c.args.text.now c.digits_in-digits.result c.count_of-count.result c.digit_of-first.result c.word_of.result c.requires.long
    (search rules) c.count_of-count.ensures.within (search rules) (omega (arith, some))
    (c.digit_of-first.ensures.shown c.if-first-ge16.false) c.count_of-count.ensures.digits c.digits_in-digits.ensures.shown c.word_of.ensures
