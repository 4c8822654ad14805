use Rattle.std.proofs.Common.{arith, sym, ◌∙◌, ap}
use Rattle.std.proofs.lemmas.Bool.Decides.{nat_tests}
use Rattle.rmi_codec.proofs.PrefixLaws.{one_digit_read, no_numeral-at_end, no_numeral-at_first, no_numeral-below_first, no_numeral-behind_zero}
use Rattle.rmm_spec.specs.Text.{glyph}
use Rattle.rmi_codec.proofs.numeral.numeral_prefix.Goals as goal

pub returns-then-is_empty-clause-none : goal.returns-then-is_empty-clause-none
returns-then-is_empty-clause-none c = λ n rest _ e.
    no_numeral-at_end c.args.base c.args.line.now n rest c.requires.least
    (λ some. let none = sym c.is_empty.ensures ∙ c.if-is_empty.true in absurd (grind (arith, nat_tests))) e

pub returns-then-first-base-clause-none : goal.returns-then-first-base-clause-none
returns-then-first-base-clause-none c = λ n rest _ e.
    no_numeral-at_first c.args.base c.args.line.now n rest c.requires.least (c.digit_of-first.ensures.none c.if-first-base.true) e

pub returns-then-first-most-clause-none : goal.returns-then-first-most-clause-none
returns-then-first-most-clause-none c = λ n rest small e.
    no_numeral-below_first c.args.base c.args.line.now c.digit_of-first.result n rest c.requires.least
    (let some = sym c.is_empty.ensures ∙ c.if-is_empty.false in grind (arith, nat_tests))
    c.if-first-base.false (c.digit_of-first.ensures.shown c.if-first-base.false) (let past = c.if-first-most.true in omega (arith, past, small)) e

pub returns-then-is_end-clause-found : goal.returns-then-is_end-clause-found
returns-then-is_end-clause-found c =
    one_digit_read c.args.base c.args.line.now c.digit_of-first.result c.requires.least
    (let some = sym c.is_empty.ensures ∙ c.if-is_empty.false in grind (arith, nat_tests))
    c.if-first-base.false (c.digit_of-first.ensures.shown c.if-first-base.false) (c.is_end.ensures.ended c.if-is_end.true)

pub returns-then-first-eq0-clause-none : goal.returns-then-first-eq0-clause-none
returns-then-first-eq0-clause-none c = λ n rest _ e.
    no_numeral-behind_zero c.args.base c.args.line.now n rest c.requires.least
    (sym (c.digit_of-first.ensures.shown c.if-first-base.false) ∙ ap glyph c.if-first-eq0.true)
    (c.is_end.ensures.inside c.if-is_end.false) (c.is_end.ensures.goes_on c.if-is_end.false) e
