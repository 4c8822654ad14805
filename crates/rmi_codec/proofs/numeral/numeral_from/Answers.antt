use Rattle.std.proofs.Common.{[], Some, sym, ap, ◌∙◌, arith}
use Rattle.spec_lemmas.proofs.Texts.{numeral-injective}
use Rattle.rmi_codec.proofs.PrefixLaws.{numeral_alone, parts_of-numeral, no_parts_behind}
use Rattle.rmi_codec.proofs.numeral.numeral_from.Goals as goal

pub returns-in_err-number-clause-only : goal.returns-in_err-number-clause-only
returns-in_err-number-clause-only c = λ n small e.
    absurd (c.in_err-number.ensures.none n [] (omega (arith, small)) (parts_of-numeral c.args.base c.args.part.now n c.requires.least e))

pub returns-then-end-part-clause-found : goal.returns-then-end-part-clause-found
returns-then-end-part-clause-found c =
    numeral_alone c.args.base c.args.part.now c.in_ok-number.end c.in_ok-number.number c.if-end-part.true c.in_ok-number.ensures.found

pub returns-then-end-part-clause-only : goal.returns-then-end-part-clause-only
returns-then-end-part-clause-only c = λ n _ e.
    ap Some (numeral-injective c.args.base c.in_ok-number.number n c.requires.least (sym (returns-then-end-part-clause-found c) ∙ e))

pub returns-else-end-part-clause-only : goal.returns-else-end-part-clause-only
returns-else-end-part-clause-only c = λ n _ e.
    absurd (no_parts_behind c.args.base c.args.part.now c.in_ok-number.end
    c.in_ok-number.number n c.requires.least c.if-end-part.false c.in_ok-number.ensures.found e)
