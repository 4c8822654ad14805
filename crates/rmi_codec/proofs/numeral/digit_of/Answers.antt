use Rattle.std.proofs.Common.{◌≡◌, ap, sym, ◌∙◌, arith}
use Rattle.rmi_codec.proofs.DigitTable.{digit_or_none, table_value, digit_read, digit_kept}
use Rattle.rmi_codec.proofs.numeral.digit_of.Goals as goal

pub returns-clause-shown : goal.returns-clause-shown
returns-clause-shown c = λ below.
    let is : c.from-3.result ≡ digit_or_none c.args.byte = rw c.from-2.ensures at c.from-3.ensures ∙ table_value c.args.byte c.ranges.byte.fits in
    digit_read c.args.byte c.from-3.result is (omega (arith, below, c.requires))

pub returns-clause-none : goal.returns-clause-none
returns-clause-none c = λ none d small shown.
    let is : c.from-3.result ≡ digit_or_none c.args.byte = rw c.from-2.ensures at c.from-3.ensures ∙ table_value c.args.byte c.ranges.byte.fits in
    let same : c.from-3.result ≡ d = is ∙ ap digit_or_none (sym shown) ∙ digit_kept d (omega (arith, small, c.requires)) in
    absurd (omega (arith, same, none, small))
