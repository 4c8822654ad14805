use Rattle.std.proofs.Common.{Some, ap, sym, ◌∙◌}
use Rattle.rmm_spec.specs.Function.{word_count}
use Rattle.reasons.specs.declared.wanted.Wanted.TheVariants as wanted
use Rattle.reasons.proofs.PlainParts.{function_same}
use Rattle.reasons.proofs.wanted.function.Goals as goal

pub returns-clause-only : goal.returns-clause-only
returns-clause-only c = λ next h.
    let same = function_same c.args.part.now c.next_function.new.self c.in_ok-function.function h.0 c.requires.plain
    (sym c.of.ensures ∙ c.in_ok-function.ensures.found) h.1 in
    ap Some (ap wanted.Words (c.words_of-left.ensures ∙ ap word_count same) ∙ sym h.2)
