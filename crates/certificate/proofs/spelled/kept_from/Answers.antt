use Rattle.std.proofs.Common.{rules, sym, ◌∙◌}
use Rattle.rmm_spec.specs.declared.line.Line.TheVariants.{Keep}
use Rattle.certificate.proofs.SpellingLemmas.{IsNoLine-head, IsNoKept-letter, IsNoLine-keep, IsLineOf-keep}
use Rattle.certificate.proofs.spelled.kept_from.Goals as goal

pub returns-in_default-clause-none : goal.returns-in_default-clause-none
returns-in_default-clause-none c = λ cpu number. IsNoLine-head _ (rw c.of-parts.ensures at c.in_default.ensures.none) (Keep cpu number)

pub returns-in_default-letter-clause-none : goal.returns-in_default-letter-clause-none
returns-in_default-letter-clause-none c =
    IsNoKept-letter _ _ _ _ c.head_from.new.parts (sym c.of-parts.ensures ∙ c.in-Some.ensures.found) (search rules)

pub returns-in-Some-next_part-clause-none : goal.returns-in-Some-next_part-clause-none
returns-in-Some-next_part-clause-none c =
    let cut = rw c.in-107.is at (sym c.of-parts.ensures ∙ c.in-Some.ensures.found) in
    λ cpu number. IsNoLine-keep _ _ _ c.in-Some-next_part.field-0.now c.head_from.new.parts _ cut c.in-Some-next_part.ensures.next (Keep cpu number)

pub returns-in-None-clause-found : goal.returns-in-None-clause-found
returns-in-None-clause-found c =
    let cut = rw c.in-107.is at (sym c.of-parts.ensures ∙ c.in-Some.ensures.found) in
    IsLineOf-keep _ _ _ c.head_from.new.parts cut c.in-None.ensures.over c.in-Some.ensures.cpu c.in-Some.ensures.number
