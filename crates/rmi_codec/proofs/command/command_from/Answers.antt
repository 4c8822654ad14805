use Rattle.std.proofs.Common.{◌≡◌, ◌≤◌, refl, ap, sym, ◌∙◌, length, map, arith}
use Rattle.rmm_spec.specs.CommandText.{command_parts}
use Rattle.rmm_spec.specs.Function.{number_of, word_count}
use Rattle.rmm_spec.specs.Text.{word, fixed_hex}
use Rattle.spec_lemmas.proofs.Texts.{fixed_hex-injective, number_of-injective, number_of-lt, map-word-injective}
use Rattle.std.proofs.lemmas.Result.{err_from_is_err_and}
use Rattle.std.proofs.lemmas.List.{length-map}
use Rattle.rmi_codec.proofs.FaultLaws.{IsCommandFault-from_words, WordCount-from}
use Rattle.rmi_codec.proofs.PartLaws.{word_count-le}
use Rattle.rmi_codec.proofs.command.command_from.Goals as goal

pub returns-in_default-clause-only : goal.returns-in_default-clause-only
unfolding command_parts
returns-in_default-clause-only c = λ d _ e.
    absurd (c.in_default.ensures.none d.function _ e)

pub number_fault-requires : goal.number_fault-requires
number_fault-requires c = rw c.in_default.ensures.kept c.in_default.ensures.none

pub returns-in_err-words-clause-only : goal.returns-in_err-words-clause-only
unfolding command_parts
returns-in_err-words-clause-only c = λ d is e.
    let next = c.in-Some.ensures.found in
    let rest : c.next_function.new.self ≡ map word d.words.items = cc in
    let counted = is.counted in
    let few : length d.words.items ≤ 10 = omega (arith, word_count-le d.function) in
    let bad = c.in_err-words.ensures.only d.words.items is.words few rest in
    cc

pub returns-then-words-words_of-clause-only : goal.returns-then-words-words_of-clause-only
unfolding command_parts
returns-then-words-words_of-clause-only c = λ d is e.
    let next = c.in-Some.ensures.found in
    let rest : c.next_function.new.self ≡ map word d.words.items = cc in
    let counted = is.counted in
    let number : fixed_hex 8 (number_of c.in-Some.function) ≡ fixed_hex 8 (number_of d.function) = cc in
    let function : c.in-Some.function ≡ d.function = number_of-injective _ _ (fixed_hex-injective 8 _ _ (number_of-lt _) (number_of-lt _) number) in
    let items : c.in_ok-words.words.now ≡ d.words.items = map-word-injective _ _ (sym c.in_ok-words.ensures.found ∙ rest) in
    absurd (c.if-words-words_of.true (ap length items ∙ counted ∙ ap word_count (sym function) ∙ sym c.words_of.ensures))

pub returns-clause-found : goal.returns-clause-found
unfolding command_parts
returns-clause-found c =
    let next = c.in-Some.ensures.found in
    let words = c.in_ok-words.ensures.found in (
      record {
        counted = c.if-words-words_of.false ∙ c.words_of.ensures;
        words = c.in_ok-words.ensures.words;
      },
      cc,
    )

pub returns-clause-only : goal.returns-clause-only
unfolding command_parts
returns-clause-only c = λ d is e.
    let next = c.in-Some.ensures.found in
    let rest : c.next_function.new.self ≡ map word d.words.items = cc in
    let counted = is.counted in
    let number : fixed_hex 8 (number_of c.in-Some.function) ≡ fixed_hex 8 (number_of d.function) = cc in
    let function : c.in-Some.function ≡ d.function = number_of-injective _ _ (fixed_hex-injective 8 _ _ (number_of-lt _) (number_of-lt _) number) in
    let items : c.in_ok-words.words.now ≡ d.words.items = map-word-injective _ _ (sym c.in_ok-words.ensures.found ∙ rest) in
    λ i. record { function = function i; words = record { items = items i } }

pub returns-in_err-words-clause-fault : goal.returns-in_err-words-clause-fault
returns-in_err-words-clause-fault c =
    let p = err_from_is_err_and c.from_residual.result c.from_residual.ensures.1 in
    rw (p.1, p.2)
    (IsCommandFault-from_words c.in-Some.function _ c.next_function.new.self c.args.parts _ c.in-Some.ensures.found refl c.in_err-words.ensures.fault)

pub returns-then-words-words_of-clause-fault : goal.returns-then-words-words_of-clause-fault
returns-then-words-words_of-clause-fault c =
    WordCount-from c.in-Some.function _ c.next_function.new.self c.args.parts c.in-Some.ensures.found refl
    (λ e. c.if-words-words_of.true (sym (length-map c.in_ok-words.words.now word)
    ∙ ap length (sym c.in_ok-words.ensures.found) ∙ e ∙ sym c.words_of.ensures))
