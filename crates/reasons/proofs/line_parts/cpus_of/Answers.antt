use Rattle.std.proofs.Common.{◌≡◌, ℕ, Bor, List, [], ◌∷◌, get_or, Option, Some, None, sym, ap, subst, ◌∙◌, arith}
use Rattle.std.specs.Prelude.{IfSome, IfNone}
use Rattle.rmm_spec.specs.HistoryText.{Config, mark}
use Rattle.rmm_spec.specs.Text.{decimal}
use Rattle.spec_lemmas.proofs.Texts.{decimal-injective}
use Rattle.reasons.specs.Wrong.{IsHeaderOf}
use Rattle.reasons.proofs.line_parts.cpus_of.Goals as goal

-- what is left behind the first part
left_behind : (old new : List (List ℕ)) (taken : Option (Bor (List ℕ))) (first : List ℕ) (rest : List (List ℕ))
    → IfSome taken (λ part. old ≡ part.now ∷ new) → IfNone taken (old ≡ []) → old ≡ first ∷ rest → new ≡ rest
left_behind old new None first rest some none e = let bad : [] ≡ first ∷ rest = sym none ∙ e in absurd (cc)
left_behind old new (Some part) first rest some none e = let both : part.now ∷ new ≡ first ∷ rest = sym some ∙ e in cc

same_number : (left rest : List (List ℕ)) (n m : ℕ) → left ≡ decimal n ∷ rest → left ≡ decimal m ∷ [] → n ≡ m
same_number left rest n m found e = decimal-injective n m (ap (λ ps. get_or ps 0 []) (sym found ∙ e))

-- behind two parts of a header its CPUs are left
cpus_left : (header middle left : List (List ℕ)) (first second : Option (Bor (List ℕ))) (config : Config) → IsHeaderOf header config
    → IfSome first (λ part. header ≡ part.now ∷ middle) → IfNone first (header ≡ [])
    → IfSome second (λ part. middle ≡ part.now ∷ left) → IfNone second (middle ≡ []) → left ≡ decimal config.cpus ∷ []
cpus_left header middle left first second config h some none some-2 none-2 =
    left_behind middle left second (decimal config.granules) (decimal config.cpus ∷ []) some-2 none-2
    (left_behind header middle first (mark config.version) (decimal config.granules ∷ decimal config.cpus ∷ []) some none h.1)

pub returns-in-Some : goal.returns-in-Some
returns-in-Some c = λ config h.
    let header = subst (λ ps. IsHeaderOf ps config) (sym c.of-parts.ensures) h in
    same_number c.next_part-granules.new.self c.number_below.new.parts c.in-Some.cpus config.cpus c.in-Some.ensures.found
    (cpus_left c.of-parts.result c.next_part-format.new.self c.next_part-granules.new.self
    c.next_part-format.result c.next_part-granules.result config header
    c.next_part-format.ensures.next c.next_part-format.ensures.over c.next_part-granules.ensures.next c.next_part-granules.ensures.over)

pub returns-in-None : goal.returns-in-None
returns-in-None c = λ config h.
    let header = subst (λ ps. IsHeaderOf ps config) (sym c.of-parts.ensures) h in
    absurd (c.in-None.ensures.none config.cpus [] (omega (arith, h.0.most_cpus))
    (cpus_left c.of-parts.result c.next_part-format.new.self c.next_part-granules.new.self
    c.next_part-format.result c.next_part-granules.result config header
    c.next_part-format.ensures.next c.next_part-format.ensures.over c.next_part-granules.ensures.next c.next_part-granules.ensures.over))
