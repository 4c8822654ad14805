-- What a condition asks of a word, it asks of the command's word at that place.
use Rattle.std.proofs.Common.{ℕ, List, [], ◌∷◌, ◌++◌, map}
use Rattle.spec_lemmas.proofs.Texts.{AllByRecursion-append}
use Rattle.rmm_spec.specs.declared.function_id.FunctionId.{FunctionId}
use Rattle.rmm_spec.specs.declared.function_id.FunctionId.TheVariants as function
use Rattle.rmm_spec.specs.Call.{call_from}
use Rattle.rmm_spec.specs.Rows.{Needed}
use Rattle.rmm_spec.specs.Step.Terms.{Class, ByHost, ByRealm, ByExit, class_of, named}
use Rattle.reasons.specs.declared.asked.Asked.{Asked}
use Rattle.reasons.specs.Law.{AreOfWords, IsOfWords}
use Rattle.reasons.specs.Lists.{conditions, own_conditions, place_conditions, tag_condition, word_conditions}

of_words : (function : FunctionId) (w : List ℕ) → AreOfWords w (word_conditions (call_from function w))
unfolding word_conditions call_from
of_words function.GranuleDelegate w = assumption
of_words _ w = assumption

of_own : (function : FunctionId) (w : List ℕ) (rec : ℕ) → AreOfWords w (own_conditions rec (call_from function w))
unfolding own_conditions call_from
of_own function.GranuleDelegate w rec = assumption
of_own _ w rec = assumption

of_place : (words : List ℕ) (class : Class) (cpu rec : ℕ) → AreOfWords words (place_conditions class cpu rec)
of_place words ByHost cpu rec = (tt, tt)
of_place words ByRealm cpu rec = (tt, (tt, tt))
of_place words ByExit cpu rec = (tt, tt)

of_tags : (words : List ℕ) (names : List Needed) → AreOfWords words (map tag_condition names)
of_tags words [] = tt
of_tags words (needed ∷ names) = (tt, of_tags words names)

-- of all conditions of a command
pub words-asked : (function : FunctionId) (w : List ℕ) (cpu rec : ℕ) → AreOfWords w (conditions cpu rec (call_from function w))
unfolding conditions
words-asked function w cpu rec =
    let given = call_from function w in
    let says = λ (asked : Asked). IsOfWords w asked.test in
    let places = place_conditions (class_of given) cpu rec in
    let tags = map tag_condition (named given) in
    let own = own_conditions rec given in
    AllByRecursion-append says places (word_conditions given ++ (tags ++ own)) (of_place w (class_of given) cpu rec)
    (AllByRecursion-append says (word_conditions given) (tags ++ own) (of_words function w)
    (AllByRecursion-append says tags own (of_tags w (named given)) (of_own function w rec)))
