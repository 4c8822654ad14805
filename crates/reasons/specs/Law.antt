-- What the conditions of a command decide.
use Rattle.std.specs.Prelude.{◌≡◌, ◌⊎◌, ℕ, true, false, List, [], ◌∷◌, slice_index, Option, Some, None, MatchOption, Result, Ok, Err, if◌then◌else◌}
use Rattle.std.specs.List.{AllByRecursion}
use Rattle.rmm_spec.specs.declared.accepted.Accepted.{Accepted}
use Rattle.rmm_spec.specs.declared.condition.Condition.{Condition}
use Rattle.rmm_spec.specs.declared.refusal.Refusal.{Refusal}
use Rattle.rmm_spec.specs.declared.refusal.Refusal.TheVariants as refusal
use Rattle.rmm_spec.specs.State.{State}
use Rattle.reasons.specs.declared.asked.Asked.{Asked}
use Rattle.reasons.specs.declared.test.Test.{Test}
use Rattle.reasons.specs.declared.test.Test.TheVariants as test
use Rattle.reasons.specs.declared.test.WordTest.{WordTest}
use Rattle.reasons.specs.declared.test.WordTest.TheVariants as of_words
use Rattle.reasons.specs.Tests.{passes}

-- the condition for which a command is refused
abbrev pub condition_of : Refusal → Condition
condition_of (refusal.Misplaced condition) = condition
condition_of (refusal.Input condition) = condition
condition_of (refusal.Realm condition index) = condition
condition_of (refusal.Rec condition) = condition
condition_of (refusal.Rtt condition level) = condition

-- the condition for which an answer is a refusal, if it is one
abbrev pub refused_for : Result Accepted Refusal → Option Condition
refused_for (Ok accepted) = None
refused_for (Err refused) = Some (condition_of refused)

-- the first of the conditions that fails in the state
abbrev pub first_failing : State → List Asked → Option Condition
first_failing s [] = None
first_failing s (asked ∷ others) = if passes s asked.test then first_failing s others else Some asked.condition

-- the test of the first of them that fails, which has this name
abbrev pub IsFirst : State → List Asked → Condition → Test → Type 0
IsFirst s [] condition test = ⊥
IsFirst s (asked ∷ others) condition test =
    ((passes s asked.test ≡ true) × IsFirst s others condition test)
    ⊎ ((passes s asked.test ≡ false) × (asked ≡ record { condition = condition; test = test }))

-- each of them passes
abbrev pub AllPass : State → List Asked → Type 0
AllPass s list = AllByRecursion (λ (asked : Asked). passes s asked.test ≡ true) list

-- what is found is the first of them that fails, and nothing where each passes
abbrev pub IsFound : State → List Asked → Option Asked → Type 0
IsFound s list found = MatchOption found (AllPass s list) (λ (asked : Asked). IsFirst s list asked.condition asked.test)

-- ---- which words are asked

-- a word that is compared with another one is compared with the word at that place
abbrev pub IsWithOther : List ℕ → WordTest → Type 0
IsWithOther words (of_words.RootOf width) = slice_index words 2 ≡ width
IsWithOther words (of_words.BelowWord index other) = slice_index words index ≡ other
IsWithOther words (of_words.Apart index other) = slice_index words index ≡ other
IsWithOther words _ = Unit {0}

-- what is asked of a word is asked of the word at its place; a hash is asked of REALM_CREATE's last
abbrev pub IsOfWords : List ℕ → Test → Type 0
IsOfWords words (test.OfWord index word asked) = (slice_index words index ≡ word) × IsWithOther words asked
IsOfWords words (test.Hash algo) = slice_index words 5 ≡ algo
IsOfWords words _ = Unit {0}

abbrev pub AreOfWords : List ℕ → List Asked → Type 0
AreOfWords words list = AllByRecursion (λ (asked : Asked). IsOfWords words asked.test) list
