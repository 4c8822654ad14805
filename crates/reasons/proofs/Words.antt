-- The conditions on words ask what its words have to say.
use Rattle.std.proofs.Common.{◌≡◌, ℕ, ◌+◌, ◌-◌, ◌*◌, ◌^◌, ◌++◌, ◌&&◌, Bool, true, false, nat_le, min, List, [], ◌∷◌, Option, Some, None, if◌then◌else◌, refl, sym, ◌∙◌, ap, arith}
use Rattle.rmm_spec.specs.declared.call.Call.{Call}
use Rattle.rmm_spec.specs.declared.call.Call.TheVariants as call
use Rattle.rmm_spec.specs.declared.condition.Condition.{Condition}
use Rattle.rmm_spec.specs.declared.condition.Condition.TheVariants as condition
use Rattle.rmm_spec.specs.Rows.{Word, all_allowed}
use Rattle.rmm_spec.specs.State.{State}
use Rattle.rmm_spec.specs.Step.Terms.{words_of}
use Rattle.rmm_spec.specs.Walk.{entry_size, is_multiple}
use Rattle.reasons.specs.declared.asked.Asked.{Asked}
use Rattle.reasons.specs.Law.{AllPass, first_failing}
use Rattle.reasons.specs.Lists.{word_conditions}
use Rattle.reasons.specs.Tests.{passes}
use Rattle.reasons.proofs.First.{AllPass-append, first_failing-none}

-- the first of some words that isn't allowed, or else what is found behind them
abbrev pub first_word : List Word → Option Condition → Option Condition
first_word [] later = later
first_word (word ∷ words) later = if word.allowed then first_word words later else Some word.condition

-- tests that have one name are one
if-two : (a b : Bool) (later other : Option Condition) → (if a then if b then later else other else other) ≡ (if a && b then later else other)
if-two true b later other = refl
if-two false b later other = refl

if-three : (a b c : Bool) (later other : Option Condition)
    → (if a then if b then if c then later else other else other else other) ≡ (if a && b && c then later else other)
if-three true true c later other = refl
if-three true false c later other = refl
if-three false b c later other = refl

-- past level 3 entries are as large as there
entry-last : (level : ℕ) → entry_size (min level 3) ≡ entry_size level
unfolding entry_size
entry-last level = let same : 3 - min level 3 ≡ 3 - level = omega arith in ap (λ (n : ℕ). 2 ^ (12 + 9 * n)) same

level-same : (level unit ipa : ℕ) (later : Option Condition)
    → (if nat_le level 3 then if is_multiple ipa (entry_size (min unit 3)) then later else Some condition.IpaAlign else Some condition.LevelBound)
    ≡ (if nat_le level 3 then if is_multiple ipa (entry_size unit) then later else Some condition.IpaAlign else Some condition.LevelBound)
level-same level unit ipa later =
    ap (λ (size : ℕ). if nat_le level 3 then if is_multiple ipa size then later else Some condition.IpaAlign else Some condition.LevelBound)
    (entry-last unit)

if-two-next : (a b c : Bool) (later other first : Option Condition)
    → (if a then if b then if c then later else other else other else first) ≡ (if a then if b && c then later else other else first)
if-two-next true b c later other first = if-two b c later other
if-two-next false b c later other first = refl

-- the first that fails is that of the first word that isn't allowed
pub first_failing-words : (s : State) (c : Call) (rest : List Asked)
    → first_failing s (word_conditions c ++ rest) ≡ first_word (words_of c) (first_failing s rest)
unfolding passes word_conditions words_of
first_failing-words s (call.GranuleDelegate granule) rest = refl
first_failing-words s _ rest = first_of (assumption, search (if-three, if-two-next, level-same))

-- where none is found, each is allowed
allowed-none : (words : List Word) → first_word words None ≡ None → all_allowed words ≡ true
allowed-none [] none = refl
allowed-none (word ∷ words) none = by word.allowed (allowed-none words) none
  where
    by : (b : Bool) → (first_word words None ≡ None → all_allowed words ≡ true) → (if b then first_word words None else Some word.condition) ≡ None
        → (b && all_allowed words) ≡ true
    by true others none = others none
    by false others none = absurd cc

-- where each condition on them passes, its words are allowed
pub allowed-pass : (s : State) (c : Call) → AllPass s (word_conditions c) → all_allowed (words_of c) ≡ true
allowed-pass s c pass =
    allowed-none (words_of c)
    (sym (first_failing-words s c []) ∙ first_failing-none s (word_conditions c ++ []) (AllPass-append s (word_conditions c) [] pass tt))
