-- The rows of a command ask what its conditions ask.
use Rattle.std.proofs.Common.{◌≡◌, ℕ, ◌-◌, ◌≤◌, ◌++◌, ◌&&◌, ◌==◌, Bool, true, false, not, nat_lt, nat_le, min, List, [], ◌∷◌, map, Option, Some, None, Result, Err, is_some, is_none, if◌then◌else◌, refl, sym, ◌∙◌, ap, arith}
use Rattle.std.specs.List.{AllByRecursion}
use Rattle.std.proofs.lemmas.Bool.Decides.{nat_tests}
use Rattle.rmm_spec.specs.declared.accepted.Accepted.{Accepted}
use Rattle.rmm_spec.specs.declared.call.Call.{Call}
use Rattle.rmm_spec.specs.declared.call.Call.TheVariants as call
use Rattle.rmm_spec.specs.declared.call.Removal.{Removal}
use Rattle.rmm_spec.specs.declared.condition.Condition.{Condition}
use Rattle.rmm_spec.specs.declared.condition.Condition.TheVariants as condition
use Rattle.rmm_spec.specs.declared.refusal.Refusal.{Refusal}
use Rattle.rmm_spec.specs.declared.refusal.Refusal.TheVariants as refusal
use Rattle.rmm_spec.specs.Lookup.{has_tag, is_inside, realm_at, rec_at, rec_inside}
use Rattle.rmm_spec.specs.Rows.{Needed, Row, Word, all_allowed, decided, inputs, tagged}
use Rattle.rmm_spec.specs.State.{State}
use Rattle.rmm_spec.specs.Step.{answer_of, is_placed, misplacement, outcome}
use Rattle.rmm_spec.specs.Step.Front.{with_front}
use Rattle.rmm_spec.specs.Step.Table.{left_condition, ripas_left}
use Rattle.rmm_spec.specs.Step.Terms.{Class, ByHost, ByRealm, ByExit, class_of, named, words_of}
use Rattle.rmm_spec.specs.Walk.{full, is_table, table_number, walk}
use Rattle.spec_lemmas.proofs.Behind.{behind}
use Rattle.reasons.specs.declared.asked.Asked.{Asked}
use Rattle.reasons.specs.Law.{condition_of, first_failing, refused_for}
use Rattle.reasons.specs.Lists.{conditions, own_conditions, place_conditions, tag_condition, word_conditions}
use Rattle.reasons.specs.Tests.{passes}
use Rattle.reasons.proofs.Words.{first_failing-words, first_word}

-- the condition of the first row that fails
abbrev pub first_row : List Row → Option Condition
first_row [] = None
first_row (row ∷ rows) = if row.holds then first_row rows else Some (condition_of row.otherwise)

refused_for-if : (b : Bool) (later : Result Accepted Refusal) (otherwise : Refusal)
    → refused_for (if b then later else Err otherwise) ≡ (if b then refused_for later else Some (condition_of otherwise))
refused_for-if true later otherwise = refl
refused_for-if false later otherwise = refl

if-same : (b : Bool) (here there : Option Condition) (other : Condition)
    → here ≡ there → (if b then here else Some other) ≡ (if b then there else Some other)
if-same true here there other same = same
if-same false here there other same = refl

-- what rows decide is refused for the first that fails
refused_for-decided : (rows : List Row) (accepted : Accepted) → refused_for (decided rows accepted) ≡ first_row rows
refused_for-decided [] accepted = refl
refused_for-decided (row ∷ rows) accepted =
    refused_for-if row.holds (decided rows accepted) row.otherwise
    ∙ if-same row.holds (refused_for (decided rows accepted)) (first_row rows) (condition_of row.otherwise) (refused_for-decided rows accepted)

if-both : (b : Bool) (here there : Option Condition) (other : Condition)
    → (b ≡ true → here ≡ there) → (if b then here else Some other) ≡ (if b then there else Some other)
if-both true here there other same = same refl
if-both false here there other same = refl

-- words are asked first, and what is asked after them is asked where they are allowed
first_row-inputs : (words : List Word) (rows : List Row) (later : Option Condition) → (all_allowed words ≡ true → first_row rows ≡ later)
    → first_row (inputs words rows) ≡ first_word words later
first_row-inputs [] rows later same = same refl
first_row-inputs (word ∷ words) rows later same =
    if-both word.allowed (first_row (inputs words rows)) (first_word words later) word.condition
    (λ here. first_row-inputs words rows later (λ others. same (rw here others)))

-- each granule has its tag
abbrev pub HaveTags : State → List Needed → Type 0
HaveTags s names = AllByRecursion (λ (n : Needed). has_tag s n.granule n.tag ≡ true) names

-- tags that are needed are asked for, and what is asked after them is asked where they are there
first_row-tagged : (s : State) (names : List Needed) (rows : List Row) (own : List Asked) → (HaveTags s names → first_row rows ≡ first_failing s own)
    → first_row (tagged s names rows) ≡ first_failing s (map tag_condition names ++ own)
unfolding passes
first_row-tagged s [] rows own same = same tt
first_row-tagged s (needed ∷ names) rows own same =
    if-both (has_tag s needed.granule needed.tag) (first_row (tagged s names rows))
    (first_failing s (map tag_condition names ++ own)) condition.GranState
    (λ here. first_row-tagged s names rows own (λ others. same (here, others)))

-- ---- the rows behind

fits : (level : ℕ) (later : Bool) → (nat_le level 3 && later) ≡ true → min (level - 1) 3 ≡ level - 1
fits level later allowed = by (nat_le level 3) later refl allowed
  where
    by : (b other : Bool) → nat_le level 3 ≡ b → (b && other) ≡ true → min (level - 1) 3 ≡ level - 1
    by true other is all = let within : level ≤ 3 = grind (arith, nat_tests, is) in omega (arith, within)
    by false other is all = absurd cc

rtt_create-same : (s : State) (cpu rd rtt ipa level : ℕ) → all_allowed (words_of (call.RttCreate rd rtt ipa level)) ≡ true
    → first_row (behind s cpu (call.RttCreate rd rtt ipa level)).0
    ≡ first_failing s (own_conditions (rec_inside s cpu) (call.RttCreate rd rtt ipa level))
unfolding behind own_conditions passes words_of
rtt_create-same s cpu rd rtt ipa level allowed =
    let realm = realm_at s rd in
    ap (λ (max : ℕ).
    if nat_lt realm.start_level level then
    if nat_lt ipa (full realm) then
    if (walk s rd ipa max).level == level - 1 then
    if not (is_table (walk s rd ipa max).entry) then None
    else Some condition.RtteState else Some condition.RttWalk else Some condition.IpaBound else Some condition.LevelBound)
    (sym (fits level _ allowed))

rtt_remove-same : (s : State) (cpu : ℕ) (removal : Removal) (rd ipa level : ℕ) → all_allowed (words_of (call.RttRemove removal rd ipa level)) ≡ true
    → first_row (behind s cpu (call.RttRemove removal rd ipa level)).0
    ≡ first_failing s (own_conditions (rec_inside s cpu) (call.RttRemove removal rd ipa level))
unfolding behind own_conditions passes words_of
rtt_remove-same s cpu removal rd ipa level allowed =
    let realm = realm_at s rd in
    ap (λ (max : ℕ).
    if nat_lt realm.start_level level then
    if nat_lt ipa (full realm) then
    if (walk s rd ipa max).level == level - 1 then
    if is_table (walk s rd ipa max).entry then
    if is_some (ripas_left removal s rd level (table_number level ipa)) then None
    else Some (left_condition removal) else Some condition.RtteState else Some condition.RttWalk
    else Some condition.IpaBound else Some condition.LevelBound)
    (sym (fits level _ allowed))

-- a realm that is there has its RECs
realm_destroy-same : (s : State) (cpu rd : ℕ) → HaveTags s (named (call.RealmDestroy rd))
    → first_row (behind s cpu (call.RealmDestroy rd)).0 ≡ first_failing s (own_conditions (rec_inside s cpu) (call.RealmDestroy rd))
unfolding behind own_conditions passes named
realm_destroy-same s cpu rd tags = rw tags.0 refl

-- whatever the command is
first_row-behind : (s : State) (cpu : ℕ) (c : Call) → all_allowed (words_of c) ≡ true → HaveTags s (named c)
    → first_row (behind s cpu c).0 ≡ first_failing s (own_conditions (rec_inside s cpu) c)
unfolding behind own_conditions passes
first_row-behind s cpu (call.RealmDestroy rd) allowed tags = realm_destroy-same s cpu rd tags
first_row-behind s cpu (call.RttCreate rd rtt ipa level) allowed tags = rtt_create-same s cpu rd rtt ipa level allowed
first_row-behind s cpu (call.RttRemove removal rd ipa level) allowed tags = rtt_remove-same s cpu removal rd ipa level allowed
first_row-behind s cpu _ allowed tags = refl

-- ---- where it is placed

-- what a command is refused for where it is placed
refused_for-answer : (s : State) (cpu : ℕ) (c : Call)
    → refused_for (answer_of s cpu c) ≡ first_failing s (word_conditions c ++ (map tag_condition (named c) ++ own_conditions (rec_inside s cpu) c))
refused_for-answer s cpu c =
    let rest = behind s cpu c in
    let own = own_conditions (rec_inside s cpu) c in
    ap refused_for rest.2 ∙ refused_for-decided (with_front s c rest.0) rest.1
    ∙ first_row-inputs (words_of c) (tagged s (named c) rest.0) (first_failing s (map tag_condition (named c) ++ own))
    (λ allowed. first_row-tagged s (named c) rest.0 own (first_row-behind s cpu c allowed))
    ∙ sym (first_failing-words s c (map tag_condition (named c) ++ own))

realm-placed : (inside idle : Bool) (answer : Result Accepted Refusal) (here : Option Condition) → refused_for answer ≡ here
    → refused_for (if inside && idle then answer else Err (refusal.Misplaced (if inside then condition.OwnPending else condition.OwnInside)))
    ≡ (if inside then (if idle then here else Some condition.OwnPending) else Some condition.OwnInside)
realm-placed true true answer here same = same
realm-placed true false answer here same = refl
realm-placed false idle answer here same = refl

if-answered : (placed : Bool) (answer : Result Accepted Refusal) (otherwise : Refusal) (here : Option Condition) → refused_for answer ≡ here
    → refused_for (if placed then answer else Err otherwise) ≡ (if placed then here else Some (condition_of otherwise))
if-answered true answer otherwise here same = same
if-answered false answer otherwise here same = refl

-- what one is refused for, by who gives it
refused_for-placed : (class : Class) (answer : Result Accepted Refusal) (s : State) (cpu : ℕ) (rest : List Asked)
    → refused_for answer ≡ first_failing s rest
    → refused_for (if is_placed s cpu class then answer else Err (refusal.Misplaced (misplacement (is_inside s cpu) class)))
    ≡ first_failing s (place_conditions class cpu (rec_inside s cpu) ++ rest)
unfolding passes
refused_for-placed ByHost answer s cpu rest same =
    if-answered (not (is_inside s cpu)) answer (refusal.Misplaced condition.OwnOutside) (first_failing s rest) same
refused_for-placed ByRealm answer s cpu rest same =
    realm-placed (is_inside s cpu) (is_none (rec_at s (rec_inside s cpu)).pending) answer (first_failing s rest) same
refused_for-placed ByExit answer s cpu rest same =
    if-answered (is_inside s cpu) answer (refusal.Misplaced condition.OwnInside) (first_failing s rest) same

-- the conditions of a command decide
pub refused_for-outcome : (s : State) (cpu : ℕ) (given : Call)
    → refused_for (outcome s cpu given) ≡ first_failing s (conditions cpu (rec_inside s cpu) given)
unfolding outcome conditions
refused_for-outcome s cpu given =
    refused_for-placed (class_of given) (answer_of s cpu given) s cpu
    (word_conditions given ++ (map tag_condition (named given) ++ own_conditions (rec_inside s cpu) given))
    (refused_for-answer s cpu given)
