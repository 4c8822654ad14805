-- A script that is replayed to a state is a run that leads there.
use Rattle.rmm_laws.proofs.Common.{◌&&◌, ◌+◌, ◌<◌, ◌==◌, ◌∙◌, ◌∷◌, ◌≡◌, Accepted, Bool, Err, IsRun, IsTrue, JournalEntry, List, None, Ok, Option, Refusal, Reply, Result, Some, State, [], and_parts, ap, arith, both_ways, changed, eq-eqb, eqb-true, false, if◌then◌else◌, inl, inr, is_some, ok, opening, outcome, reached_change, refl, suc, sym, true, zero, ℕ}
use Rattle.std.proofs.Common.{◌-◌, ◌*◌, ◌/◌, ◌%◌, ◌^◌, ◌≤◌, option_map, nat_lt, nat_le, ap₂}
use Rattle.std.proofs.Math.Nat.{div-add-mod, mul-mod_left, mul-div_cancel}
use Rattle.std.proofs.lemmas.Nat.{pow_pos}
use Rattle.std.proofs.lemmas.Bool.{and_from}
use Rattle.std.proofs.lemmas.Bool.Decides.{nat_tests}
use Rattle.std.specs.List.{AllByRecursion}
use Rattle.std.specs.Option.{option_and_then}
use Rattle.rmm_spec.specs.declared.accepted.Accepted.TheVariants.{Done, Reaches}
use Rattle.rmm_spec.specs.declared.accepted.Stretch.{Stretch}
use Rattle.rmm_spec.specs.declared.reply.Reply.TheVariants as reply
use Rattle.rmm_spec.specs.Call.{call_of}
use Rattle.rmm_spec.specs.HistoryText.{Config}
use Rattle.rmm_spec.specs.Rows.{reply_of}
use Rattle.rmm_spec.specs.Script.{are_same_words, is_same_reply, end_among, end_given, next_by, replay}
use Rattle.rmm_spec.specs.Lookup.{all_below}
use Rattle.rmm_spec.specs.Step.{CarriesOut}
use Rattle.rmm_spec.specs.Step.Ripas.{can_be_set, IsReached, is_reached}
use Rattle.rmm_spec.specs.Walk.{entry_size, table_size, entry_number, table_number, entry_at, is_multiple}
use Rattle.rmm_laws.specs.Worked.{AreRuns}
use Rattle.rmm_laws.proofs.Tests.{last_or_below}

-- what is chosen is there where the test holds
if_some : {A : Type 0} (b : Bool) (x y : A) → (if b then Some x else None) ≡ Some y → (b ≡ true) × (x ≡ y)
if_some true x y is = (refl, let same : Some x ≡ Some y = is in cc)
if_some false x y is = absurd (let bad : None ≡ Some y = is in cc)

-- ---- replies that are the same

are_same_words-same : (a b : List ℕ) → are_same_words a b ≡ true → a ≡ b
are_same_words-same [] [] same = refl
are_same_words-same (x ∷ xs) (y ∷ ys) same =
    let parts = and_parts (x == y) (are_same_words xs ys) same in
    ap₂ (λ (h : ℕ) (t : List ℕ). h ∷ t) (eqb-true x y parts.0) (are_same_words-same xs ys parts.1)
are_same_words-same [] (y ∷ ys) same = both_ways same refl
are_same_words-same (x ∷ xs) [] same = both_ways same refl

is_same_reply-same : (a b : Reply) → is_same_reply a b ≡ true → a ≡ b
is_same_reply-same (reply.Ok a) (reply.Ok b) same = ap (λ words. ok words) (are_same_words-same a.items b.items same)
is_same_reply-same (reply.Err a i) (reply.Err b j) same =
    let parts = and_parts (a == b) (i == j) same in ap₂ reply.Err (eqb-true a b parts.0) (eqb-true i j parts.1)
is_same_reply-same reply.Misplaced reply.Misplaced same = refl
is_same_reply-same _ _ same = both_ways same refl

-- ---- ends that are allowed

all_below-each : (n : ℕ) (passes : ℕ → Bool) → all_below n passes ≡ true → (k : ℕ) → k < n → IsTrue (passes k)
all_below-each zero passes all k below = absurd (omega arith)
all_below-each (suc n) passes all k below =
    let parts = and_parts (passes n) (all_below n passes) all in
    elim (last_or_below k n below) [ inl here ↦ rw here parts.0 | inr less ↦ all_below-each n passes parts.1 k less ]

-- so many units are more than none
counted : (n size d : ℕ) → size * n ≡ d → 0 < d → 1 ≤ n
counted zero size d whole some = absurd (omega arith)
counted (suc n) size d whole some = omega arith

-- what the test allows is an end
pub is_reached-reached : (s : State) (stretch : Stretch) (top : ℕ) → is_reached s stretch top ≡ true → IsReached s stretch top
unfolding is_reached
is_reached-reached s stretch top reached =
    let size = entry_size stretch.level in
    let d = top - stretch.base in
    let n = d / size in
    let first = nat_lt stretch.base top in
    let second = is_multiple d size in
    let third = nat_le top stretch.top in
    let fourth = nat_le top ((table_number stretch.level stretch.base + 1) * table_size stretch.level) in
    let fifth = all_below n (λ k. can_be_set stretch.purpose (entry_at s stretch.rd stretch.level (entry_number stretch.level stretch.base + k))) in
    let to_fifth = and_parts (first && second && third && fourth) fifth reached in
    let to_fourth = and_parts (first && second && third) fourth to_fifth.0 in
    let to_third = and_parts (first && second) third to_fourth.0 in
    let to_second = and_parts first second to_third.0 in
    let above : stretch.base < top = grind (arith, nat_tests, to_second.0) in
    let multiple : d % size ≡ 0 = grind (arith, nat_tests, to_second.1) in
    let split : size * n + d % size ≡ d = div-add-mod d size in
    let whole : size * n ≡ d = omega arith in
    record {
      count = n;
      some = counted n size d whole (omega arith);
      is_end = omega arith;
      within = grind (arith, nat_tests, to_third.1);
      in_table = grind (arith, nat_tests, to_fourth.1);
      each = all_below-each n _ to_fifth.1;
    }

end_among-one : (words : List ℕ) (is_allowed : ℕ → Bool) (top : ℕ)
    → end_among words is_allowed ≡ Some top → (words ≡ top ∷ []) × (is_allowed top ≡ true)
end_among-one [] is_allowed top is = absurd (let bad : None ≡ Some top = is in cc)
end_among-one (word ∷ []) is_allowed top is =
    let found = if_some (is_allowed word) word top is in (ap (λ w. w ∷ []) found.1, rw (← found.1) found.0)
end_among-one (word ∷ (other ∷ others)) is_allowed top is = absurd (let bad : None ≡ Some top = is in cc)

end_given-ok : (given : Reply) (is_allowed : ℕ → Bool) (top : ℕ)
    → end_given given is_allowed ≡ Some top → (given ≡ ok (top ∷ [])) × (is_allowed top ≡ true)
end_given-ok (reply.Ok words) is_allowed top is =
    let found = end_among-one words.items is_allowed top is in (ap (λ items. ok items) found.0, found.1)
end_given-ok (reply.Err status index) is_allowed top is = absurd (let bad : None ≡ Some top = is in cc)
end_given-ok reply.Misplaced is_allowed top is = absurd (let bad : None ≡ Some top = is in cc)

-- ---- steps and runs

mapped_some : (f : ℕ → State) (found : Option ℕ) (next : State) → option_map f found ≡ Some next → (x : ℕ) × (found ≡ Some x) × (next ≡ f x)
mapped_some f None next is = absurd (let bad : None ≡ Some next = is in cc)
mapped_some f (Some x) next is = (x, refl, let same : Some (f x) ≡ Some next = is in cc)

next_by-carries : (found : Result Accepted Refusal) (s : State) (given : Reply) (next : State)
    → next_by found s given ≡ Some next → CarriesOut found s given next
next_by-carries (Err refusal) s given next is =
    let found = if_some (is_same_reply given (reply_of refusal)) s next is in (is_same_reply-same given (reply_of refusal) found.0, sym found.1)
next_by-carries (Ok (Done words change)) s given next is =
    let found = if_some (is_same_reply given (reply.Ok words)) (changed s change) next is in
    (is_same_reply-same given (reply.Ok words) found.0, sym found.1)
next_by-carries (Ok (Reaches stretch)) s given next is =
    let found = mapped_some (λ top. changed s (reached_change stretch top)) (end_given given (is_reached s stretch)) next is in
    let end = end_given-ok given (is_reached s stretch) found.0 found.1 in
    (found.0, (is_reached-reached s stretch found.0 end.1, end.0, found.2))

then_some : (f : State → Option State) (found : Option State) (last : State)
    → option_and_then f found ≡ Some last → (next : State) × (found ≡ Some next) × (f next ≡ Some last)
then_some f None last is = absurd (let bad : None ≡ Some last = is in cc)
then_some f (Some next) last is = (next, refl, is)

-- what is replayed to a state is a run to it
pub replay-run : (entries : List JournalEntry) (old last : State) → replay old entries ≡ Some last → IsRun old entries last
unfolding replay
replay-run [] old last is = let same : Some old ≡ Some last = is in cc
replay-run (entry ∷ entries) old last is =
    let found = next_by (outcome old entry.cpu (call_of entry.command)) old entry.given in
    let parts = then_some (λ next. replay next entries) found last is in (
      parts.0,
      next_by-carries (outcome old entry.cpu (call_of entry.command)) old entry.given parts.0 parts.1,
      replay-run entries parts.0 last parts.2,
    )

some_run : (old : State) (entries : List JournalEntry) (found : Option State)
    → replay old entries ≡ found → is_some found ≡ true → (last : State) × IsRun old entries last
some_run old entries None is there = both_ways there refl
some_run old entries (Some last) is there = (last, replay-run entries old last is)

-- what is replayed is a run
pub replayed-run : (old : State) (entries : List JournalEntry) → is_some (replay old entries) ≡ true → (last : State) × IsRun old entries last
replayed-run old entries there = some_run old entries (replay old entries) refl there

-- the machine gives each reply of scripts, or of none
abbrev pub AreReplayed : Config → Bool → List (List JournalEntry) → Type 0
AreReplayed config all scripts = AllByRecursion (λ (entries : List JournalEntry). is_some (replay (opening config) entries) ≡ all) scripts

pub replayed-runs : (config : Config) (scripts : List (List JournalEntry)) → AreReplayed config true scripts → AreRuns config scripts
replayed-runs config [] all = tt
replayed-runs config (entries ∷ scripts) all = (replayed-run (opening config) entries all.0, replayed-runs config scripts all.1)

-- ---- and a run is replayed

are_same_words-itself : (a : List ℕ) → are_same_words a a ≡ true
are_same_words-itself [] = refl
are_same_words-itself (x ∷ xs) = and_from (x == x) (are_same_words xs xs) (eq-eqb x x refl) (are_same_words-itself xs)

is_same_reply-itself : (a : Reply) → is_same_reply a a ≡ true
is_same_reply-itself (reply.Ok a) = are_same_words-itself a.items
is_same_reply-itself (reply.Err a i) = and_from (a == a) (i == i) (eq-eqb a a refl) (eq-eqb i i refl)
is_same_reply-itself reply.Misplaced = refl

all_below-from : (n : ℕ) (passes : ℕ → Bool) → ((k : ℕ) → k < n → IsTrue (passes k)) → all_below n passes ≡ true
all_below-from zero passes each = refl
all_below-from (suc n) passes each =
    and_from (passes n) (all_below n passes) (each n (omega arith)) (all_below-from n passes (λ k below. each k (omega arith)))

-- some units of some size are something
some_units : (count size : ℕ) → 1 ≤ count → 0 < size → 0 < count * size
some_units zero size some unit = absurd (omega arith)
some_units (suc n) size some unit = omega arith

-- each end passes the test
pub reached-is_reached : (s : State) (stretch : Stretch) (top : ℕ) → IsReached s stretch top → is_reached s stretch top ≡ true
unfolding is_reached entry_size
reached-is_reached s stretch top r =
    let size = 2 ^ (12 + 9 * (3 - stretch.level)) in
    let d = top - stretch.base in
    let unit : 0 < size = pow_pos (12 + 9 * (3 - stretch.level)) in
    let some : 0 < r.count * size = some_units r.count size r.some unit in
    let end = r.is_end in
    let whole : d ≡ r.count * size = omega arith in
    let above : stretch.base < top = omega arith in
    let within = r.within in
    let in_table = r.in_table in
    let first : nat_lt stretch.base top ≡ true = grind (arith, nat_tests) in
    let second : is_multiple d size ≡ true = eq-eqb (d % size) 0 (ap (λ x. x % size) whole ∙ mul-mod_left r.count size) in
    let third : nat_le top stretch.top ≡ true = grind (arith, nat_tests) in
    let fourth : nat_le top ((table_number stretch.level stretch.base + 1) * table_size stretch.level) ≡ true = grind (arith, nat_tests) in
    let passes = λ (k : ℕ). can_be_set stretch.purpose (entry_at s stretch.rd stretch.level (entry_number stretch.level stretch.base + k)) in
    let number : d / size ≡ r.count = ap (λ x. x / size) whole ∙ mul-div_cancel r.count unit in
    let fifth : all_below (d / size) passes ≡ true = rw number (all_below-from r.count passes r.each) in
    and_from _ (all_below (d / size) passes) (and_from _ (nat_le top ((table_number stretch.level stretch.base + 1) * table_size stretch.level))
    (and_from _ (nat_le top stretch.top) (and_from (nat_lt stretch.base top) (is_multiple d size) first second) third) fourth) fifth

carries-next_by : (found : Result Accepted Refusal) (s : State) (given : Reply) (next : State)
    → CarriesOut found s given next → next_by found s given ≡ Some next
carries-next_by (Err refusal) s given next p = rw (p.0, p.1) (rw (is_same_reply-itself (reply_of refusal)) refl)
carries-next_by (Ok (Done words change)) s given next p = rw (p.0, p.1) (rw (are_same_words-itself words.items) refl)
carries-next_by (Ok (Reaches stretch)) s given next (top, (reached, is_ok, is_next)) =
    rw (is_ok, is_next) (rw (reached-is_reached s stretch top reached) refl)

-- a run is replayed to its end
pub run-replay : (entries : List JournalEntry) (old last : State) → IsRun old entries last → replay old entries ≡ Some last
unfolding replay
run-replay [] old last run = ap Some (sym run)
run-replay (entry ∷ entries) old last (next, step, run) =
    ap (option_and_then (λ n. replay n entries)) (carries-next_by (outcome old entry.cpu (call_of entry.command)) old entry.given next step)
    ∙ run-replay entries next last run

-- what isn't replayed is no run
pub no_replay-no_run : (old : State) (entries : List JournalEntry)
    → is_some (replay old entries) ≡ false → (last : State) → IsRun old entries last → ⊥
no_replay-no_run old entries none last run = both_ways (rw (run-replay entries old last run) refl) none
