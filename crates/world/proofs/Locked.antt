-- Locks that are taken and freed: each still has for holder the CPU that has taken it.
use Rattle.world.proofs.Common.{◌++◌, ◌+◌, ◌<◌, ◌==◌, ◌∙◌, ◌∷◌, ◌≡◌, Bool, Contains, IsTrue, List, None, Option, Some, [], ap, are_distinct, eq-eqb, eqb-true, false, false≢true, get_or, if◌then◌else◌, length, put, refl, subst, sym, take, true, ℕ}
use Rattle.std.proofs.Common.{not, ◌&&◌, ◌||◌}
use Rattle.std.specs.List.{All, AllByRecursion, list_all}
use Rattle.std.proofs.lemmas.List.Elements.{All-from_recursion, All-contains}
use Rattle.std.proofs.lemmas.Bool.{and_parts, and_from, not-true}
use Rattle.std.proofs.lemmas.List.{take_more}
use Rattle.std.proofs.lemmas.List.Folds.{list_any-append, list_any_at}
use Rattle.rmm_spec.specs.Lookup.{is_granule, is_cpu}
use Rattle.rmm_spec.specs.World.{without_granule}
use Rattle.lemmas.proofs.Tests.{both_ways, and_second-fails, apart}
use Rattle.spec_lemmas.proofs.Maps.{put_elim}
use Rattle.command_core.proofs.Distinct.{distinct-push}
use Rattle.world.specs.Kept.{AreLocks, has_taken, freed_all}
use Rattle.lemmas.proofs.Members.{Contains-head, Contains-tail}

-- one that is among them is a member
pub taken-contains : (taken : List ℕ) (granule : ℕ) → has_taken taken granule ≡ true → Contains taken granule
taken-contains [] granule has = absurd (false≢true has)
taken-contains (lock ∷ taken) granule has = by (lock == granule) refl (taken-contains taken granule) has
  where
    by : (b : Bool) → (lock == granule) ≡ b → (has_taken taken granule ≡ true → Contains taken granule) → (b || has_taken taken granule) ≡ true
        → Contains (lock ∷ taken) granule
    by true same rest here = subst (Contains (lock ∷ taken)) (eqb-true lock granule same) (Contains-head lock taken)
    by false apart rest here = Contains-tail lock taken granule (rest here)

-- a member is among them
pub contains-taken : (taken : List ℕ) (granule : ℕ) → Contains taken granule → has_taken taken granule ≡ true
contains-taken taken granule has = list_any_at (λ lock. lock == granule) taken has.0 granule has.1 (eq-eqb (get_or taken has.0 granule) granule has.2)

or_true : (b : Bool) → (b || (true || false)) ≡ true
or_true true = refl
or_true false = refl

or_false : (b : Bool) → (b || (false || false)) ≡ b
or_false true = refl
or_false false = refl

-- ---- freeing one

has_taken-without : (taken : List ℕ) (granule other : ℕ)
    → has_taken (without_granule granule taken) other ≡ (not (other == granule) && has_taken taken other)
has_taken-without [] granule other = sym (and_second-fails (not (other == granule)) false refl)
has_taken-without (lock ∷ taken) granule other =
    by (lock == granule) (other == granule) (lock == other) refl refl refl (has_taken-without taken granule other)
  where
    by : (a b c : Bool) → (lock == granule) ≡ a → (other == granule) ≡ b → (lock == other) ≡ c
        → has_taken (without_granule granule taken) other ≡ (not (other == granule) && has_taken taken other)
        → has_taken (if not a then lock ∷ without_granule granule taken else without_granule granule taken) other
        ≡ (not b && (c || has_taken taken other))
    by true true c first second third rest = rest ∙ rw second refl
    by true false true first second third rest =
        both_ways (eq-eqb other granule (sym (eqb-true lock other third) ∙ eqb-true lock granule first)) second
    by true false false first second third rest = rest ∙ rw second refl
    by false true true first second third rest = both_ways (eq-eqb lock granule (eqb-true lock other third ∙ eqb-true other granule second)) first
    by false true false first second third rest = rw third (rest ∙ rw second refl)
    by false false true first second third rest = rw third refl
    by false false false first second third rest = rw third (rest ∙ rw second refl)

list_all-without : (p : ℕ → Bool) (taken : List ℕ) (granule : ℕ) → IsTrue (list_all p taken) → IsTrue (list_all p (without_granule granule taken))
list_all-without p [] granule all = refl
list_all-without p (lock ∷ taken) granule all =
    let parts = and_parts (p lock) (list_all p taken) all in
    by (lock == granule) (list_all-without p taken granule parts.1) parts.0
  where
    by : (b : Bool) → IsTrue (list_all p (without_granule granule taken)) → IsTrue (p lock)
        → IsTrue (list_all p (if not b then lock ∷ without_granule granule taken else without_granule granule taken))
    by true rest here = rest
    by false rest here = and_from (p lock) (list_all p (without_granule granule taken)) here rest

distinct-without : (taken : List ℕ) (granule : ℕ) → IsTrue (are_distinct taken) → IsTrue (are_distinct (without_granule granule taken))
distinct-without [] granule distinct = refl
distinct-without (lock ∷ taken) granule distinct =
    let parts = and_parts (not (has_taken taken lock)) (are_distinct taken) distinct in
    by (lock == granule) (distinct-without taken granule parts.1) (not-true (has_taken taken lock) parts.0)
  where
    by : (b : Bool) → IsTrue (are_distinct (without_granule granule taken)) → has_taken taken lock ≡ false
        → IsTrue (are_distinct (if not b then lock ∷ without_granule granule taken else without_granule granule taken))
    by true rest none = rest
    by false rest none =
        let gone : has_taken (without_granule granule taken) lock ≡ false =
        has_taken-without taken granule lock ∙ and_second-fails (not (lock == granule)) (has_taken taken lock) none in
        and_from (not (has_taken (without_granule granule taken) lock)) (are_distinct (without_granule granule taken)) (ap not gone) rest

-- ---- who holds what

list_all-push : (p : ℕ → Bool) (taken : List ℕ) (granule : ℕ)
    → IsTrue (list_all p taken) → IsTrue (p granule) → IsTrue (list_all p (taken ++ granule ∷ []))
list_all-push p [] granule all here = and_from (p granule) true here refl
list_all-push p (lock ∷ taken) granule all here =
    let parts = and_parts (p lock) (list_all p taken) all in
    and_from (p lock) (list_all p (taken ++ granule ∷ [])) parts.0 (list_all-push p taken granule parts.1 here)

-- a CPU takes a lock that nobody holds
pub AreLocks-taken : (granules : ℕ) (taken : ℕ → List ℕ) (holder : ℕ → Option ℕ) (cpu granule : ℕ) → IsTrue (is_granule granules granule)
    → holder granule ≡ None → AreLocks granules taken holder
    → AreLocks granules (put taken cpu (taken cpu ++ granule ∷ [])) (put holder granule (Some cpu))
AreLocks-taken granules taken holder cpu granule is free locks = record {
  held = λ other lock. by other lock (other == cpu) (lock == granule) refl refl;
  within = λ other. put_elim (λ held. IsTrue (list_all (is_granule granules) held)) taken cpu (taken cpu ++ granule ∷ []) other
      (λ same. list_all-push (is_granule granules) (taken cpu) granule (locks.within cpu) is) (λ apart. locks.within other);
  distinct = λ other. put_elim (λ held. IsTrue (are_distinct held)) taken cpu (taken cpu ++ granule ∷ []) other
      (λ same. distinct-push (taken cpu) granule (locks.distinct cpu) (locks.held cpu granule ∙ ap (is_cpu cpu) free))
      (λ apart. locks.distinct other);
}
  where
    pushed : (lock : ℕ) → has_taken (taken cpu ++ granule ∷ []) lock ≡ (has_taken (taken cpu) lock || (granule == lock || false))
    pushed lock = list_any-append (λ held. held == lock) (taken cpu) (granule ∷ [])

    by : (other lock : ℕ) (a b : Bool) → (other == cpu) ≡ a → (lock == granule) ≡ b
        → has_taken (if a then taken cpu ++ granule ∷ [] else taken other) lock ≡ is_cpu other (if b then Some cpu else holder lock)
    by other lock true true first second =
        pushed lock ∙ rw (eq-eqb granule lock (sym (eqb-true lock granule second))) (or_true (has_taken (taken cpu) lock))
        ∙ sym (eq-eqb cpu other (sym (eqb-true other cpu first)))
    by other lock true false first second =
        pushed lock ∙ rw (apart lock granule second) (or_false (has_taken (taken cpu) lock)) ∙ locks.held cpu lock
        ∙ ap (λ c. is_cpu c (holder lock)) (sym (eqb-true other cpu first))
    by other lock false true first second =
        locks.held other lock ∙ ap (is_cpu other) (ap holder (eqb-true lock granule second) ∙ free) ∙ sym (apart other cpu first)
    by other lock false false first second = locks.held other lock

-- a CPU frees a lock that it holds
pub AreLocks-freed : (granules : ℕ) (taken : ℕ → List ℕ) (holder : ℕ → Option ℕ) (cpu granule : ℕ) → holder granule ≡ Some cpu
    → AreLocks granules taken holder → AreLocks granules (put taken cpu (without_granule granule (taken cpu))) (put holder granule None)
AreLocks-freed granules taken holder cpu granule is locks = record {
  held = λ other lock. by other lock (other == cpu) (lock == granule) refl refl;
  within = λ other. put_elim (λ held. IsTrue (list_all (is_granule granules) held)) taken cpu (without_granule granule (taken cpu)) other
      (λ same. list_all-without (is_granule granules) (taken cpu) granule (locks.within cpu)) (λ apart. locks.within other);
  distinct = λ other. put_elim (λ held. IsTrue (are_distinct held)) taken cpu (without_granule granule (taken cpu)) other
      (λ same. distinct-without (taken cpu) granule (locks.distinct cpu)) (λ apart. locks.distinct other);
}
  where
    by : (other lock : ℕ) (a b : Bool) → (other == cpu) ≡ a → (lock == granule) ≡ b
        → has_taken (if a then without_granule granule (taken cpu) else taken other) lock ≡ is_cpu other (if b then None else holder lock)
    by other lock true true first second = has_taken-without (taken cpu) granule lock ∙ rw second refl
    by other lock true false first second =
        has_taken-without (taken cpu) granule lock ∙ rw second (locks.held cpu lock)
        ∙ ap (λ c. is_cpu c (holder lock)) (sym (eqb-true other cpu first))
    by other lock false true first second =
        locks.held other lock ∙ ap (is_cpu other) (ap holder (eqb-true lock granule second) ∙ is) ∙ apart other cpu first
    by other lock false false first second = locks.held other lock

-- who a lock's holder is
pub held_by : (cpu : ℕ) (holder : Option ℕ) → is_cpu cpu holder ≡ true → holder ≡ Some cpu
held_by cpu None is = absurd (false≢true is)
held_by cpu (Some other) is = ap Some (eqb-true other cpu is)

-- a CPU frees all that it holds
pub AreLocks-cleared : (granules : ℕ) (taken : ℕ → List ℕ) (holder : ℕ → Option ℕ) (cpu : ℕ) → AreLocks granules taken holder
    → AreLocks granules (put taken cpu []) (freed_all (taken cpu) holder)
AreLocks-cleared granules taken holder cpu locks = record {
  held = λ other lock. by other lock (other == cpu) (has_taken (taken cpu) lock) refl refl;
  within = λ other. put_elim (λ held. IsTrue (list_all (is_granule granules) held)) taken cpu [] other (λ same. refl) (λ apart. locks.within other);
  distinct = λ other. put_elim (λ held. IsTrue (are_distinct held)) taken cpu [] other (λ same. refl) (λ apart. locks.distinct other);
}
  where
    by : (other lock : ℕ) (a b : Bool) → (other == cpu) ≡ a → has_taken (taken cpu) lock ≡ b
        → has_taken (if a then [] else taken other) lock ≡ is_cpu other (if b then None else holder lock)
    by other lock true true first second = refl
    by other lock true false first second =
        sym second ∙ locks.held cpu lock ∙ ap (λ c. is_cpu c (holder lock)) (sym (eqb-true other cpu first))
    by other lock false true first second =
        let mine : holder lock ≡ Some cpu = held_by cpu (holder lock) (sym (locks.held cpu lock) ∙ second) in
        locks.held other lock ∙ ap (is_cpu other) mine ∙ apart other cpu first
    by other lock false false first second = locks.held other lock

-- one lock more is free
pub freed_all-next : (taken : List ℕ) (i lock : ℕ) (holder : ℕ → Option ℕ) → i < length taken → lock ≡ get_or taken i lock
    → put (freed_all (take i taken) holder) lock None ≡ freed_all (take (i + 1) taken) holder
freed_all-next taken i lock holder within is = λ k other. at other k
  where
    more : take (i + 1) taken ≡ take i taken ++ lock ∷ []
    more = take_more taken i lock within ∙ ap (λ x. take i taken ++ x ∷ []) (sym is)

    by : (other : ℕ) (a b : Bool) → has_taken (take i taken) other ≡ a → (other == lock) ≡ b
        → (if b then None else (if a then None else holder other)) ≡ (if a || (lock == other || false) then None else holder other)
    by other true true first second = refl
    by other true false first second = refl
    by other false true first second = rw (eq-eqb lock other (sym (eqb-true other lock second))) refl
    by other false false first second = rw (apart other lock second) refl

    at : (other : ℕ) → put (freed_all (take i taken) holder) lock None other ≡ freed_all (take (i + 1) taken) holder other
    at other =
        by other (has_taken (take i taken) other) (other == lock) refl refl
        ∙ ap (λ b. if b then None else holder other)
        (sym (ap (λ xs. has_taken xs other) more ∙ list_any-append (λ held. held == other) (take i taken) (lock ∷ [])))

all_pass : (p : ℕ → Bool) (xs : List ℕ) → IsTrue (list_all p xs) → AllByRecursion (λ x. IsTrue (p x)) xs
all_pass p [] all = tt
all_pass p (x ∷ xs) all = let parts = and_parts (p x) (list_all p xs) all in (parts.0, all_pass p xs parts.1)

-- locks that are taken have a place where there is one for each granule
pub locks-of_size : (size granules : ℕ) (taken others : List ℕ) → size ≡ granules → taken ≡ others → IsTrue (list_all (is_granule granules) others)
    → All (λ lock. IsTrue (is_granule size lock)) taken
locks-of_size size granules taken others sized same within =
    subst (λ n. All (λ lock. IsTrue (is_granule n lock)) taken) (sym sized)
    (subst (λ locks. All (λ lock. IsTrue (is_granule granules lock)) locks) (sym same)
    (All-from_recursion (λ lock. IsTrue (is_granule granules lock)) others (all_pass (is_granule granules) others within)))

-- a lock that is taken is of a granule
pub granule-taken : (size granules : ℕ) (taken : List ℕ) (lock : ℕ)
    → size ≡ granules → IsTrue (list_all (is_granule granules) taken) → Contains taken lock
    → IsTrue (is_granule size lock)
granule-taken size granules taken lock sized within has =
    All-contains (λ (x : ℕ). IsTrue (is_granule size x)) taken lock (locks-of_size size granules taken taken sized refl within) has
