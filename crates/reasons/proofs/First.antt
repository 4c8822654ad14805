-- The first condition that fails, in a list of parts.
use Rattle.std.proofs.Common.{◌≡◌, ℕ, zero, suc, ◌+◌, ◌≤◌, ◌++◌, true, false, List, [], ◌∷◌, length, take, Option, Some, None, inl, inr, refl, sym, ◌∙◌, ap, subst}
use Rattle.std.specs.List.{AllByRecursion, slice_get}
use Rattle.std.specs.Prelude.{MatchOption}
use Rattle.std.proofs.lemmas.List.{take_all, take_more}
use Rattle.std.proofs.lemmas.Option.{get_or_from_slice_get, none-some, same_Some, slice_get_within}
use Rattle.rmm_spec.specs.declared.condition.Condition.{Condition}
use Rattle.rmm_spec.specs.State.{State}
use Rattle.reasons.specs.declared.asked.Asked.{Asked}
use Rattle.reasons.specs.declared.test.Test.{Test}
use Rattle.reasons.specs.Law.{AllPass, IsFirst, IsFound, first_failing}
use Rattle.reasons.specs.Tests.{passes}

-- in the first part
pub IsFirst-left : (s : State) (front back : List Asked) (name : Condition) (test : Test)
    → IsFirst s front name test → IsFirst s (front ++ back) name test
IsFirst-left s [] back name test first = absurd first
IsFirst-left s (asked ∷ front) back name test (inl later) = inl (later.0, IsFirst-left s front back name test later.1)
IsFirst-left s (asked ∷ front) back name test (inr here) = inr here

-- in the second, where each of the first passes
pub IsFirst-right : (s : State) (front back : List Asked) (name : Condition) (test : Test)
    → AllPass s front → IsFirst s back name test → IsFirst s (front ++ back) name test
IsFirst-right s [] back name test pass first = first
IsFirst-right s (asked ∷ front) back name test pass first = inl (pass.0, IsFirst-right s front back name test pass.1 first)

pub AllPass-append : (s : State) (front back : List Asked) → AllPass s front → AllPass s back → AllPass s (front ++ back)
AllPass-append s [] back pass also = also
AllPass-append s (asked ∷ front) back pass also = (pass.0, AllPass-append s front back pass.1 also)

-- where each passes none fails
pub first_failing-none : (s : State) (list : List Asked) → AllPass s list → first_failing s list ≡ None
first_failing-none s [] pass = refl
first_failing-none s (asked ∷ list) pass = rw pass.0 (first_failing-none s list pass.1)

-- the first that fails has its name
pub first_failing-first : (s : State) (list : List Asked) (name : Condition) (test : Test)
    → IsFirst s list name test → first_failing s list ≡ Some name
first_failing-first s [] name test first = absurd first
first_failing-first s (asked ∷ list) name test (inl later) = rw later.0 (first_failing-first s list name test later.1)
first_failing-first s (asked ∷ list) name test (inr here) = rw here.0 (ap (λ (a : Asked). Some a.condition) here.1)

-- the first that fails does
pub fails-first : (s : State) (list : List Asked) (name : Condition) (test : Test) → IsFirst s list name test → passes s test ≡ false
fails-first s [] name test first = absurd first
fails-first s (asked ∷ list) name test (inl later) = fails-first s list name test later.1
fails-first s (asked ∷ list) name test (inr here) = ap (λ (a : Asked). passes s a.test) (sym here.1) ∙ here.0

-- what is said of each is said of the first that fails
pub first-has : (s : State) (list : List Asked) (name : Condition) (test : Test) (Says : Test → Type 0)
    → AllByRecursion (λ (a : Asked). Says a.test) list → IsFirst s list name test → Says test
first-has s [] name test Says each first = absurd first
first-has s (asked ∷ list) name test Says each (inl later) = first-has s list name test Says each.1 later.1
first-has s (asked ∷ list) name test Says each (inr here) = subst (λ (a : Asked). Says a.test) here.1 each.0

-- ---- one by one

-- one more of the first passes
pub AllPass-next : (s : State) (list : List Asked) (i : ℕ) (asked : Asked)
    → slice_get list i ≡ Some asked → passes s asked.test ≡ true → AllPass s (take i list)
    → AllPass s (take (i + 1) list)
AllPass-next s list i asked is pass below =
    let more = take_more list i asked (slice_get_within list i asked is) in
    let same = get_or_from_slice_get list i asked asked is in
    subst (AllPass s) (sym (more ∙ ap (λ (x : Asked). take i list ++ x ∷ []) same)) (AllPass-append s (take i list) (asked ∷ []) below (pass, tt))

-- all of them
pub AllPass-whole : (s : State) (list : List Asked) (i : ℕ) → length list ≤ i → AllPass s (take i list) → AllPass s list
AllPass-whole s list i whole below = subst (AllPass s) (take_all i list whole) below

-- the one after those that pass
pub IsFirst-at : (s : State) (list : List Asked) (i : ℕ) (asked : Asked)
    → slice_get list i ≡ Some asked → AllPass s (take i list) → passes s asked.test ≡ false
    → IsFirst s list asked.condition asked.test
IsFirst-at s [] i asked is below fails = none-some asked is
IsFirst-at s (here ∷ list) zero asked is below fails =
    let same = same_Some here asked is in inr (ap (λ (x : Asked). passes s x.test) same ∙ fails, same)
IsFirst-at s (here ∷ list) (suc i) asked is below fails = inl (below.0, IsFirst-at s list i asked is below.1 fails)

-- ---- where nothing is found

pub none_found : {X : Type 0} (found : Option X) (Otherwise : Type 0) (Says : X → Type 0)
    → MatchOption found Otherwise Says → ((x : X) → ¬ (found ≡ Some x)) → Otherwise
none_found None Otherwise Says match none = match
none_found (Some x) Otherwise Says match none = absurd (none x refl)

-- ---- where one is

pub first_found : (s : State) (list : List Asked) (found : Option Asked) (asked : Asked) → IsFound s list found → found ≡ Some asked
    → IsFirst s list asked.condition asked.test
first_found s list found asked match is = subst (IsFound s list) is match

-- ---- the parts of a command's conditions

module _ (s : State) (places words tags own : List Asked) where
  abbrev pub parts : List Asked
  parts = places ++ (words ++ (tags ++ own))

  pub first-word : AllPass s places → (name : Condition) (t : Test) → IsFirst s words name t → IsFirst s parts name t
  first-word placed name t first =
      IsFirst-right s places (words ++ (tags ++ own)) name t placed (IsFirst-left s words (tags ++ own) name t first)

  after-words : AllPass s places → AllPass s words → (name : Condition) (t : Test) → IsFirst s (tags ++ own) name t → IsFirst s parts name t
  after-words placed allowed name t first =
      IsFirst-right s places (words ++ (tags ++ own)) name t placed (IsFirst-right s words (tags ++ own) name t allowed first)

  pub first-tag : AllPass s places → AllPass s words → (name : Condition) (t : Test) → IsFirst s tags name t → IsFirst s parts name t
  first-tag placed allowed name t first = after-words placed allowed name t (IsFirst-left s tags own name t first)

  pub first-own : AllPass s places → AllPass s words → AllPass s tags → (name : Condition) (t : Test) → IsFirst s own name t → IsFirst s parts name t
  first-own placed allowed tagged name t first = after-words placed allowed name t (IsFirst-right s tags own name t tagged first)

  pub first-none : AllPass s places → AllPass s words → AllPass s tags → AllPass s own → first_failing s parts ≡ None
  first-none placed allowed tagged owned =
      first_failing-none s parts
      (AllPass-append s places (words ++ (tags ++ own)) placed
      (AllPass-append s words (tags ++ own) allowed (AllPass-append s tags own tagged owned)))
