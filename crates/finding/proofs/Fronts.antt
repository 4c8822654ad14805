-- The next call of each CPU, as one CPU after another is looked up.
use Rattle.finding.proofs.Common.{◌+◌, ◌<◌, ◌^◌, ◌∙◌, ◌≡◌, ◌≤◌, Choice, History, IsLeast, IsNextCall, List, None, Option, Some, ap, arith, inl, inr, length, slice_get, slice_get_within, subst, sym, ℕ}
use Rattle.std.proofs.Common.{◌≢◌, ◌⊎◌, slice_index, get_or, set, get_or-set_same, get_or-set_other}
use Rattle.std.specs.Option.{IfSome}
use Rattle.std.proofs.lemmas.Bool.Decides.{eqb_tells}
use Rattle.std.proofs.lemmas.List.{length-set}
use Rattle.std.proofs.lemmas.Option.{get_or_from_slice_get, slice_get-get_or}
use Rattle.rmm_spec.specs.Linearization.{IsKnown}
use Rattle.spec_lemmas.proofs.Calls.{HasOnePlaces}
use Rattle.finding.specs.Choice.{IsNextOf, least_of}
use Rattle.finding.proofs.Choices.{IsLeast-lower, IsLeast-past, IsLeast-sooner}
use Rattle.finding.specs.Front.{IsFront, IsNextAt}
use Rattle.finding.specs.declared.front.Front.{Front}

-- the next calls of the first CPUs, so many, are known
abbrev pub AreNexts : History → List ℕ → List (Option Choice) → List ℕ → ℕ → Type 0
AreNexts history counts nexts ranks bound =
    (cpu : ℕ) (next : Option Choice) → cpu < bound → slice_get nexts cpu ≡ Some next → IsNextAt history counts ranks cpu next

-- an element of a list in which one was set
pub set_cases : {A : Type 0} (xs : List (Option A)) (i : ℕ) (x : Option A) (at : ℕ) (o : Option A) → slice_get (set xs i x) at ≡ Some o
    → (P : Option A → Type 0) → (at ≡ i → P x) → (at ≢ i → slice_get xs at ≡ Some o → P o) → P o
set_cases xs i x at o is P here there = elim (eqb_tells at i) [
  | inl same ↦
      let within = slice_get_within (set xs i x) at o is in
      let size = length-set xs i x in
      let lt : i < length xs = omega (arith, within, size, same.1) in
      let read : get_or (set xs i x) i None ≡ o =
      ap (λ (n : ℕ). get_or (set xs i x) n None) (sym same.1) ∙ get_or_from_slice_get (set xs i x) at o None is in
      subst P (sym (get_or-set_same xs i x None lt) ∙ read) (here same.1)
  | inr differ ↦
      let within = slice_get_within (set xs i x) at o is in
      let size = length-set xs i x in
      let read : get_or xs at None ≡ o = sym (get_or-set_other xs i at x None differ.1) ∙ get_or_from_slice_get (set xs i x) at o None is in
      there differ.1 (slice_get-get_or xs at None (omega (arith, within, size)) ∙ ap Some read)
]

-- a CPU whose next call was looked up just now
here : (history : History) (counts ranks : List ℕ) (cpu : ℕ) (next : Option Choice) → cpu < length ranks → IsNextOf history counts cpu next
    → IsNextAt history counts (set ranks cpu (least_of next)) cpu next
here history counts ranks cpu next within is = record { known = is; rank = get_or-set_same ranks cpu (least_of next) 0 within }

module _ (history : History) where
  -- one more was looked up
  pub AreNexts-set : (counts : List ℕ) (nexts : List (Option Choice)) (ranks : List ℕ) (bound : ℕ) (next : Option Choice) → bound < length ranks
      → AreNexts history counts nexts ranks bound → IsNextOf history counts bound next
      → AreNexts history counts (set nexts bound next) (set ranks bound (least_of next)) (bound + 1)
  AreNexts-set counts nexts ranks bound next inside are is = λ cpu found within at.
      set_cases nexts bound next cpu found at (IsNextAt history counts (set ranks bound (least_of next)) cpu)
      (λ same. subst (λ (c : ℕ). IsNextAt history counts (set ranks bound (least_of next)) c next)
      (sym same) (here history counts ranks bound next inside is))
      (λ differs before.
      let was = are cpu found (omega (arith, within, differs)) before in
      record { known = was.known; rank = get_or-set_other ranks bound cpu (least_of next) 0 differs ∙ was.rank })

  -- another CPU has come further
  elsewhere : (counts : List ℕ) (cpu count other : ℕ) (next : Option Choice) → other ≢ cpu → IsNextOf history counts other next
      → IsNextOf history (set counts cpu count) other next
  elsewhere counts cpu count other None differs is =
      subst (λ (n : ℕ). ¬ IsKnown history.events other n) (sym (get_or-set_other counts cpu other count 0 differs)) is
  elsewhere counts cpu count other (Some choice) differs is = (
    record {
      of_machine = is.0.of_machine;
      numbered = is.0.numbered ∙ ap (λ (c : ℕ). get_or counts c 0) is.1 ∙ sym (get_or-set_other counts cpu other count 0 differs)
          ∙ ap (λ (c : ℕ). get_or (set counts cpu count) c 0) (sym is.1);
      places = is.0.places;
      ranked = is.0.ranked;
    },
    is.1,
  )

  -- a CPU of the machine has come further
  pub IsFront-set : (front : Front) (cpu count : ℕ) (next : Option Choice) (refusals looks : ℕ) → cpu < 8 → IsFront history front
      → IsNextOf history (set front.counts cpu count) cpu next
      → IsFront history (record {
        counts = set front.counts cpu count;
        nexts = set front.nexts cpu next;
        ranks = set front.ranks cpu (least_of next);
        refusals = refusals;
        looks = looks;
      })
  IsFront-set front cpu count next refusals looks inside is_front is =
      let eight = is_front.ranks in
      let within : cpu < length front.ranks = omega (arith, inside, eight) in
      record {
        is_history = is_front.is_history;
        nexts = length-set front.nexts cpu next ∙ is_front.nexts;
        ranks = length-set front.ranks cpu (least_of next) ∙ is_front.ranks;
        each = λ other found machine at.
            set_cases front.nexts cpu next other found at (IsNextAt history (set front.counts cpu count) (set front.ranks cpu (least_of next)) other)
            (λ same. subst (λ (c : ℕ). IsNextAt history (set front.counts cpu count) (set front.ranks cpu (least_of next)) c next) (sym same)
            (here history (set front.counts cpu count) front.ranks cpu next within is))
            (λ differs before.
            let was = is_front.each other found machine before in
            record {
              known = elsewhere front.counts cpu count other found differs was.known;
              rank = get_or-set_other front.ranks cpu other (least_of next) 0 differs ∙ was.rank;
            });
      }

  -- another one was counted
  pub IsFront-beyond : (front : Front) (cpu count : ℕ) → IsFront history front → history.config.cpus ≤ cpu
      → IsFront history (record front { counts = set front.counts cpu count })
  IsFront-beyond front cpu count is_front past = record {
    is_history = is_front.is_history;
    nexts = is_front.nexts;
    ranks = is_front.ranks;
    each = λ other found within before.
        let was = is_front.each other found within before in
        record {
          known = elsewhere front.counts cpu count other found (λ same. absurd (omega (arith, past, within, same))) was.known;
          rank = was.rank;
        };
  }

  -- ---- the first of them

  -- a CPU's next call is tried before the rank, or isn't there
  pub IsLeast-next : HasOnePlaces history.events → (counts : List ℕ) (from bound least new : ℕ) (next : Option Choice)
      → IsLeast history.events counts from bound least → IsNextOf history counts bound next
      → new ≤ least → (from ≤ least_of next → new ≤ least_of next)
      → IsLeast history.events counts from (bound + 1) new
  IsLeast-next one counts from bound least new None so_far none no_later sooner =
      IsLeast-past history.events one counts from bound new (IsLeast-lower history.events counts from bound least new no_later so_far) none
  IsLeast-next one counts from bound least new (Some choice) so_far is no_later sooner =
      IsLeast-sooner history one counts from bound least new choice so_far is.0 is.1 no_later sooner

  -- what the loop over the ranks has found so far: none, or a CPU's
  pub record IsFound (front : Front) (from first least : ℕ) : Type 0 where
    pub found : (least ≡ 2 ^ 32) ⊎ ((first < history.config.cpus) × (from ≤ least) × (slice_index front.ranks first ≡ least))

  -- the call of the CPU that was found
  pub IsNextCall-first : (counts : List ℕ) (cpu from : ℕ) (next : Option Choice) → IsNextOf history counts cpu next → from ≤ least_of next
      → IfSome next (IsNextCall history counts from)
  IsNextCall-first counts cpu from None is late = tt
  IsNextCall-first counts cpu from (Some choice) is late =
      record { of_machine = is.0.of_machine; numbered = is.0.numbered; places = is.0.places; ranked = late }

  -- one more CPU was looked at
  pub IsLeast-looked : HasOnePlaces history.events → (front : Front) → IsFront history front → history.config.cpus ≤ 8 → (cpu from least new : ℕ)
      → cpu < history.config.cpus → IsLeast history.events front.counts from cpu least → new ≤ least
      → (from ≤ slice_index front.ranks cpu → new ≤ slice_index front.ranks cpu) → IsLeast history.events front.counts from (cpu + 1) new
  IsLeast-looked one front is_front few cpu from least new within so_far no_later sooner =
      let eight = is_front.nexts in
      let inside : cpu < length front.nexts = omega (arith, few, within, eight) in
      let next = get_or front.nexts cpu None in
      let is = is_front.each cpu next within (slice_get-get_or front.nexts cpu None inside) in
      IsLeast-next one front.counts from cpu least new next so_far is.known no_later
      (subst (λ (rank : ℕ). from ≤ rank → new ≤ rank) is.rank sooner)
