-- Where all CPUs' parts together are as long as their lists, each part is the whole list.
use Rattle.event_queue.proofs.Common.{◌≡◌, ◌≢◌, ℕ, zero, suc, ◌+◌, ◌<◌, ◌≤◌, List, [], ◌∷◌, ◌++◌, length, Bool, true, false, eqb, if◌then◌else◌, get_or, Some, None, refl, arith, sym, ap, ◌∙◌, append-nil, subst, ⊎_elim, AllByRecursion, slice_get, length-append, length_push, nil_from_length, cases_eq, none-some, same_Some, IsPrefix, Event, IsEvent, cpu_of, subhistory_of, subhistory_of-push_same, CpuView, AreBegun, AreWhole, count_recorded, cpu_below}
use Rattle.std.proofs.lemmas.List.Sums.{sum_by-cons}
use Rattle.std.proofs.lemmas.Option.{slice_get_cases}
use Rattle.spec_lemmas.proofs.Places.{subhistory_of-same}

-- ---- the parts together

-- the sum of so many numbers
abbrev total : (ℕ → ℕ) → ℕ → ℕ
total f zero = 0
total f (suc n) = f zero + total (λ k. f (suc k)) n

total-le : (f g : ℕ → ℕ) (n : ℕ) → ((k : ℕ) → f k ≤ g k) → total f n ≤ total g n
total-le f g zero each = omega arith
total-le f g (suc n) each = omega (arith, each 0, total-le (λ k. f (suc k)) (λ k. g (suc k)) n (λ k. each (suc k)))

-- one of the numbers is greater
total-lt : (f g : ℕ → ℕ) (at n : ℕ) → at < n → f at < g at → ((k : ℕ) → f k ≤ g k) → total f n < total g n
total-lt f g at zero within more each = absurd (omega arith)
total-lt f g zero (suc n) within more each = omega (arith, more, total-le (λ k. f (suc k)) (λ k. g (suc k)) n (λ k. each (suc k)))
total-lt f g (suc at) (suc n) within more each =
    omega (arith, each 0, total-lt (λ k. f (suc k)) (λ k. g (suc k)) at n (omega arith) more (λ k. each (suc k)))

-- one event more makes no part shorter
longer : (b : Bool) (event : Event) (events : List Event) → length events ≤ length (if b then event ∷ events else events)
longer true event events = omega arith
longer false event events = omega arith

-- each event is in its CPU's part
all_in_parts : (cpus : ℕ) (events : List Event)
    → AllByRecursion (IsEvent cpus) events → length events ≤ total (λ cpu. length (subhistory_of cpu events)) cpus
all_in_parts cpus [] each = omega arith
all_in_parts cpus (event ∷ events) each =
    let own = ap (λ (es : List Event). length es) (subhistory_of-same (cpu_of event) event events refl) in
    omega (
      arith,
      all_in_parts cpus events each.1,
      total-lt (λ cpu. length (subhistory_of cpu events)) (λ cpu. length (subhistory_of cpu (event ∷ events)))
          (cpu_of event) cpus (cpu_below cpus event each.0) (omega (arith, own))
          (λ cpu. longer (eqb (cpu_of event) cpu) event (subhistory_of cpu events)),
    )

-- ---- beginnings

beginning-le : (beginning events : List Event) → IsPrefix beginning events → length beginning ≤ length events
beginning-le beginning events is = let joined = ap (λ (es : List Event). length es) is.1 in omega (arith, joined, length-append beginning is.0)

-- a beginning that is no shorter is the whole
whole_beginning : (beginning events : List Event) → IsPrefix beginning events → length events ≤ length beginning → beginning ≡ events
whole_beginning beginning events is long =
    let joined = ap (λ (es : List Event). length es) is.1 in
    let none = nil_from_length is.0 (omega (arith, joined, length-append beginning is.0)) in
    sym (append-nil beginning) ∙ ap (λ (es : List Event). beginning ++ es) (sym none) ∙ is.1

-- each part is a beginning of the list of the pass at its place
abbrev Begin : List CpuView → (ℕ → List Event) → Type 0
Begin passes part = (place : ℕ) (pass : CpuView) → slice_get passes place ≡ Some pass → IsPrefix (part place) pass.events

count-cons : (pass : CpuView) (passes : List CpuView) → count_recorded (pass ∷ passes) ≡ length pass.events + count_recorded passes
count-cons pass passes = sum_by-cons (λ (p : CpuView). length p.events) pass passes

-- together they are no longer than the lists
parts-le : (passes : List CpuView) (part : ℕ → List Event)
    → Begin passes part → total (λ place. length (part place)) (length passes) ≤ count_recorded passes
parts-le [] part each = omega arith
parts-le (first ∷ passes) part each =
    omega (
      arith,
      count-cons first passes,
      beginning-le (part 0) first.events (each 0 first refl),
      parts-le passes (λ place. part (suc place)) (λ place. each (suc place)),
    )

-- and where they are as long together, each is the whole list
parts_are_whole : (passes : List CpuView) (part : ℕ → List Event) → Begin passes part
    → count_recorded passes ≤ total (λ place. length (part place)) (length passes)
    → (place : ℕ) (pass : CpuView) → slice_get passes place ≡ Some pass → part place ≡ pass.events
parts_are_whole [] part each long place pass is = absurd (none-some pass is)
parts_are_whole (first ∷ passes) part each long zero pass is =
    let same = ap (λ (p : CpuView). length p.events) (same_Some first pass is) in
    whole_beginning (part 0) pass.events (each 0 pass is)
    (omega (arith, count-cons first passes, same, parts-le passes (λ place. part (suc place)) (λ place. each (suc place))))
parts_are_whole (first ∷ passes) part each long (suc place) pass is =
    let first_part = beginning-le (part 0) first.events (each 0 first refl) in
    parts_are_whole passes (λ k. part (suc k)) (λ k. each (suc k)) (omega (arith, count-cons first passes, first_part)) place pass is

-- what is compared with the lists of the passes below a place, one place further
pub begun-more : (passes : List CpuView) (events : List Event) (last : ℕ) (mine : CpuView) → slice_get passes last ≡ Some mine
    → IsPrefix (subhistory_of last events) mine.events
    → ((cpu : ℕ) (pass : CpuView) → cpu < last → slice_get passes cpu ≡ Some pass → IsPrefix (subhistory_of cpu events) pass.events)
    → (cpu : ℕ) (pass : CpuView) → cpu < last + 1 → slice_get passes cpu ≡ Some pass → IsPrefix (subhistory_of cpu events) pass.events
begun-more passes events last mine at_last begins before cpu pass below at_cpu = ⊎_elim
    (λ (here : cpu ≡ last). subst (λ (y : ℕ × CpuView). IsPrefix (subhistory_of y.0 events) y.1.events)
    (λ i. (sym here i, same_Some mine pass (sym at_last ∙ sym (ap (slice_get passes) here) ∙ at_cpu) i)) begins)
    (λ (apart : cpu ≢ last). before cpu pass (omega arith) at_cpu)
    (cases_eq cpu last)

-- events of these CPUs, of which each CPU's part begins its pass's list, are no more than the passes recorded
pub at_most_recorded : (passes : List CpuView) (events : List Event) → AllByRecursion (IsEvent (length passes)) events → AreBegun passes events
    → length events ≤ count_recorded passes
at_most_recorded passes events each begun =
    omega (arith, all_in_parts (length passes) events each, parts-le passes (λ cpu. subhistory_of cpu events) begun)

-- events of these CPUs, as many as all passes recorded, of which each CPU's part begins its pass's list
pub are_whole : (passes : List CpuView) (events : List Event) → AllByRecursion (IsEvent (length passes)) events → AreBegun passes events
    → count_recorded passes ≤ length events → AreWhole passes events
are_whole passes events each begun all =
    parts_are_whole passes (λ cpu. subhistory_of cpu events) begun (omega (arith, all, all_in_parts (length passes) events each))

-- no event comes behind those that have each CPU's whole list
pub no_event_more : (passes : List CpuView) (events : List Event) (event : Event) → cpu_of event < length passes → AreWhole passes events
    → AreBegun passes (events ++ event ∷ []) → ⊥
no_event_more passes events event below whole begun = ⊎_elim
    (λ (some : (pass : CpuView) × (cpu_of event < length passes)
    × (slice_get passes (cpu_of event) ≡ Some pass) × (get_or passes (cpu_of event) pass ≡ pass)).
    omega (
      arith,
      beginning-le (subhistory_of (cpu_of event) (events ++ event ∷ [])) some.0.events (begun (cpu_of event) some.0 some.2),
      ap (λ (es : List Event). length es) (subhistory_of-push_same (cpu_of event) events event refl),
      length_push (subhistory_of (cpu_of event) events) event,
      ap (λ (es : List Event). length es) (whole (cpu_of event) some.0 some.2),
    ))
    (λ (none : (length passes ≤ cpu_of event) × (slice_get passes (cpu_of event) ≡ None)). omega (arith, none.0, below))
    (slice_get_cases passes (cpu_of event)).1
