-- How many calls of a CPU stand in lists of lines, and which calls are open behind one line more.
use Rattle.verdict_laws.proofs.Common.{◌≡◌, ℕ, ◌+◌, false, eqb, List, [], ◌∷◌, ◌++◌, inl, inr, sym, ◌∙◌, arith, cases_Bool, both_ways, Event, Line, cpu_named, count_of}
use Rattle.std.proofs.lemmas.Bool.{eqb-true, eq-eqb}
use Rattle.verdict_laws.proofs.Counts.{count_of-nil, count_of-other}
use Rattle.verdict_laws.specs.Forward.{IsOpen, AreOpen}

-- two lists' lines count together
pub count_of-append : (cpu : ℕ) (xs ys : List Line) → count_of cpu (xs ++ ys) ≡ count_of cpu xs + count_of cpu ys
unfolding count_of
count_of-append cpu [] ys = omega arith
count_of-append cpu (x ∷ xs) ys =
    let rest : count_of cpu (xs ++ ys) ≡ count_of cpu xs + count_of cpu ys = count_of-append cpu xs ys in
    omega (arith, rest)

-- where no line is of the CPU, the first isn't and none behind it is
pub count_of-none : (cpu : ℕ) (x : Line) (xs : List Line) → count_of cpu (x ∷ xs) ≡ 0 → (eqb (cpu_named x) cpu ≡ false) × (count_of cpu xs ≡ 0)
unfolding count_of
count_of-none cpu x xs none = elim (cases_Bool (eqb (cpu_named x) cpu)) [
  | inl same ↦ absurd (let one = rw same at none in omega (arith, one))
  | inr other ↦ (other, omega (arith, none))
]

-- and the other way
pub count_of-cons_other : (cpu : ℕ) (x : Line) (xs : List Line) → eqb (cpu_named x) cpu ≡ false → count_of cpu (x ∷ xs) ≡ count_of cpu xs
unfolding count_of
count_of-cons_other cpu x xs other = rw other (omega arith)

pub count_of-cons_same : (cpu : ℕ) (x : Line) (xs : List Line) → cpu_named x ≡ cpu → count_of cpu (x ∷ xs) ≡ count_of cpu xs + 1
unfolding count_of
count_of-cons_same cpu x xs same = rw (eq-eqb (cpu_named x) cpu same) (omega arith)

-- lines count alike wherever one of them stands
pub count_of-behind : (cpu : ℕ) (front ys : List Line) (x : Line) → count_of cpu (front ++ (x ∷ ys)) ≡ count_of cpu (front ++ (ys ++ x ∷ []))
count_of-behind cpu front ys x =
    let here = count_of-append cpu front (x ∷ ys) in
    let there = count_of-append cpu front (ys ++ x ∷ []) in
    let first : count_of cpu (x ∷ ys) ≡ count_of cpu (x ∷ []) + count_of cpu ys = count_of-append cpu (x ∷ []) ys in
    let last = count_of-append cpu ys (x ∷ []) in
    omega (arith, here, there, first, last)

-- two CPUs differ either way round
pub other_way : (a b : ℕ) → eqb a b ≡ false → eqb b a ≡ false
other_way a b apart = elim (cases_Bool (eqb b a)) [
  | inl same ↦ both_ways (eq-eqb a b (sym (eqb-true b a same))) apart
  | inr other ↦ other
]

-- ---- open calls

-- a call stays open behind a line of another CPU
pub IsOpen-push : (events : List Event) (place : ℕ) (lines : List Line) (x line : Line) → eqb (cpu_named line) (cpu_named x) ≡ false
    → IsOpen events place lines line → IsOpen events place (lines ++ x ∷ []) line
IsOpen-push events place lines x line apart is_open =
    let same = count_of-other (cpu_named line) lines x (other_way (cpu_named line) (cpu_named x) apart) in
    record {
      next = record { known = is_open.next.known; kind = is_open.next.kind; numbered = is_open.next.numbered ∙ sym same };
      called = is_open.called;
      command = is_open.command;
      is_called = is_open.is_called;
      before = is_open.before;
    }

pub AreOpen-push : (events : List Event) (place : ℕ) (lines : List Line) (x : Line) (ys : List Line) → count_of (cpu_named x) ys ≡ 0
    → AreOpen events place lines ys → AreOpen events place (lines ++ x ∷ []) ys
AreOpen-push events place lines x [] none are_open = tt
AreOpen-push events place lines x (y ∷ ys) none are_open =
    let apart = count_of-none (cpu_named x) y ys none in
    (IsOpen-push events place lines x y apart.0 are_open.0, are_open.1, AreOpen-push events place lines x ys apart.1 are_open.2)

-- the first ones of some are open
pub AreOpen-front : (events : List Event) (place : ℕ) (lines xs ys : List Line) → AreOpen events place lines (xs ++ ys)
    → AreOpen events place lines xs
AreOpen-front events place lines [] ys are_open = tt
AreOpen-front events place lines (x ∷ xs) ys are_open =
    let both = count_of-append (cpu_named x) xs ys in
    let none = are_open.1 in
    (are_open.0, omega (arith, both, none), AreOpen-front events place lines xs ys are_open.2)

-- some are open with one behind them that is of another CPU than each
pub AreOpen-last : (events : List Event) (place : ℕ) (lines ys : List Line) (x : Line) → IsOpen events place lines x → count_of (cpu_named x) ys ≡ 0
    → AreOpen events place lines ys → AreOpen events place lines (ys ++ x ∷ [])
AreOpen-last events place lines [] x is_open none are_open = (is_open, none, tt)
AreOpen-last events place lines (y ∷ ys) x is_open none are_open =
    let apart = count_of-none (cpu_named x) y ys none in
    let both = count_of-append (cpu_named y) ys (x ∷ []) in
    let one = count_of-cons_other (cpu_named y) x [] (other_way (cpu_named y) (cpu_named x) apart.0) in
    let own = are_open.1 in
    let nil = count_of-nil (cpu_named y) in (
      are_open.0,
      omega (arith, both, one, own, nil),
      AreOpen-last events place lines ys x is_open apart.1 are_open.2,
    )

-- open calls are open in the order in which one of them comes last
pub AreOpen-behind : (events : List Event) (place : ℕ) (lines front ys : List Line) (x : Line) → AreOpen events place lines (front ++ (x ∷ ys))
    → AreOpen events place lines (front ++ (ys ++ x ∷ []))
AreOpen-behind events place lines [] ys x are_open = AreOpen-last events place lines ys x are_open.0 are_open.1 are_open.2
AreOpen-behind events place lines (z ∷ front) ys x are_open =
    (are_open.0, sym (count_of-behind (cpu_named z) front ys x) ∙ are_open.1, AreOpen-behind events place lines front ys x are_open.2)

-- or in that in which two neighbours come the other way round
pub AreOpen-swap : (events : List Event) (place : ℕ) (lines front ys : List Line) (x y : Line) → AreOpen events place lines (front ++ (x ∷ y ∷ ys))
    → AreOpen events place lines (front ++ (y ∷ x ∷ ys))
AreOpen-swap events place lines [] ys x y are_open =
    let apart = count_of-none (cpu_named x) y ys are_open.1 in
    let other = count_of-cons_other (cpu_named y) x ys (other_way (cpu_named y) (cpu_named x) apart.0) in
    (are_open.2.0, other ∙ are_open.2.1, (are_open.0, apart.1, are_open.2.2))
AreOpen-swap events place lines (z ∷ front) ys x y are_open =
    let here = count_of-append (cpu_named z) front (x ∷ y ∷ ys) in
    let there = count_of-append (cpu_named z) front (y ∷ x ∷ ys) in
    let one : count_of (cpu_named z) (x ∷ y ∷ ys) ≡ count_of (cpu_named z) (x ∷ []) + count_of (cpu_named z) (y ∷ ys) =
    count_of-append (cpu_named z) (x ∷ []) (y ∷ ys) in
    let two : count_of (cpu_named z) (y ∷ ys) ≡ count_of (cpu_named z) (y ∷ []) + count_of (cpu_named z) ys =
    count_of-append (cpu_named z) (y ∷ []) ys in
    let three : count_of (cpu_named z) (y ∷ x ∷ ys) ≡ count_of (cpu_named z) (y ∷ []) + count_of (cpu_named z) (x ∷ ys) =
    count_of-append (cpu_named z) (y ∷ []) (x ∷ ys) in
    let four : count_of (cpu_named z) (x ∷ ys) ≡ count_of (cpu_named z) (x ∷ []) + count_of (cpu_named z) ys =
    count_of-append (cpu_named z) (x ∷ []) ys in
    let none = are_open.1 in
    (are_open.0, omega (arith, here, there, one, two, three, four, none), AreOpen-swap events place lines front ys x y are_open.2)
