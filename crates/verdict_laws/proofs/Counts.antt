-- How many calls of each CPU stand in an order with one more line, and which they are.
use Rattle.verdict_laws.proofs.Common.{◌≡◌, ℕ, zero, suc, ◌+◌, ◌≤◌, false, eqb, List, [], ◌∷◌, ◌++◌, ◌⊎◌, inl, inr, length, Some, refl, arith, slice_get, cases_Bool, Line, cpu_named, number_named, IsNamed, slice_get-append, count_of}
use Rattle.std.proofs.lemmas.Bool.{eqb-true, eq-eqb}
use Rattle.lemmas.proofs.Elements.{slice_get-push}

-- one line more counts for its own CPU
pub count_of-same : (cpu : ℕ) (lines : List Line) (line : Line) → cpu_named line ≡ cpu → count_of cpu (lines ++ line ∷ []) ≡ count_of cpu lines + 1
unfolding count_of
count_of-same cpu [] line same = rw (eq-eqb (cpu_named line) cpu same) refl
count_of-same cpu (first ∷ lines) line same =
    let rest : count_of cpu (lines ++ line ∷ []) ≡ count_of cpu lines + 1 = count_of-same cpu lines line same in
    omega (arith, rest)

-- and for no other
pub count_of-other : (cpu : ℕ) (lines : List Line) (line : Line)
    → eqb (cpu_named line) cpu ≡ false → count_of cpu (lines ++ line ∷ []) ≡ count_of cpu lines
unfolding count_of
count_of-other cpu [] line other = rw other refl
count_of-other cpu (first ∷ lines) line other =
    let rest : count_of cpu (lines ++ line ∷ []) ≡ count_of cpu lines = count_of-other cpu lines line other in
    omega (arith, rest)

-- so that it never counts less
pub count_of-le : (cpu : ℕ) (lines : List Line) (line : Line) → count_of cpu lines ≤ count_of cpu (lines ++ line ∷ [])
count_of-le cpu lines line = elim (cases_Bool (eqb (cpu_named line) cpu)) [
  | inl is_same ↦
      let more = count_of-same cpu lines line (eqb-true (cpu_named line) cpu is_same) in omega (arith, more)
  | inr is_other ↦
      let same = count_of-other cpu lines line is_other in omega (arith, same)
]

-- no line counts for no CPU
pub count_of-nil : (cpu : ℕ) → count_of cpu [] ≡ 0
unfolding count_of
count_of-nil cpu = refl

-- a name among the lines is one with a further line
pub IsNamed-push : (lines : List Line) (line : Line) (cpu number : ℕ) → IsNamed lines cpu number → IsNamed (lines ++ line ∷ []) cpu number
IsNamed-push lines line cpu number named =
    (named.0, named.1, slice_get-append lines (line ∷ []) named.0 named.1 named.2, named.3, named.4)

-- and so is the further line's
pub IsNamed-last : (lines : List Line) (line : Line) (cpu number : ℕ) → cpu_named line ≡ cpu → number_named line ≡ number
    → IsNamed (lines ++ line ∷ []) cpu number
IsNamed-last lines line cpu number of_cpu numbered = (length lines, line, slice_get-push lines line, of_cpu, numbered)

-- an element of two lists, one behind the other, is one of the first or lies behind it
pub slice_get-append_cases : {X : Type 0} (xs ys : List X) (i : ℕ) (x : X)
    → slice_get (xs ++ ys) i ≡ Some x → (slice_get xs i ≡ Some x) ⊎ (length xs ≤ i)
slice_get-append_cases [] ys i x is = inr (omega arith)
slice_get-append_cases (y ∷ xs) ys zero x is = inl is
slice_get-append_cases (y ∷ xs) ys (suc i) x is = elim (slice_get-append_cases xs ys i x is) [
  | inl here ↦ inl here
  | inr behind ↦ inr (omega (arith, behind))
]
