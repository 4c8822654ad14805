-- A search through the first lines of a certificate for one of which something is said.
use Rattle.explain.proofs.Common.{◌+◌, ◌<◌, ◌∙◌, ◌≡◌, Line, List, Some, ap, arith, cases_lt, inl, inr, slice_get, subst, sym, take, ℕ}
use Rattle.std.proofs.lemmas.Option.{same_Some}
use Rattle.lemmas.proofs.Elements.{slice_get-take}
use Rattle.explain.specs.Told.{HasLine}

-- of none of the first lines
abbrev pub HasNoneBelow : List Line → ℕ → (Line → Type 0) → Type 0
HasNoneBelow lines bound Says = (i : ℕ) (line : Line) → i < bound → slice_get lines i ≡ Some line → ¬ Says line

-- nor of the next
pub HasNoneBelow-next : (lines : List Line) (place : ℕ) (here : Line) (Says : Line → Type 0) → slice_get lines place ≡ Some here → ¬ Says here
    → HasNoneBelow lines place Says → HasNoneBelow lines (place + 1) Says
HasNoneBelow-next lines place here Says is_here not_here below at line within is_line = elim (cases_lt at place) [
  | inl before ↦ below at line before is_line
  | inr after ↦
      let same : at ≡ place = omega arith in
      let one = same_Some here line (sym is_here ∙ ap (λ (k : ℕ). slice_get lines k) (sym same) ∙ is_line) in
      subst (λ (x : Line). ¬ Says x) one not_here
]

-- the first lines have none where one of them has it
pub not-HasNoneBelow : (lines : List Line) (bound : ℕ) (Says : Line → Type 0) → HasLine (take bound lines) Says → HasNoneBelow lines bound Says → ⊥
not-HasNoneBelow lines bound Says has none =
    let here = has.1 in
    let at = slice_get-take bound lines has.0 here.0 here.1 in
    none has.0 here.0 at.0 at.1 here.2
