-- The granules of what is held, also without one of them.
use Rattle.std.proofs.Common.{◌≡◌, ℕ, ◌-◌, ◌<◌, Bool, true, false, not, ◌==◌, cond, if◌then◌else◌, List, [], ◌∷◌, length, Option, Some, None, refl, sym, ap, ◌∙◌, arith}
use Rattle.std.specs.Prelude.{IsTrue, IfSome, Contains, is_some, slice_get}
use Rattle.std.specs.List.{filter}
use Rattle.std.proofs.lemmas.Bool.{false≢true, eqb-true, eq-eqb}
use Rattle.std.proofs.lemmas.List.Elements.{All-filter, All-same, All-contains}
use Rattle.std.proofs.lemmas.List.Sums.{length-filter, count_by-le-length}
use Rattle.rmm_spec.specs.HistoryText.{Config}
use Rattle.rmm_spec.specs.declared.call.Call.{Call}
use Rattle.rmm_spec.specs.Lookup.{is_granule}
use Rattle.rmm_spec.specs.Rows.{Needed}
use Rattle.rmm_spec.specs.Shape.{CpuPlace}
use Rattle.rmm_spec.specs.Local.{HeldCell, granules_held}
use Rattle.spec_lemmas.proofs.Members.{Contains-nil, Contains-from_slice_get, Contains-other}
use Rattle.command_core.specs.declared.next.Next.TheVariants.{Free}
use Rattle.command_core.specs.Plan.{IsStep}
use Rattle.command_core.specs.Seen.{cell_in, is_held}
use Rattle.command_core.proofs.SeenCells.{held-contains}
use Rattle.command_core.specs.Pairs.{without_cell}
use Rattle.granule_lock.specs.Locked.{AreGranules}
use Rattle.lemmas.proofs.Members.{Contains-head, Contains-tail}

granules_held-without : (g : ℕ) (held : List HeldCell) → granules_held (without_cell g held) ≡ filter (λ x. not (x == g)) (granules_held held)
granules_held-without g [] = refl
granules_held-without g (h ∷ held) =
    step (not (h.granule == g)) ∙ ap (λ (rest : List ℕ). cond (not (h.granule == g)) (h.granule ∷ rest) rest) (granules_held-without g held)
  where
    step : (b : Bool) → granules_held (cond b (h ∷ without_cell g held) (without_cell g held))
        ≡ cond b (h.granule ∷ granules_held (without_cell g held)) (granules_held (without_cell g held))
    step true = refl
    step false = refl

-- without one
pub granules-without : (granules g : ℕ) (held new : List HeldCell) → AreGranules granules held → new ≡ without_cell g held → AreGranules granules new
granules-without granules g held new are is_new =
    All-same (λ x. IsTrue (is_granule granules x)) (granules_held new) (filter (λ x. not (x == g)) (granules_held held))
    (ap granules_held is_new ∙ granules_held-without g held)
    (All-filter (λ x. not (x == g)) (λ x. IsTrue (is_granule granules x)) (granules_held held) are)

-- a granule of what is held is held
pub is_held-contained : (held : List HeldCell) (g : ℕ) → Contains (granules_held held) g → IsTrue (is_held g held)
is_held-contained [] g has = absurd (Contains-nil g has)
is_held-contained (h ∷ held) g has =
    by (h.granule == g) refl (λ other. is_held-contained held g (Contains-other h.granule (granules_held held) g other has))
  where
    by : (b : Bool) → (h.granule == g) ≡ b → ((h.granule ≡ g → ⊥) → IsTrue (is_held g held))
        → IsTrue (is_some (if b then Some h.cell else cell_in g held))
    by true same rest = refl
    by false other rest = rest (λ same. false≢true (sym other ∙ eq-eqb h.granule g same))

-- one that no held cell has isn't
pub is_held-new : (held : List HeldCell) (g : ℕ) → ((h : HeldCell) → Contains held h → h.granule ≡ g → ⊥) → is_held g held ≡ false
is_held-new [] g none = refl
is_held-new (h ∷ held) g none = by (h.granule == g) refl (is_held-new held g (λ x has. none x (Contains-tail h held x has)))
  where
    by : (b : Bool) → (h.granule == g) ≡ b → is_held g held ≡ false → is_some (if b then Some h.cell else cell_in g held) ≡ false
    by true same rest = absurd (none h (Contains-head h held) (eqb-true h.granule g same))
    by false other rest = rest

-- at least one cell less
pub length-without : (held : List HeldCell) (g : ℕ) → IsTrue (is_held g held) → length (without_cell g held) < length held
length-without [] g has = absurd (false≢true has)
length-without (h ∷ held) g has = by (h.granule == g) (length-without held g) has
  where
    by : (b : Bool) → (IsTrue (is_held g held) → length (without_cell g held) < length held)
        → IsTrue (is_some (if b then Some h.cell else cell_in g held))
        → length (cond (not b) (h ∷ without_cell g held) (without_cell g held)) < length (h ∷ held)
    by true rest here =
        let p : HeldCell → Bool = λ x. not (x.granule == g) in
        omega (arith, length-filter p held, count_by-le-length p held)
    by false rest here = omega (arith, rest here)

-- what is held is one of the granules
pub granule-held : (granules g : ℕ) (held : List HeldCell) → AreGranules granules held → IsTrue (is_held g held) → IsTrue (is_granule granules g)
granule-held granules g held are has = All-contains (λ x. IsTrue (is_granule granules x)) (granules_held held) g are (held-contains held g has)

-- what a plan frees is held
pub held-freed : (config : Config) (c : Call) (place : CpuPlace) (names : List Needed) (held : List HeldCell) (g : ℕ) (owner : Option ℕ)
    → IsStep config c place names held (Free g owner) → Contains (granules_held held) g
held-freed config c place names held g None step = step
held-freed config c place names held g (Some rd) step = step.is_held

-- what stands last is held
pub last-held : (held : List HeldCell) (last : Option ℕ) → last ≡ slice_get (granules_held held) (length (granules_held held) - 1)
    → IfSome last (λ g. IsTrue (is_held g held))
last-held held None is = tt
last-held held (Some g) is =
    is_held-contained held g (Contains-from_slice_get (granules_held held) (length (granules_held held) - 1) g (sym is))
