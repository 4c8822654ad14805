-- Passes that hear of what was drained, one after the other.
use Rattle.event_queue.proofs.Common.{◌≡◌, ℕ, zero, suc, List, [], ◌∷◌, ◌++◌, map, take, Some, refl, subst, slice_get, Event, CpuView, hearing}
use Rattle.std.proofs.Common.{drop}
use Rattle.lemmas.proofs.Elements.{slice_get-map_from}

-- a list of which the first so many elements were replaced
abbrev pub replaced_before : {X : Type 0} → (X → X) → ℕ → List X → List X
replaced_before f count xs = map f (take count xs) ++ drop count xs

-- the next one is as it was
pub replaced-next : {X : Type 0} (f : X → X) (count : ℕ) (xs : List X) → slice_get (replaced_before f count xs) count ≡ slice_get xs count
replaced-next f zero [] = refl
replaced-next f (suc count) [] = refl
replaced-next f zero (x ∷ xs) = refl
replaced-next f (suc count) (x ∷ xs) = replaced-next f count xs

-- what is said of each pass, and not of what it has heard, stays so
pub each_hearing : (P : ℕ → CpuView → Type 0) (drained : List Event) (passes : List CpuView)
    → ((cpu : ℕ) (pass : CpuView) → P cpu pass → P cpu (hearing drained pass))
    → ((cpu : ℕ) (pass : CpuView) → slice_get passes cpu ≡ Some pass → P cpu pass)
    → (cpu : ℕ) (pass : CpuView) → slice_get (map (hearing drained) passes) cpu ≡ Some pass → P cpu pass
each_hearing P drained passes stays each cpu pass at =
    let from = slice_get-map_from (hearing drained) passes cpu pass at in
    subst (P cpu) from.2 (stays cpu from.0 (each cpu from.0 from.1))
