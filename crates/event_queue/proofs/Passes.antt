-- The passes, one CPU further.
use Rattle.event_queue.proofs.Common.{◌≡◌, ℕ, zero, suc, ◌+◌, ◌<◌, List, [], ◌∷◌, ◌++◌, length, Some, arith, sym, ap, ◌∙◌, subst, slice_get, length_push, CpuView, before_calls}
use Rattle.atomic_table.specs.Seated.{TableId}

-- each element is the one of its place, with one element more
each_pushed : {X : Type 0} (f : ℕ → X) (xs : List X) (x : X) → ((k : ℕ) → k < length xs → slice_get xs k ≡ Some (f k)) → x ≡ f (length xs)
    → (k : ℕ) → k < length (xs ++ x ∷ []) → slice_get (xs ++ x ∷ []) k ≡ Some (f k)
each_pushed f [] x each last zero within = ap Some last
each_pushed f [] x each last (suc k) within = absurd (omega arith)
each_pushed f (first ∷ xs) x each last zero within = each 0 (omega arith)
each_pushed f (first ∷ xs) x each last (suc k) within = each_pushed (λ j. f (suc j)) xs x (λ j below. each (suc j) (omega arith)) last k (omega arith)

-- so many CPUs have their passes
pub record AreSeated (queue : TableId) (cpus count : ℕ) (passes : List CpuView) : Type 0 where
  pub counted : length passes ≡ count
  pub each : (cpu : ℕ) → cpu < count → slice_get passes cpu ≡ Some (before_calls queue cpus cpu)

pub are_seated-push : (queue : TableId) (cpus count : ℕ) (passes new : List CpuView) (pass : CpuView) → AreSeated queue cpus count passes
    → new ≡ passes ++ pass ∷ [] → pass ≡ before_calls queue cpus count → AreSeated queue cpus (count + 1) new
are_seated-push queue cpus count passes new pass old is_new is_pass =
    let longer = length_push passes pass in
    subst (AreSeated queue cpus (count + 1)) (sym is_new) (record {
      counted = omega (arith, longer, old.counted);
      each = λ cpu below. each_pushed (before_calls queue cpus) passes pass (λ k within. old.each k (omega (arith, old.counted)))
          (is_pass ∙ ap (before_calls queue cpus) (sym old.counted)) cpu (omega (arith, longer, old.counted));
    })
