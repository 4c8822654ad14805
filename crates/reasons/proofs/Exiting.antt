-- The REC that would exit is the one that runs on the CPU.
use Rattle.std.proofs.Common.{◌≡◌, ℕ, zero, suc, ◌*◌, ◌||◌, ap, Bool, true, false, Option, Some, None, Result, is_some, refl, if◌then◌else◌}
use Rattle.std.specs.Prelude.{IfSome}
use Rattle.rmm_spec.specs.declared.accepted.Accepted.{Accepted}
use Rattle.rmm_spec.specs.declared.call.Call.TheVariants as call
use Rattle.rmm_spec.specs.declared.refusal.Refusal.{Refusal}
use Rattle.rmm_spec.specs.Lookup.{any_below, greatest_below, is_inside, rec_inside, runs_on}
use Rattle.rmm_spec.specs.State.{State}
use Rattle.rmm_spec.specs.Step.{answer_of, commands, outcome}
use Rattle.rmm_spec.specs.Step.Terms.{class_of, named, words_of}
use Rattle.reasons.specs.Tests.{exiting}

exiting-if : (b : Bool) (here there : Result Accepted Refusal) → exiting (if b then here else there) ≡ (if b then exiting here else exiting there)
exiting-if true here there = refl
exiting-if false here there = refl

-- told by whether the CPU is inside
pub exiting-outcome : (s : State) (cpu : ℕ) → exiting (outcome s cpu call.Exit) ≡ (if is_inside s cpu then Some (rec_inside s cpu) else None)
unfolding outcome answer_of class_of words_of named commands
exiting-outcome s cpu = exiting-if (is_inside s cpu) _ _

-- what an answer that lets one exit says
pub inside-exiting : (found : Option ℕ) (inside : Bool) (rec : ℕ) → found ≡ (if inside then Some rec else None)
    → (is_some found ≡ inside) × IfSome found (λ other. other ≡ rec)
inside-exiting found true rec is = rw is (refl, refl)
inside-exiting found false rec is = rw is (refl, tt)

-- ---- outside

greatest_below-next : (b later : Bool) (n greatest : ℕ) → (b || later) ≡ false → (later ≡ false → greatest ≡ 0) → (if b then n else greatest) ≡ 0
greatest_below-next true later n greatest none rest = absurd cc
greatest_below-next false later n greatest none rest = rest none

greatest_below-none : (n : ℕ) (test : ℕ → Bool) → any_below n test ≡ false → greatest_below n test ≡ 0
greatest_below-none zero test none = refl
greatest_below-none (suc n) test none =
    greatest_below-next (test n) (any_below n test) n (greatest_below n test) none (greatest_below-none n test)

-- no REC is one at which a CPU is that is outside
pub rec_inside-outside : (s : State) (cpu : ℕ) → is_inside s cpu ≡ false → rec_inside s cpu ≡ 0
unfolding is_inside rec_inside
rec_inside-outside s cpu outside =
    ap (λ (k : ℕ). k * 4096) (greatest_below-none s.config.granules (λ k. runs_on cpu (s.rec (k * 4096))) outside)
