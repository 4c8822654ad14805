-- What the tests of a CPU's phase say.
use Rattle.world.proofs.Common.{◌∙◌, ◌≡◌, Decided, Deciding, IsDeciding, IsGoing, World, ap, false, false≢true, is_deciding, sym, true, ℕ}
use Rattle.rmm_spec.specs.World.{Phase, Between, GivenUp, Stopped}
use Rattle.world.specs.Cpus.{is_going}

pub going-true : (p : Phase) → is_going p ≡ true → IsGoing p
going-true (Between number) is = tt
going-true (Deciding number command learnt) is = tt
going-true (Decided number command given) is = tt
going-true GivenUp is = absurd (false≢true is)
going-true Stopped is = absurd (false≢true is)

pub going-false : (p : Phase) → is_going p ≡ false → IsGoing p → ⊥
going-false (Between number) is going = false≢true (sym is)
going-false (Deciding number command learnt) is going = false≢true (sym is)
going-false (Decided number command given) is going = false≢true (sym is)
going-false GivenUp is going = going
going-false Stopped is going = going

pub deciding-true : (w : World) (cpu : ℕ) (p : Phase) → w.phase cpu ≡ p → is_deciding p ≡ true → IsDeciding w cpu
deciding-true w cpu (Between number) at is = absurd (false≢true is)
deciding-true w cpu (Deciding number command learnt) at is = record { number = number; command = command; learnt = learnt; is_deciding = at }
deciding-true w cpu (Decided number command given) at is = absurd (false≢true is)
deciding-true w cpu GivenUp at is = absurd (false≢true is)
deciding-true w cpu Stopped at is = absurd (false≢true is)

pub deciding-false : (w : World) (cpu : ℕ) → is_deciding (w.phase cpu) ≡ false → IsDeciding w cpu → ⊥
deciding-false w cpu is deciding = false≢true (sym is ∙ ap is_deciding deciding.is_deciding)
