-- Each CPU that waits has a plan that takes that lock next, and what other CPUs do leaves it so.
use Rattle.world.proofs.Common.{◌∙◌, ◌≡◌, None, Option, Some, Take, Turns, Will, World, awaited, none-some, put, same_Some, subst, sym, ℕ}
use Rattle.rmm_spec.specs.World.{HasOneHolder}
use Rattle.rmm_spec.specs.declared.turn.Will.TheVariants as wills
use Rattle.rmm_spec.specs.Waits.{Report}
use Rattle.rmm_spec.specs.Waits as turn
use Rattle.spec_lemmas.proofs.Maps.{put_elim}
use Rattle.world_laws.proofs.Turned.{LeavesAlone, LeavesAlone-Moves}
use Rattle.world.specs.Kept.{AreLocks}
use Rattle.world.specs.Next.{next_in, next_for, AreNext}
use Rattle.world.proofs.Locked.{contains-taken, held_by}
use Rattle.lemmas.proofs.Tests.{keys_apart}

-- a lock has one holder
pub HasOneHolder-locks : (granules : ℕ) (w : World) (holder : ℕ → Option ℕ) → AreLocks granules w.taken holder → HasOneHolder w
HasOneHolder-locks granules w holder locks cpu other granule has has_too =
    let mine : holder granule ≡ Some cpu = held_by cpu (holder granule) (sym (locks.held cpu granule) ∙ contains-taken (w.taken cpu) granule has) in
    let theirs : holder granule ≡ Some other =
    held_by other (holder granule) (sym (locks.held other granule) ∙ contains-taken (w.taken other) granule has_too) in
    same_Some cpu other (sym mine ∙ theirs)

-- what is told of a CPU that is left alone is told again
next-alone : (old new : World) (cpu : ℕ) → LeavesAlone old new cpu → next_for new cpu ≡ next_for old cpu
unfolding next_for
next-alone old new cpu alone = λ i. next_in (alone.config i) (alone.place i) (alone.held i) (alone.phase i)

-- one CPU waits for what its plan says, or for nothing
AreNext-put : (w : World) (waits : ℕ → Option ℕ) (cpu : ℕ) (wanted : Option ℕ)
    → ((granule : ℕ) → wanted ≡ Some granule → next_for w cpu ≡ Some (Take granule))
    → ((other granule : ℕ) → (other ≡ cpu → ⊥) → waits other ≡ Some granule → next_for w other ≡ Some (Take granule))
    → AreNext w (put waits cpu wanted)
AreNext-put w waits cpu wanted here others = record {
  each = λ other granule. put_elim (λ a. a ≡ Some granule → next_for w other ≡ Some (Take granule)) waits cpu wanted other
      (λ same is. subst (λ c. next_for w c ≡ Some (Take granule)) (sym same) (here granule is))
      (λ apart is. others other granule (keys_apart other cpu apart) is);
}

-- a turn is blocked only where its plan says so
pub AreNext-turned : (old : World) (cpu : ℕ) (will : Will) (report : Report) (new : World) (waits : ℕ → Option ℕ) → HasOneHolder old
    → Turns old cpu will report new → ((granule : ℕ) → awaited report ≡ Some granule → next_for old cpu ≡ Some (Take granule))
    → AreNext old waits → AreNext new (put waits cpu (awaited report))
AreNext-turned old cpu will (turn.Did kind) new waits one turned here was =
    AreNext-put new waits cpu None (λ granule is. absurd (none-some granule is)) (λ other granule apart is.
    next-alone old new other (LeavesAlone-Moves old turned.move new other one (λ same. apart (same ∙ turned.is_mover)) turned.happens.moves)
    ∙ was.each other granule is)
AreNext-turned old cpu will turn.Idle new waits one turned here was =
    subst (λ w. AreNext w (put waits cpu None)) (sym turned.1)
    (AreNext-put old waits cpu None (λ granule is. absurd (none-some granule is)) (λ other granule apart is. was.each other granule is))
AreNext-turned old cpu wills.Go (turn.Blocked wanted) new waits one turned here was =
    subst (λ w. AreNext w (put waits cpu (Some wanted))) (sym turned.1)
    (AreNext-put old waits cpu (Some wanted) here (λ other granule apart is. was.each other granule is))
AreNext-turned old cpu wills.GiveUp (turn.Blocked wanted) new waits one turned here was = absurd turned
AreNext-turned old cpu wills.Stop (turn.Blocked wanted) new waits one turned here was = absurd turned
