-- Where no CPU's go would make a move, each waits at a rising take, or has nothing to do.
use Rattle.world.proofs.Common.{◌∷◌, ◌≡◌, Bool, Command, Contains, Decided, Deciding, Did, IsGoing, IsTrue, List, Option, Ready, Some, Take, World, [], ap, are_distinct, awaited, call_of, false, held_cells, if◌then◌else◌, inl, inr, none-some, refl, same_Some, subst, sym, true, ℕ}
use Rattle.std.proofs.Common.{◌⊎◌}
use Rattle.rmm_spec.specs.World.{Phase, Between, GivenUp, Stopped}
use Rattle.rmm_spec.specs.declared.turn.Will.TheVariants.{Go}
use Rattle.rmm_spec.specs.Waits.{Blocked, Idle, IsRising, IsIdle, AreRising, Wants, WaitsBy, IsStuck}
use Rattle.rmm_spec.specs.Waits as turn
use Rattle.spec_lemmas.proofs.Members.{granules_held-cells_at}
use Rattle.spec_lemmas.proofs.Placed.{passing_below}
use Rattle.command_core.specs.declared.next.Next.{Next}
use Rattle.command_core.specs.declared.next.Next.TheVariants.{Free}
use Rattle.command_core.specs.Next as plan
use Rattle.command_core.specs.Plan.{IsPlanned}
use Rattle.command_core.proofs.Steps.{next-planned}
use Rattle.world.specs.Kept.{IsKept, has_taken}
use Rattle.world.specs.Next.{is_taken, next_report, call_report, return_report, report_in, go_report, blocking, IsNoMove, StandsStill}
use Rattle.world.proofs.Locked.{taken-contains}

-- what is awaited is the granule that is reported
reported : (report : turn.Report) (granule : ℕ) → awaited report ≡ Some granule → report ≡ Blocked granule
reported (Did kind) granule is = absurd (none-some granule is)
reported (Blocked wanted) granule is = ap Blocked (same_Some wanted granule is)
reported Idle granule is = absurd (none-some granule is)

module _ (w : World) (holder waits : ℕ → Option ℕ) (kept : IsKept w holder waits) where
  -- the plan's next is right to do
  planned : (cpu number : ℕ) (command : Command) (learnt : Option ℕ) → w.phase cpu ≡ Deciding number command learnt
      → IsPlanned w.config command (w.place cpu) learnt (held_cells w cpu)
      (plan.next w.config (call_of command) (w.place cpu) learnt (held_cells w cpu))
  planned cpu number command learnt deciding =
      next-planned w.config command (w.place cpu) learnt (held_cells w cpu)
      (subst (λ locks. IsTrue (are_distinct locks)) (sym (granules_held-cells_at w.cells (w.taken cpu))) (kept.locked.distinct cpu))

  -- a take that is reported as blocked is what comes next
  blocked-next : (cpu granule : ℕ) (command : Command) (learnt : Option ℕ) (n : Next)
      → IsPlanned w.config command (w.place cpu) learnt (held_cells w cpu) n → next_report w n ≡ Blocked granule
      → IsPlanned w.config command (w.place cpu) learnt (held_cells w cpu) (Take granule)
  blocked-next cpu granule command learnt (Take lock) right is = by (is_taken w lock) is
    where
      by : (b : Bool) → (if b then Blocked lock else Did turn.Take) ≡ Blocked granule
          → IsPlanned w.config command (w.place cpu) learnt (held_cells w cpu) (Take granule)
      by true same =
          let one : lock ≡ granule = same_Some lock granule (ap awaited same) in
          subst (λ g. IsPlanned w.config command (w.place cpu) learnt (held_cells w cpu) (Take g)) one right
      by false same = absurd (none-some granule (ap awaited same))
  blocked-next cpu granule command learnt (Free lock rd) right is = absurd (none-some granule (ap awaited is))
  blocked-next cpu granule command learnt Ready right is = absurd (none-some granule (ap awaited is))

  no_call : (commands : List Command) (granule : ℕ) → call_report commands ≡ Blocked granule → ⊥
  no_call [] granule is = none-some granule (ap awaited is)
  no_call (command ∷ others) granule is = none-some granule (ap awaited is)

  no_return : (locks : List ℕ) (granule : ℕ) → return_report locks ≡ Blocked granule → ⊥
  no_return [] granule is = none-some granule (ap awaited is)
  no_return (lock ∷ others) granule is = none-some granule (ap awaited is)

  -- where a go would be blocked, its CPU is at that rising take
  pub blocking-rises : AreRising w (Wants (blocking w))
  unfolding go_report
  blocking-rises cpu granule is = by (w.phase cpu) refl (reported (go_report w cpu) granule is)
    where
      by : (p : Phase) → w.phase cpu ≡ p → report_in w cpu p ≡ Blocked granule → IsRising w cpu granule
      by (Between number) at blocked = absurd (no_call (w.program cpu) granule blocked)
      by (Deciding number command learnt) at blocked = record {
        deciding = record { number = number; command = command; learnt = learnt; is_deciding = at };
        rising = blocked-next cpu granule command learnt (plan.next w.config (call_of command) (w.place cpu) learnt (held_cells w cpu))
            (planned cpu number command learnt at) blocked;
      }
      by (Decided number command given) at blocked = absurd (no_return (w.taken cpu) granule blocked)
      by GivenUp at blocked = absurd (none-some granule (ap awaited blocked))
      by Stopped at blocked = absurd (none-some granule (ap awaited blocked))

  -- somebody holds a lock that is held
  holder-of_taken : (granule : ℕ) → is_taken w granule ≡ true → (other : ℕ) × Contains (w.taken other) granule
  unfolding is_taken
  holder-of_taken granule is =
      let found = passing_below w.config.cpus (λ other. has_taken (w.taken other) granule) is in
      (found.0, taken-contains (w.taken found.0) granule found.2)

  still-next : (cpu : ℕ) (n : Next) → awaited (next_report w n) ≡ blocking w cpu
      → IsNoMove (next_report w n) → (other : ℕ) × WaitsBy w (Wants (blocking w)) cpu other
  still-next cpu (Take lock) is still = by (is_taken w lock) refl is still
    where
      by : (b : Bool) → is_taken w lock ≡ b → awaited (if b then Blocked lock else Did turn.Take) ≡ blocking w cpu
          → IsNoMove (if b then Blocked lock else Did turn.Take) → (other : ℕ) × WaitsBy w (Wants (blocking w)) cpu other
      by true held same none = let other = holder-of_taken lock held in (other.0, (lock, sym same, other.1))
      by false free same none = absurd none
  still-next cpu (Free lock rd) is still = absurd still
  still-next cpu Ready is still = absurd still

  no_return_still : (locks : List ℕ) → IsNoMove (return_report locks) → ⊥
  no_return_still [] still = still
  no_return_still (lock ∷ others) still = still

  done-still : (cpu number : ℕ) (commands : List Command) → w.phase cpu ≡ Between number → w.program cpu ≡ commands → IsNoMove (call_report commands)
      → IsIdle w cpu Go
  done-still cpu number [] at left still = inr (record { number = number; is_between = at; none_left = left })
  done-still cpu number (command ∷ others) at left still = absurd still

  -- a world that stands still is stuck
  pub stuck-still : StandsStill w → IsStuck w (Wants (blocking w))
  unfolding go_report
  stuck-still still cpu is_cpu = by (w.phase cpu) refl (still cpu is_cpu)
    where
      by : (p : Phase) → w.phase cpu ≡ p → IsNoMove (report_in w cpu p) → ((other : ℕ) × WaitsBy w (Wants (blocking w)) cpu other) ⊎ IsIdle w cpu Go
      by (Between number) at none = inr (done-still cpu number (w.program cpu) at refl none)
      by (Deciding number command learnt) at none =
          inl (still-next cpu (plan.next w.config (call_of command) (w.place cpu) learnt (held_cells w cpu))
          (ap (λ p. awaited (report_in w cpu p)) (sym at)) none)
      by (Decided number command given) at none = absurd (no_return_still (w.taken cpu) none)
      by GivenUp at none = inr (inl (λ going. subst IsGoing at going))
      by Stopped at none = inr (inl (λ going. subst IsGoing at going))
