-- What a CPU's go reports, by how far it has come.
use Rattle.world.proofs.Common.{◌<◌, ◌==◌, ◌∙◌, ◌∷◌, ◌≡◌, Bool, Command, Contains, Cpu, Decided, Deciding, Did, IsGoing, IsNext, List, None, Reply, Some, Take, World, [], ap, arith, call_of, eq-eqb, false, false≢true, held_cells, holder_of, if◌then◌else◌, length, none-some, refl, same_Some, slice_get, subst, suc, sym, true, vec_len, views_of, world_from, world_of, zero, ℕ}
use Rattle.std.specs.Prelude.{nat_lt}
use Rattle.std.specs.List.{list_any}
use Rattle.std.proofs.lemmas.Bool.{ltb-true, ltb-false}
use Rattle.std.proofs.lemmas.Option.{slice_get_past}
use Rattle.rmm_spec.specs.Lookup.{any_below, is_cpu}
use Rattle.rmm_spec.specs.World.{Phase, Between, GivenUp, Stopped}
use Rattle.rmm_spec.specs.Waits.{Blocked, Idle}
use Rattle.rmm_spec.specs.Waits as turn
use Rattle.spec_lemmas.proofs.Members.{Contains-nil}
use Rattle.spec_lemmas.proofs.Placed.{any_below-from}
use Rattle.command_core.specs.declared.next.Next.{Next}
use Rattle.command_core.specs.Next as plan
use Rattle.world.specs.declared.cpus.Cpus.{Cpus}
use Rattle.world.specs.declared.world.World as own
use Rattle.world.specs.Cpus.{is_decided, told}
use Rattle.world.specs.Next.{next_in, next_for, is_taken, next_report, call_report, return_report, report_in, go_report}
use Rattle.world.proofs.Calls.{no_first, first-and_others}
use Rattle.world.proofs.Locked.{taken-contains, contains-taken}

-- ---- by phase

pub called-report : (w : World) (cpu number : ℕ) (command : Command) → w.phase cpu ≡ Between number → slice_get (w.program cpu) 0 ≡ Some command
    → Did turn.Call ≡ go_report w cpu
unfolding go_report
called-report w cpu number command between first =
    sym (ap (report_in w cpu) between ∙ ap call_report (first-and_others (w.program cpu) command first))

pub all_called-report : (w : World) (cpu number : ℕ) → w.phase cpu ≡ Between number → slice_get (w.program cpu) 0 ≡ None → Idle ≡ go_report w cpu
unfolding go_report
all_called-report w cpu number between none = sym (ap (report_in w cpu) between ∙ ap call_report (no_first (w.program cpu) none))

pub next-report : (w : World) (cpu : ℕ) (n : Next) → IsNext w cpu n → next_report w n ≡ go_report w cpu
unfolding go_report
next-report w cpu n next = ap (next_report w) next.is_next ∙ sym (ap (report_in w cpu) next.deciding.is_deciding)

pub returned-report : (w : World) (cpu number : ℕ) (command : Command) (given : Reply) → w.phase cpu ≡ Decided number command given → w.taken cpu ≡ []
    → Did turn.Return ≡ go_report w cpu
unfolding go_report
returned-report w cpu number command given decided none = sym (ap (report_in w cpu) decided ∙ ap return_report none)

some_held : (locks : List ℕ) → 0 < length locks → return_report locks ≡ Did turn.Free
some_held [] some = absurd (omega (arith, some))
some_held (lock ∷ others) some = refl

pub freed-report : (w : World) (cpu : ℕ) → is_decided (w.phase cpu) ≡ true → 0 < length (w.taken cpu) → Did turn.Free ≡ go_report w cpu
unfolding go_report
freed-report w cpu decided some = by (w.phase cpu) decided
  where
    by : (p : Phase) → is_decided p ≡ true → Did turn.Free ≡ report_in w cpu p
    by (Between number) is = absurd (false≢true is)
    by (Deciding number command learnt) is = absurd (false≢true is)
    by (Decided number command given) is = sym (some_held (w.taken cpu) some)
    by GivenUp is = absurd (false≢true is)
    by Stopped is = absurd (false≢true is)

pub ended-report : (w : World) (cpu : ℕ) → (IsGoing (w.phase cpu) → ⊥) → Idle ≡ go_report w cpu
unfolding go_report
ended-report w cpu ended = by (w.phase cpu) ended
  where
    by : (p : Phase) → (IsGoing p → ⊥) → Idle ≡ report_in w cpu p
    by (Between number) none = absurd (none tt)
    by (Deciding number command learnt) none = absurd (none tt)
    by (Decided number command given) none = absurd (none tt)
    by GivenUp none = refl
    by Stopped none = refl

-- ---- locks that are held

-- who holds a lock is one of the CPUs
taken-fits : (cpus : Cpus) (cpu granule : ℕ) → Contains ((views_of cpus).taken cpu) granule → cpu < vec_len cpus.list
unfolding views_of
taken-fits cpus cpu granule has = by (nat_lt cpu (length cpus.list.items)) refl
  where
    by : (b : Bool) → nat_lt cpu (length cpus.list.items) ≡ b → cpu < vec_len cpus.list
    by true within = omega (arith, ltb-true cpu (length cpus.list.items) within, cpus.list.ok.0)
    by false past =
        absurd (Contains-nil granule (subst (λ o. Contains (told (λ (c : Cpu). c.taken.items) [] o) granule)
        (slice_get_past cpus.list.items cpu (omega (arith, ltb-false cpu (length cpus.list.items) past))) has))

pub is_taken-held : (s : own.World) (cpu granule : ℕ) → Contains ((world_of s).taken cpu) granule → is_taken (world_of s) granule ≡ true
unfolding world_of world_from is_taken
is_taken-held s cpu granule has =
    let taken = (views_of s.cpus).taken in
    any_below-from s.history.recorded.config.cpus (λ c. list_any (λ lock. lock == granule) (taken c)) cpu
    (omega (arith, taken-fits s.cpus cpu granule has, s.has_cpus)) (contains-taken (taken cpu) granule has)

none_below : (n : ℕ) (passes : ℕ → Bool) → ((k : ℕ) → passes k ≡ false) → any_below n passes ≡ false
none_below zero passes none = refl
none_below (suc n) passes none = rw (none n) (none_below n passes none)

-- nobody holds a lock that has no holder
pub is_taken-free : (s : own.World) (granule : ℕ) → holder_of s.locks granule ≡ None → is_taken (world_of s) granule ≡ false
unfolding world_of world_from is_taken
is_taken-free s granule free =
    none_below s.history.recorded.config.cpus (λ c. list_any (λ lock. lock == granule) ((views_of s.cpus).taken c))
    (λ c. s.kept.locked.held c granule ∙ ap (is_cpu c) free)

-- and its holder has it
pub taken-held : (s : own.World) (cpu granule : ℕ) → holder_of s.locks granule ≡ Some cpu → Contains ((world_of s).taken cpu) granule
unfolding world_of world_from
taken-held s cpu granule held =
    taken-contains ((views_of s.cpus).taken cpu) granule (s.kept.locked.held cpu granule ∙ ap (is_cpu cpu) held ∙ eq-eqb cpu cpu refl)

-- ---- waits

-- what a lock that comes next leads to
pub take-report : (w : World) (granule : ℕ) (b : Bool)
    → is_taken w granule ≡ b → next_report w (Take granule) ≡ (if b then Blocked granule else Did turn.Take)
take-report w granule b is = ap (λ taken. if taken then Blocked granule else Did turn.Take) is

-- where a plan is known, its report is
pub planned-report : (w : World) (cpu : ℕ) (n : Next) → next_for w cpu ≡ Some n → go_report w cpu ≡ next_report w n
unfolding next_for go_report
planned-report w cpu n is = by (w.phase cpu) is
  where
    by : (p : Phase) → next_in w.config (w.place cpu) (held_cells w cpu) p ≡ Some n → report_in w cpu p ≡ next_report w n
    by (Between number) next = absurd (none-some n next)
    by (Deciding number command learnt) next =
        ap (next_report w) (same_Some (plan.next w.config (call_of command) (w.place cpu) learnt (held_cells w cpu)) n next)
    by (Decided number command given) next = absurd (none-some n next)
    by GivenUp next = absurd (none-some n next)
    by Stopped next = absurd (none-some n next)
