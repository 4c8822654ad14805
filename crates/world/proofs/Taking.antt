-- What comes next for a CPU: the lock that it takes or frees.
use Rattle.world.proofs.Common.{◌++◌, ◌+◌, ◌<◌, ◌==◌, ◌∙◌, ◌∷◌, ◌≡◌, Bool, Command, Config, Contains, Decided, Deciding, IsNext, IsTrue, List, None, Option, Some, World, [], ap, arith, call_of, cells_at, eqb-true, false, false≢true, get_or, held_cells, if◌then◌else◌, is_deciding, length, none-some, phase_in, refl, same_Some, slice_get, subst, sym, take, true, vec_len, world_from, world_of, ℕ}
use Rattle.std.proofs.Common.{◌-◌}
use Rattle.std.proofs.lemmas.Option.{slice_get_within, get_or_from_slice_get, slice_get-get_or}
use Rattle.std.proofs.lemmas.List.{length-map, take_all, take_more}
use Rattle.rmm_spec.specs.Lookup.{is_granule}
use Rattle.rmm_spec.specs.Cell.{Cell, Rec, rec_in}
use Rattle.rmm_spec.specs.Shape.{CpuPlace}
use Rattle.rmm_spec.specs.Local.{HeldCell}
use Rattle.rmm_spec.specs.World.{Phase, Between, GivenUp, Stopped, MayLearn}
use Rattle.rmm_spec.specs.Waits.{IsRising, MayFree}
use Rattle.spec_lemmas.proofs.Members.{granules_held-cells_at}
use Rattle.command_core.specs.declared.next.Next.{Next}
use Rattle.command_core.specs.declared.next.Next.TheVariants as next
use Rattle.command_core.specs.Seen.{cell_in}
use Rattle.command_core.specs.Settled.{is_settled}
use Rattle.command_core.specs.Next as plan
use Rattle.command_core.specs.Plan.{LearnsOwner, IsPlanned, is_ready}
use Rattle.world.specs.declared.phase.Phase as own
use Rattle.world.specs.declared.world.World as world
use Rattle.world.specs.declared.phase.Phase.TheVariants as phase
use Rattle.world.specs.Cpus.{is_decided}
use Rattle.world.specs.Next.{next_in, next_for}

-- ---- what comes next

-- a phase that is not an open call's is none in the definitions
pub not_deciding : (p : own.Phase) → ((number : ℕ) (command : Command) (learnt : Option ℕ) → p ≡ phase.Deciding number command learnt → ⊥)
    → (number : ℕ) (command : Command) (learnt : Option ℕ) → phase_in p ≡ Deciding number command learnt → ⊥
not_deciding (phase.Between n) none number command learnt is = false≢true (ap is_deciding is)
not_deciding (phase.Deciding n c l) none number command learnt is = none n c l refl
not_deciding (phase.Decided n c r) none number command learnt is = false≢true (ap is_deciding is)
not_deciding phase.GivenUp none number command learnt is = false≢true (ap is_deciding is)
not_deciding phase.Stopped none number command learnt is = false≢true (ap is_deciding is)

-- what is planned on what the world has comes next in it
pub next-planned : (w : World) (cpu : ℕ) (n : Next) (config : Config) (place : CpuPlace) (held : List HeldCell) (number : ℕ) (command : Command)
    (learnt : Option ℕ) → w.phase cpu ≡ Deciding number command learnt → config ≡ w.config → place ≡ w.place cpu → held ≡ held_cells w cpu
    → n ≡ plan.next config (call_of command) place learnt held
    → IsPlanned config command place learnt held n → is_settled config (call_of command) place held ≡ is_ready n → IsNext w cpu n
next-planned w cpu n config place held number command learnt deciding has_granules at holds is planned settled = record {
  deciding = record { number = number; command = command; learnt = learnt; is_deciding = deciding };
  is_next = is ∙ (λ i. plan.next (has_granules i) (call_of command) (at i) learnt (holds i));
  planned = subst (λ g. IsPlanned g command (w.place cpu) learnt (held_cells w cpu) n) has_granules
      (subst (λ p. IsPlanned config command p learnt (held_cells w cpu) n) at (subst (λ h. IsPlanned config command place learnt h n) holds planned));
  settled = sym (λ i. is_settled (has_granules i) (call_of command) (at i) (holds i)) ∙ settled;
}

-- it is what the plan says
pub next-for : (w : World) (cpu : ℕ) (n : Next) → IsNext w cpu n → next_for w cpu ≡ Some n
unfolding next_for
next-for w cpu n next = ap (next_in w.config (w.place cpu) (held_cells w cpu)) next.deciding.is_deciding ∙ ap Some (sym next.is_next)

pub rising-next : (w : World) (cpu granule : ℕ) → IsNext w cpu (next.Take granule) → IsRising w cpu granule
rising-next w cpu granule n = record { deciding = n.deciding; rising = n.planned }

-- its lock has a place
pub lock-next : (s : world.World) (cpu granule : ℕ)
    → IsNext (world_of s) cpu (next.Take granule) → IsTrue (is_granule (vec_len s.locks.holders) granule)
unfolding world_of world_from
lock-next s cpu granule n = subst (λ size. IsTrue (is_granule size granule)) (sym s.has_locks) (rising-next (world_of s) cpu granule n).rising.is_lock

-- there is room for one more
pub room-rising : (w : World) (cpu granule : ℕ) → IsRising w cpu granule → length (w.taken cpu) < 6
room-rising w cpu granule rising =
    omega (
      arith,
      rising.rising.room,
      ap length (granules_held-cells_at w.cells (w.taken cpu)),
      length-map (held_cells w cpu) (λ (h : HeldCell). h.granule),
    )

-- a cell that is found among those held is the world's
found-cell : (cells : ℕ → Cell) (taken : List ℕ) (granule : ℕ) (cell : Cell)
    → cell_in granule (cells_at cells taken) ≡ Some cell → cells granule ≡ cell
found-cell cells [] granule cell is = absurd (none-some cell is)
found-cell cells (lock ∷ taken) granule cell is = by (lock == granule) refl (found-cell cells taken granule cell) is
  where
    by : (b : Bool) → (lock == granule) ≡ b → (cell_in granule (cells_at cells taken) ≡ Some cell → cells granule ≡ cell)
        → (if b then Some (cells lock) else cell_in granule (cells_at cells taken)) ≡ Some cell → cells granule ≡ cell
    by true same rest here = ap cells (sym (eqb-true lock granule same)) ∙ same_Some (cells lock) cell here
    by false apart rest here = rest here

pub held-next : (w : World) (cpu granule : ℕ) (learnt : Option ℕ) → IsNext w cpu (next.Free granule learnt) → Contains (w.taken cpu) granule
held-next w cpu granule None n = subst (λ taken. Contains taken granule) (granules_held-cells_at w.cells (w.taken cpu)) n.planned
held-next w cpu granule (Some rd) n = subst (λ taken. Contains taken granule) (granules_held-cells_at w.cells (w.taken cpu)) n.planned.is_held

-- what the plan has a CPU learn may be learnt
learnt-planned : (w : World) (cpu granule : ℕ) (learnt : Option ℕ) (n : IsNext w cpu (next.Free granule learnt))
    → MayLearn w (Deciding n.deciding.number n.deciding.command n.deciding.learnt) granule learnt
learnt-planned w cpu granule None n = tt
learnt-planned w cpu granule (Some rd) n =
    let owner : LearnsOwner w.config (call_of n.deciding.command) (w.place cpu) (held_cells w cpu) granule rd = n.planned in record {
      rec = owner.rec;
      is_enter = owner.is_enter;
      is_rec = ap rec_in (found-cell w.cells (w.taken cpu) granule (Rec owner.rec) owner.is_rec);
      is_owner = owner.is_owner;
      is_lock = owner.is_lock;
      is_other = owner.is_other;
    }

pub learnt-next : (w : World) (cpu granule : ℕ) (learnt : Option ℕ)
    → IsNext w cpu (next.Free granule learnt) → MayLearn w (w.phase cpu) granule learnt
learnt-next w cpu granule learnt n =
    subst (λ p. MayLearn w p granule learnt) (sym n.deciding.is_deciding) (learnt-planned w cpu granule learnt n)

pub free-next : (w : World) (cpu granule : ℕ) (learnt : Option ℕ) → IsNext w cpu (next.Free granule learnt) → MayFree w cpu granule (w.phase cpu)
free-next w cpu granule learnt n = subst (MayFree w cpu granule) (sym n.deciding.is_deciding) tt

-- ---- after a commit

pub no_last : (taken : List ℕ) → 0 < length taken → slice_get taken (length taken - 1) ≡ None → ⊥
no_last taken some is =
    none-some (get_or taken (length taken - 1) 0) (sym is ∙ slice_get-get_or taken (length taken - 1) 0 (omega (arith, some)))

-- what stands before the last
pub last-of : (taken : List ℕ) (last : ℕ) → slice_get taken (length taken - 1) ≡ Some last → (earlier : List ℕ) × (taken ≡ earlier ++ last ∷ [])
last-of taken last is =
    let i = length taken - 1 in
    let within : i < length taken = slice_get_within taken i last is in (
      take i taken,
      sym (take_all (i + 1) taken (omega (arith, within))) ∙ take_more taken i last within
          ∙ ap (λ x. take i taken ++ x ∷ []) (get_or_from_slice_get taken i last last is),
    )

-- nothing may be learnt in whatever phase
pub nothing_learnt : (w : World) (p : Phase) (granule : ℕ) → MayLearn w p granule None
nothing_learnt w (Between number) granule = tt
nothing_learnt w (Deciding number command learnt) granule = tt
nothing_learnt w (Decided number command given) granule = tt
nothing_learnt w GivenUp granule = tt
nothing_learnt w Stopped granule = tt

pub free-last : (w : World) (cpu granule : ℕ) (p : Phase) (earlier : List ℕ)
    → is_decided p ≡ true → w.taken cpu ≡ earlier ++ granule ∷ [] → MayFree w cpu granule p
free-last w cpu granule (Between number) earlier decided is = absurd (false≢true decided)
free-last w cpu granule (Deciding number command learnt) earlier decided is = absurd (false≢true decided)
free-last w cpu granule (Decided number command given) earlier decided is = record { earlier = earlier; is_last = is }
free-last w cpu granule GivenUp earlier decided is = absurd (false≢true decided)
free-last w cpu granule Stopped earlier decided is = absurd (false≢true decided)
