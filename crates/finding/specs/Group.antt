-- Groups of CPUs, by those that are outside: none of these has an open call that has to come before one of the group's.
use Rattle.std.specs.Prelude.{◌≡◌, ◌⊎◌, ⊤, ℕ, ◌<◌, Bool, true, false, not, List, slice_get, slice_index_or, Option, Some, None, unwrap_or}
use Rattle.rmm_spec.specs.Locks.{is_named}
use Rattle.rmm_spec.specs.State.{State}
use Rattle.rmm_spec.specs.Step.Terms.{named}
use Rattle.verdict_laws.specs.Ending.{EndsLater, NamesNoPart}
use Rattle.finding.specs.MayPass.{MayPass}
use Rattle.finding.specs.Next.{IsCarriedOut}
use Rattle.finding.specs.declared.group.Group.{Group}
use Rattle.finding.specs.declared.next_call.NextCall.{NextCall}

abbrev pub is_outside : List Bool → ℕ → Bool
is_outside outside cpu = unwrap_or (slice_get outside cpu) false

-- whether the CPU is of the group
abbrev pub is_inside : Group → ℕ → Bool
is_inside group cpu = not (is_outside group.outside cpu)

-- the first call names no granule that the other names
abbrev pub NamesOthers : NextCall → NextCall → Type 0
NamesOthers next other = (granule : ℕ) → is_named (named next.call) granule ≡ true → is_named (named other.call) granule ≡ false

-- no call of another CPU, of so many, names a granule that the call of this one names
abbrev pub IsNamedAlone : List (Option NextCall) → ℕ → NextCall → ℕ → Type 0
IsNamedAlone calls cpu next bound =
    (other : ℕ) (found : NextCall) → other < bound → ¬ (other ≡ cpu) → slice_get calls other ≡ Some (Some found) → NamesOthers next found

-- The one ends something, and may as well come behind the other CPU's call, which names nothing that is a part of anything or that another names.
pub record EndsLast (calls : List (Option NextCall)) (state : State) (other : ℕ) (one two : NextCall) : Type 0 where
  pub later : EndsLater one.call two.call
  pub done : IsCarriedOut one
  pub done_too : IsCarriedOut two
  pub whole : NamesNoPart state two.call
  pub alone : IsNamedAlone calls other two 8

-- the one may as well come behind the other, where there are two
abbrev pub PassesWhere : List (Option NextCall) → State → ℕ → Option NextCall → Option NextCall → Type 0
PassesWhere calls state other (Some one) (Some two) = MayPass one two ⊎ EndsLast calls state other one two
PassesWhere calls state other None two = ⊤
PassesWhere calls state other (Some one) None = ⊤

-- the call of the one CPU may as well come behind that of the other
abbrev pub PassesAt : List (Option NextCall) → State → ℕ → ℕ → Type 0
PassesAt calls state cpu other = PassesWhere calls state other (slice_index_or calls cpu None) (slice_index_or calls other None)

-- that of the CPU may as well come behind those of the CPUs inside, of so many
abbrev pub PassesInside : List (Option NextCall) → State → (ℕ → Bool) → ℕ → ℕ → Type 0
PassesInside calls state group cpu bound = (other : ℕ) → other < bound → group other ≡ true → PassesAt calls state cpu other

-- and so may those of the CPUs outside, of so many
abbrev pub PassInside : List (Option NextCall) → State → (ℕ → Bool) → ℕ → Type 0
PassInside calls state group bound = (cpu : ℕ) → cpu < bound → group cpu ≡ false → PassesInside calls state group cpu 8
