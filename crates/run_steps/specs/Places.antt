-- Where a function and a condition are counted.
use Rattle.std.specs.Prelude.{ℕ, suc, ◌+◌, ◌*◌, ◌==◌, if◌then◌else◌, List, [], ◌∷◌, length, Option, Some, None, Result, Ok, Err}
use Rattle.rmm_spec.specs.declared.accepted.Accepted.{Accepted}
use Rattle.rmm_spec.specs.declared.condition.Condition.{Condition}
use Rattle.rmm_spec.specs.declared.condition.Condition.TheVariants as condition
use Rattle.rmm_spec.specs.declared.function_id.FunctionId.{FunctionId}
use Rattle.rmm_spec.specs.declared.refusal.Refusal.{Refusal}
use Rattle.rmm_spec.specs.declared.refusal.Refusal.TheVariants as refusal
use Rattle.rmm_spec.specs.Function.{functions, number_of}
use Rattle.run_steps.specs.Replayed.{Told}

-- the place of the first function that has the number
abbrev pub place_among : List FunctionId → ℕ → ℕ
place_among [] number = 0
place_among (called ∷ others) number = if number_of called == number then 0 else suc (place_among others number)

-- each function has a place of its own, as they are listed
unfoldable pub function_place : FunctionId → ℕ
function_place called = place_among functions (number_of called)

-- and so has each condition, from 1 on
abbrev pub condition_place : Condition → ℕ
condition_place condition.Alias = 1
condition_place condition.AuxAlias = 2
condition_place condition.BaseAlign = 3
condition_place condition.BaseBound = 4
condition_place condition.GranState = 5
condition_place condition.IndexBound = 6
condition_place condition.IpaAlign = 7
condition_place condition.IpaBound = 8
condition_place condition.LevelBound = 9
condition_place condition.MpidrIndex = 10
condition_place condition.ParamsSupp = 11
condition_place condition.RealmLive = 12
condition_place condition.RealmNew = 13
condition_place condition.RealmState = 14
condition_place condition.RecOwner = 15
condition_place condition.RecRunnable = 16
condition_place condition.RecState = 17
condition_place condition.RgnBound = 18
condition_place condition.RipasValid = 19
condition_place condition.RttLive = 20
condition_place condition.RttNumLevel = 21
condition_place condition.RttWalk = 22
condition_place condition.RtteRipas = 23
condition_place condition.RtteState = 24
condition_place condition.SizeBound = 25
condition_place condition.SizeValid = 26
condition_place condition.SystemOff = 27
condition_place condition.TopAlign = 28
condition_place condition.TopBound = 29
condition_place condition.TopGranAlign = 30
condition_place condition.TopRttAlign = 31
condition_place condition.VmidValid = 32
condition_place condition.OwnAlike = 33
condition_place condition.OwnBase = 34
condition_place condition.OwnFlags = 35
condition_place condition.OwnImm = 36
condition_place condition.OwnInside = 37
condition_place condition.OwnOutside = 38
condition_place condition.OwnPage = 39
condition_place condition.OwnPending = 40
condition_place condition.OwnRecCount = 41
condition_place condition.OwnRequest = 42
condition_place condition.OwnShape = 43

-- all conditions, in the order of their places
abbrev pub conditions : List Condition
conditions =
    condition.Alias ∷ condition.AuxAlias ∷ condition.BaseAlign ∷ condition.BaseBound ∷ condition.GranState ∷ condition.IndexBound ∷
    condition.IpaAlign ∷ condition.IpaBound ∷ condition.LevelBound ∷ condition.MpidrIndex ∷ condition.ParamsSupp ∷ condition.RealmLive ∷
    condition.RealmNew ∷ condition.RealmState ∷ condition.RecOwner ∷ condition.RecRunnable ∷ condition.RecState ∷ condition.RgnBound ∷
    condition.RipasValid ∷ condition.RttLive ∷ condition.RttNumLevel ∷ condition.RttWalk ∷ condition.RtteRipas ∷ condition.RtteState ∷
    condition.SizeBound ∷ condition.SizeValid ∷ condition.SystemOff ∷ condition.TopAlign ∷ condition.TopBound ∷ condition.TopGranAlign ∷
    condition.TopRttAlign ∷ condition.VmidValid ∷ condition.OwnAlike ∷ condition.OwnBase ∷ condition.OwnFlags ∷ condition.OwnImm ∷
    condition.OwnInside ∷ condition.OwnOutside ∷ condition.OwnPage ∷ condition.OwnPending ∷ condition.OwnRecCount ∷
    condition.OwnRequest ∷ condition.OwnShape ∷ []

abbrev pub refused_place : Option Condition → ℕ
refused_place None = 0
refused_place (Some failing) = condition_place failing

-- what is accepted, or refused for a condition, by the function
abbrev pub place_of : FunctionId → Option Condition → ℕ
place_of called refused = function_place called * 44 + refused_place refused

-- how many places there are
unfoldable pub place_count : ℕ
place_count = length functions * 44

-- the condition for which a command is refused
abbrev pub condition_of : Refusal → Condition
condition_of (refusal.Misplaced failing) = failing
condition_of (refusal.Input failing) = failing
condition_of (refusal.Realm failing index) = failing
condition_of (refusal.Rec failing) = failing
condition_of (refusal.Rtt failing index) = failing

abbrev pub condition_in : Result Accepted Refusal → Option Condition
condition_in (Ok accepted) = None
condition_in (Err refused) = Some (condition_of refused)

abbrev pub place_told : Told → ℕ
place_told told = place_of told.command.function (condition_in told.answer)
