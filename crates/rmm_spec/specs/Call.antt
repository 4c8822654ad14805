-- Commands by name: what a function's words mean. Functions are named as in DEN0137; the words and their order are this
-- profile's, and so is Exit.
use Rattle.std.specs.Prelude.{ℕ, zero, suc, ◌+◌, List, [], ◌∷◌, slice_index}
use Rattle.rmm_spec.specs.declared.call.Call.{Call}
use Rattle.rmm_spec.specs.declared.call.Call.TheVariants as call
use Rattle.rmm_spec.specs.declared.call.Removal.TheVariants.{Destroy, Fold}
use Rattle.rmm_spec.specs.declared.command.Command.{Command}
use Rattle.rmm_spec.specs.declared.function_id.FunctionId.{FunctionId}
use Rattle.rmm_spec.specs.declared.function_id.FunctionId.TheVariants as function
unfoldable pub use Rattle.rmm_spec.specs.Step.Terms.{class_of}
pub use Rattle.rmm_spec.specs.Step.Terms.{Class, ByHost, ByRealm, ByExit}

-- so many words from a place on
abbrev pub words_at : List ℕ → ℕ → ℕ → List ℕ
words_at words place zero = []
words_at words place (suc count) = slice_index words place ∷ words_at words (place + 1) count

-- what a function is called for with these words; a word that isn't there counts as zero
unfoldable pub call_from : FunctionId → List ℕ → Call
call_from function.GranuleDelegate w = call.GranuleDelegate (slice_index w 0)
call_from function.GranuleUndelegate w = call.GranuleUndelegate (slice_index w 0)
call_from function.DataCreate w =
    call.DataCreate (slice_index w 0) (slice_index w 1) (slice_index w 2) (slice_index w 3) (slice_index w 4) (words_at w 5 4)
call_from function.DataCreateUnknown w = call.DataCreateUnknown (slice_index w 0) (slice_index w 1) (slice_index w 2)
call_from function.DataDestroy w = call.DataDestroy (slice_index w 0) (slice_index w 1)
call_from function.RealmActivate w = call.RealmActivate (slice_index w 0)
call_from function.RealmCreate w =
    call.RealmCreate (slice_index w 0) (slice_index w 1) (slice_index w 2) (slice_index w 3) (slice_index w 4) (slice_index w 5)
call_from function.RealmDestroy w = call.RealmDestroy (slice_index w 0)
call_from function.RecCreate w =
    call.RecCreate (slice_index w 0) (slice_index w 1) (slice_index w 2) (slice_index w 3) (slice_index w 4) (slice_index w 5)
call_from function.RecDestroy w = call.RecDestroy (slice_index w 0)
call_from function.RecEnter w = call.RecEnter (slice_index w 0)
call_from function.RttCreate w = call.RttCreate (slice_index w 0) (slice_index w 1) (slice_index w 2) (slice_index w 3)
call_from function.RttDestroy w = call.RttRemove Destroy (slice_index w 0) (slice_index w 1) (slice_index w 2)
call_from function.RttMapUnprotected w = call.RttMapUnprotected (slice_index w 0) (slice_index w 1) (slice_index w 2)
call_from function.RttReadEntry w = call.RttReadEntry (slice_index w 0) (slice_index w 1) (slice_index w 2)
call_from function.RttUnmapUnprotected w = call.RttUnmapUnprotected (slice_index w 0) (slice_index w 1)
call_from function.RttFold w = call.RttRemove Fold (slice_index w 0) (slice_index w 1) (slice_index w 2)
call_from function.RttInitRipas w = call.RttInitRipas (slice_index w 0) (slice_index w 1) (slice_index w 2)
call_from function.RttSetRipas w = call.RttSetRipas (slice_index w 0) (slice_index w 1) (slice_index w 2) (slice_index w 3)
call_from function.MeasurementRead w = call.MeasurementRead (slice_index w 0)
call_from function.MeasurementExtend w = call.MeasurementExtend (slice_index w 0) (slice_index w 1) (words_at w 2 8)
call_from function.RealmConfig w = call.RealmConfig
call_from function.IpaStateSet w = call.IpaStateSet (slice_index w 0) (slice_index w 1) (slice_index w 2)
call_from function.IpaStateGet w = call.IpaStateGet (slice_index w 0)
call_from function.HostCall w = call.HostCall (slice_index w 0)
call_from function.CpuOff w = call.CpuOff
call_from function.SystemOff w = call.SystemOff
call_from function.Exit w = call.Exit

abbrev pub call_of : Command → Call
call_of command = call_from command.function command.words.items
