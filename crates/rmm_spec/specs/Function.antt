-- The functions of the profile, a row each: its number, how many words it takes, and which parts of a state it may change.
-- Arm's function identifiers (DEN0137, RMI and RSI commands; PSCI); Exit is this project's own.
use Rattle.std.specs.Prelude.{ℕ, List, [], ◌∷◌}
use Rattle.rmm_spec.specs.declared.function_id.FunctionId.{FunctionId}
use Rattle.rmm_spec.specs.declared.function_id.FunctionId.TheVariants.{GranuleDelegate, GranuleUndelegate, DataCreate, DataCreateUnknown, DataDestroy, RealmActivate, RealmCreate, RealmDestroy, RecCreate, RecDestroy, RecEnter, RttCreate, RttDestroy, RttMapUnprotected, RttReadEntry, RttUnmapUnprotected, RttFold, RttInitRipas, RttSetRipas, MeasurementRead, MeasurementExtend, RealmConfig, IpaStateSet, IpaStateGet, HostCall, CpuOff, SystemOff, Exit}

-- the maps of a state
pub data Part : Type 0 where
  Tags : Part
  Realms : Part
  Recs : Part
  Tables : Part
  Leaves : Part

pub record FunctionRow : Type 0 where
  pub number : ℕ
  pub words : ℕ
  pub changes : List Part

abbrev function : ℕ → ℕ → List Part → FunctionRow
function number words changes = record { number = number; words = words; changes = changes }

unfoldable pub row_of : FunctionId → FunctionRow
row_of GranuleDelegate = function 0xc4000151 1 (Tags ∷ [])
row_of GranuleUndelegate = function 0xc4000152 1 (Tags ∷ [])
row_of DataCreate = function 0xc4000153 9 (Tags ∷ Realms ∷ Leaves ∷ [])
row_of DataCreateUnknown = function 0xc4000154 3 (Tags ∷ Leaves ∷ [])
row_of DataDestroy = function 0xc4000155 2 (Tags ∷ Leaves ∷ [])
row_of RealmActivate = function 0xc4000157 1 (Realms ∷ [])
row_of RealmCreate = function 0xc4000158 6 (Tags ∷ Realms ∷ Tables ∷ Leaves ∷ [])
row_of RealmDestroy = function 0xc4000159 1 (Tags ∷ Realms ∷ Tables ∷ Leaves ∷ [])
row_of RecCreate = function 0xc400015a 6 (Tags ∷ Realms ∷ Recs ∷ [])
row_of RecDestroy = function 0xc400015b 1 (Tags ∷ Recs ∷ [])
row_of RecEnter = function 0xc400015c 1 (Recs ∷ [])
row_of RttCreate = function 0xc400015d 4 (Tags ∷ Tables ∷ Leaves ∷ [])
row_of RttDestroy = function 0xc400015e 3 (Tags ∷ Tables ∷ Leaves ∷ [])
row_of RttMapUnprotected = function 0xc400015f 3 (Leaves ∷ [])
row_of RttReadEntry = function 0xc4000161 3 []
row_of RttUnmapUnprotected = function 0xc4000162 2 (Leaves ∷ [])
row_of RttFold = function 0xc4000166 3 (Tags ∷ Tables ∷ Leaves ∷ [])
row_of RttInitRipas = function 0xc4000168 3 (Realms ∷ Leaves ∷ [])
row_of RttSetRipas = function 0xc4000169 4 (Recs ∷ Leaves ∷ [])
row_of MeasurementRead = function 0xc4000192 1 []
row_of MeasurementExtend = function 0xc4000193 10 (Realms ∷ [])
row_of RealmConfig = function 0xc4000196 0 []
row_of IpaStateSet = function 0xc4000197 3 (Recs ∷ [])
row_of IpaStateGet = function 0xc4000198 1 []
row_of HostCall = function 0xc4000199 1 (Recs ∷ [])
row_of CpuOff = function 0x84000002 0 (Recs ∷ [])
row_of SystemOff = function 0x84000008 0 (Realms ∷ Recs ∷ [])
row_of Exit = function 1 0 (Recs ∷ [])

-- all of them
abbrev pub functions : List FunctionId
functions =
    GranuleDelegate ∷ GranuleUndelegate ∷ DataCreate ∷ DataCreateUnknown ∷ DataDestroy ∷ RealmActivate ∷ RealmCreate ∷ RealmDestroy ∷ RecCreate
    ∷ RecDestroy ∷ RecEnter ∷ RttCreate ∷ RttDestroy ∷ RttMapUnprotected ∷ RttReadEntry ∷ RttUnmapUnprotected ∷ RttFold ∷ RttInitRipas
    ∷ RttSetRipas ∷ MeasurementRead ∷ MeasurementExtend ∷ RealmConfig ∷ IpaStateSet ∷ IpaStateGet ∷ HostCall ∷ CpuOff ∷ SystemOff ∷ Exit ∷ []

-- the number of a function
unfoldable pub number_of : FunctionId → ℕ
unfolding row_of
number_of f = (row_of f).number

-- how many words a function takes
unfoldable pub word_count : FunctionId → ℕ
unfolding row_of
word_count f = (row_of f).words
