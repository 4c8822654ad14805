-- What is made of a recording's text.
use Rattle.std.specs.Prelude.{◌≡◌, ℕ, ◌<◌, nat_lt, if◌then◌else◌, List, [], length, Option, Some, None, unwrap_or}
use Rattle.rmm_spec.specs.HistoryText.{Config, IsConfig, granule_limit}
use Rattle.merging.specs.Faults.{IsTableOf}
use Rattle.merging.specs.Faults as reading
use Rattle.merging.specs.Table.{Happened, Table}
use Rattle.merging.specs.Map.{map_from}
use Rattle.merging.specs.Naming.{names_of, events_named, own_granules, HasTooMany}
use Rattle.merging.specs.Merge.{Merge}
use Rattle.merging.specs.Refusals.{IsFaultOf}
use Rattle.merging.specs.Run.{starts, IsRun, known_front}
use Rattle.merging.specs.declared.fault.MergeFault.{MergeFault}
use Rattle.merging.specs.declared.merged.Extent.TheVariants.{Whole}
use Rattle.merging.specs.declared.naming.Naming.{Naming}
use Rattle.merging.specs.declared.naming.Naming.TheVariants.{AsRecorded, ByNames}
use Rattle.merging.specs.declared.texts.Asked.{Asked}
use Rattle.merging.specs.declared.texts.Renaming.{Renaming}
use Rattle.merging.specs.declared.texts.TextFault.{TextFault}
use Rattle.merging.specs.declared.texts.TextFault.TheVariants as fault

-- ---- what is asked for

-- how many granules may be renamed, of a machine that has so many at most
abbrev pub limited : ℕ → Option ℕ → ℕ
limited most (Some granules) = if nat_lt granules most then granules else most
limited most None = most

abbrev pub most_asked : Asked → ℕ
most_asked asked = limited (granule_limit asked.version) asked.granules

-- names for the addresses of the events that are known, where they are to have any
abbrev pub naming_by : Option Renaming → List Happened → Naming
naming_by None slots = AsRecorded
naming_by (Some renaming) slots = ByNames (names_of renaming.memory slots)

abbrev pub naming_asked : Asked → List Happened → Naming
naming_asked asked slots = naming_by asked.renaming slots

-- the machine that is asked for, and else that of the header, or the one that the names need
abbrev pub config_asked : Naming → Table → Asked → Config
config_asked naming table asked = record {
  granules = unwrap_or asked.granules (own_granules naming table.granules);
  cpus = unwrap_or asked.cpus table.cpus;
  version = asked.version;
}

abbrev pub IsAsked : Naming → Table → Asked → Type 0
IsAsked naming table asked = IsConfig (config_asked naming table asked)

-- ---- what is made of it

-- a line for each address with a name
abbrev pub map_of : Naming → List ℕ
map_of AsRecorded = []
map_of (ByNames names) = map_from 0 names

-- The events that are known before the first hole, which are all where the whole is asked for, are told by the names that are asked for, and
-- are a run of the machine that is asked for.
pub record IsMergedText (text : List ℕ) (asked : Asked) (merge : Merge) : Type 0 where
  pub table : Table
  pub is_table : IsTableOf text table
  pub is_naming : merge.naming ≡ naming_asked asked (known_front table.slots)
  pub is_config : merge.config ≡ config_asked merge.naming table asked
  pub are_events : merge.events ≡ events_named merge.naming merge.config.granules (known_front table.slots)
  pub is_run : IsRun merge.config.cpus starts merge.events
  pub whole : asked.extent ≡ Whole → length merge.events ≡ length table.slots

-- ---- why nothing is

-- of names for events
abbrev pub IsUnnamedBy : ℕ → Option Renaming → List Happened → TextFault → Type 0
IsUnnamedBy most (Some renaming) slots (fault.Granules line given) =
    (given ≡ most) × HasTooMany (record { memory = renaming.memory; most = most }) slots line
IsUnnamedBy most (Some renaming) slots fault.NoMemory = 0 < length slots
IsUnnamedBy most renaming slots given = ⊥

abbrev pub IsUnnamedAsked : Asked → List Happened → TextFault → Type 0
IsUnnamedAsked asked slots given = IsUnnamedBy (most_asked asked) asked.renaming slots given

-- of a merge of the events as they are told
abbrev pub IsFaultOfEvents : Naming → Table → Asked → MergeFault → Type 0
IsFaultOfEvents naming table asked given = IsFaultOf (config_asked naming table asked).cpus table.slots
    (events_named naming (config_asked naming table asked).granules (known_front table.slots)) given

-- of the text, of what was asked for, of its events, and of the names
abbrev pub IsFaultOfText : List ℕ → Asked → TextFault → Type 0
IsFaultOfText text asked (fault.Text given) = reading.IsFaultOf text given
IsFaultOfText text asked (fault.Merge given) = (table : Table)
    × (IsTableOf text table × IsFaultOfEvents (naming_asked asked (known_front table.slots)) table asked given)
IsFaultOfText text asked fault.Sizes = (table : Table)
    × (IsTableOf text table × (IsAsked (naming_asked asked (known_front table.slots)) table asked → ⊥))
IsFaultOfText text asked given = (table : Table) × (IsTableOf text table × IsUnnamedAsked asked (known_front table.slots) given)
