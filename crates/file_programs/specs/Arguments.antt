-- What both command lines are made of, and why arguments are refused, over clap's own definitions.
use Rattle.std.specs.Prelude.{◌≡◌, ◌≢◌, ◌⊎◌, ⊤, Bool, true, false, List, [], Option, Some, None, bytes_eq, codes}
use Rattle.file_programs.specs.declared.parsing.Refusal.{Refusal}
use Rattle.file_programs.specs.declared.parsing.Refusal.TheVariants.{Shown, Arguments, NoMemory}
use Rattle.clap.specs.Words.{App, IsAmong, Kinds, Row, Rule, Shape, Text, fault_of, matches_of, new_app, new_rule}
use Rattle.clap.specs.declared.builder.action.ArgAction.TheVariants.{SetTrue}
use Rattle.clap.specs.declared.error.kind.ErrorKind.{ErrorKind}
use Rattle.clap.specs.declared.error.kind.ErrorKind.TheVariants.{DisplayHelp, DisplayVersion, OutOfMemory}

-- `--NAME VALUE`
abbrev pub option_rule : Text → Rule
option_rule name = record (new_rule name) { long = Some name; value_names = 1 }

-- `--NAME`
abbrev pub flag_rule : Text → Rule
flag_rule name = record (new_rule name) { long = Some name; action = Some SetTrue }

-- a flag is given
abbrev pub is_set : Option Text → Bool
is_set None = false
is_set (Some value) = bytes_eq value (codes "true")

-- a command that has a version and these arguments
abbrev pub command_of : Text → List Rule → App
command_of name given =
    let named : Shape = (new_app name).top in
    record { top = record named { rules = given; has_version = true }; subs = [] }

-- an error of this kind is a fault of the arguments: no request for help or the version, and no refused memory
abbrev pub IsFault : ErrorKind → Type 0
IsFault kind = (kind ≢ DisplayHelp) × (kind ≢ DisplayVersion) × (kind ≢ OutOfMemory)

-- what an error of that kind is
abbrev pub IsRefusalOf : ErrorKind → Refusal → Type 0
IsRefusalOf kind (Shown text) = (kind ≡ DisplayHelp) ⊎ (kind ≡ DisplayVersion)
IsRefusalOf kind (Arguments text) = IsFault kind
IsRefusalOf kind NoMemory = ⊤

-- clap finds a request for help or the version, or a fault
abbrev pub IsRefusedBy : Kinds → Refusal → Type 0
IsRefusedBy kinds (Shown text) = IsAmong DisplayHelp kinds ⊎ IsAmong DisplayVersion kinds
IsRefusedBy kinds (Arguments text) = (kind : ErrorKind) × IsAmong kind kinds × IsFault kind
IsRefusedBy kinds NoMemory = ⊤

-- the arguments are refused for what they leave out or have too much of
abbrev pub IsNoForm : Refusal → Type 0
IsNoForm (Shown text) = ⊥
IsNoForm _ = ⊤

-- clap finds no fault in the arguments, and their values ask for this
pub record AsksFor {A : Type 0} (command : App) (IsAsked : List Row → A → Type 0) (arguments : List Text) (asked : A) : Type 0 where
  pub no_fault : fault_of command arguments ≡ []
  pub is_asked : IsAsked (matches_of command arguments) asked

-- clap finds no fault in the arguments, and their values ask for nothing
pub record AskInVain {A : Type 0} (command : App) (IsAsked : List Row → A → Type 0) (arguments : List Text) : Type 0 where
  pub no_fault : fault_of command arguments ≡ []
  pub is_none : (asked : A) → IsAsked (matches_of command arguments) asked → ⊥

-- why the arguments ask for nothing: clap finds a request for help or the version, or a fault, or their values fill no form
abbrev pub AskForNothing : {A : Type 0} → App → (List Row → A → Type 0) → List Text → Refusal → Type 0
AskForNothing command IsAsked arguments (Shown text) = IsRefusedBy (fault_of command arguments) (Shown text)
AskForNothing command IsAsked arguments (Arguments text) =
    IsRefusedBy (fault_of command arguments) (Arguments text) ⊎ AskInVain command IsAsked arguments
AskForNothing command IsAsked arguments NoMemory = ⊤
