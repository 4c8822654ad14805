-- The command line, over clap's own definitions of what a command takes and which value an argument gets.
use Rattle.std.specs.Prelude.{◌≡◌, ◌≢◌, List, [], ◌∷◌, Option, Some, true, false, codes, map, option_map, option_and_then}
use Rattle.rmmcheck_arguments.specs.declared.words.Request.{Request}
use Rattle.rmmcheck_arguments.specs.declared.words.Request.TheVariants.{Check, Run, Threads}
use Rattle.clap.specs.Words.{App, Row, Rule, Shape, Text, fault_of, first_of, new_app, new_rule, subcommand_of}

-- a subcommand: its name, and what its paths are called, each of which has to be given
pub record Form : Type 0 where
  pub name : Text
  pub paths : List Text

abbrev pub check_form : Form
check_form = record { name = codes "check"; paths = codes "HISTORY" ∷ codes "CERT" ∷ [] }

-- a scenario is played
abbrev pub play_form : Text → Form
play_form name = record { name = name; paths = codes "SCENARIO" ∷ [] }

abbrev pub run_form : Form
run_form = play_form (codes "run")

abbrev pub threads_form : Form
threads_form = play_form (codes "threads")

abbrev pub forms : List Form
forms = check_form ∷ run_form ∷ threads_form ∷ []

-- a path that has to be given
abbrev pub path : Text → Rule
path id = record (new_rule id) { required = true }

-- the subcommand, for clap
abbrev pub form_command : Form → Shape
form_command form = let named : Shape = (new_app form.name).top in record named { rules = map path form.paths }

-- `rmmcheck`, which has to be given one of the subcommands
abbrev pub rmmcheck_command : App
rmmcheck_command =
    let named : Shape = (new_app (codes "rmmcheck")).top in
    record { top = record named { subcommand_required = true; is_leaf = false }; subs = map form_command forms }

-- a subcommand's name, and the first value of one of its arguments
abbrev pub name_of : Option (Text × List Row) → Option Text
name_of sub = option_map (λ found. found.0) sub

abbrev pub value_of : Text → Option (Text × List Row) → Option Text
value_of id sub = option_and_then (λ found. first_of id found.1) sub

-- the subcommand asks for this
abbrev pub IsAsked : Option (Text × List Row) → Request → Type 0
IsAsked sub (Check history certificate) =
    (name_of sub ≡ Some (codes "check"))
    × (value_of (codes "HISTORY") sub ≡ Some history.now)
    × (value_of (codes "CERT") sub ≡ Some certificate.now)
IsAsked sub (Run scenario) = (name_of sub ≡ Some (codes "run")) × (value_of (codes "SCENARIO") sub ≡ Some scenario.now)
IsAsked sub (Threads scenario) = (name_of sub ≡ Some (codes "threads")) × (value_of (codes "SCENARIO") sub ≡ Some scenario.now)

-- clap finds no fault in the words, and their subcommand asks for this
pub record Asks (words : List Text) (request : Request) : Type 0 where
  pub no_fault : fault_of rmmcheck_command words ≡ []
  pub is_asked : IsAsked (subcommand_of rmmcheck_command words) request

-- clap finds a fault in the words
abbrev pub AreRefused : List Text → Type 0
AreRefused words = fault_of rmmcheck_command words ≢ []
