-- The command line of `rmmexplain`.
use Rattle.std.specs.Prelude.{◌≡◌, List, [], ◌∷◌, Some, None, codes}
use Rattle.file_programs.specs.Arguments.{AskForNothing, AsksFor, command_of, flag_rule, option_rule}
use Rattle.file_programs.specs.Outputs.{HasNone, IsOutput, options_in}
use Rattle.file_programs.specs.declared.parsing.Refusal.{Refusal}
use Rattle.file_programs.specs.declared.report.Report.{Report}
use Rattle.file_programs.specs.declared.report.Report.TheVariants.{Run, Scenario}
use Rattle.clap.specs.Words.{App, Row, Rule, Text, first_of, new_rule}
use Rattle.clap.specs.declared.builder.value_parser.ValueParser.TheVariants.{Unsigned}

-- from 1 to 10,000
abbrev pub around_rule : Rule
around_rule = record (option_rule (codes "around")) { parser = Some (Unsigned 1 10000) }

abbrev pub report_command : App
report_command = command_of (codes "rmmexplain")
    (option_rule (codes "html") ∷ around_rule ∷ flag_rule (codes "json") ∷ option_rule (codes "format") ∷ option_rule (codes "granule")
    ∷ flag_rule (codes "rows") ∷ option_rule (codes "scenario") ∷ new_rule (codes "HISTORY") ∷ new_rule (codes "CERT") ∷ [])

-- the values fill this form, and nothing else is given
abbrev pub IsReport : List Row → Report → Type 0
IsReport rows (Run output history certificate) =
    IsOutput (options_in rows) output
    × (first_of (codes "scenario") rows ≡ None)
    × (first_of (codes "HISTORY") rows ≡ Some history.now)
    × (first_of (codes "CERT") rows ≡ Some certificate.now)
IsReport rows (Scenario file) =
    HasNone (options_in rows)
    × (first_of (codes "scenario") rows ≡ Some file.now)
    × (first_of (codes "HISTORY") rows ≡ None)
    × (first_of (codes "CERT") rows ≡ None)

-- the arguments ask for this report
abbrev pub AsksForReport : List Text → Report → Type 0
AsksForReport arguments report = AsksFor report_command IsReport arguments report

-- the arguments ask for help or the version, or for no report
abbrev pub AskForNoReport : List Text → Refusal → Type 0
AskForNoReport arguments refusal = AskForNothing report_command IsReport arguments refusal
