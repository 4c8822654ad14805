use Rattle.std.proofs.Common.{◌∙◌, ap}
use Rattle.clap.specs.Simple.{app_of_fields}
use Rattle.file_programs.proofs.report.ReportForm.command.Goals as goal

pub returns-clause-app : goal.returns-clause-app
returns-clause-app c =
    let named = ap app_of_fields c.override_usage.ensures ∙ c.command_named.ensures in
    let with_page = c.with_argument-command.ensures _ _ named c.option_named.ensures.rule in
    let with_around = c.with_argument-command-2.ensures _ _ with_page c.around.ensures.rule in
    let with_json = c.with_argument-command-3.ensures _ _ with_around c.flag_named.ensures.rule in
    let with_format = c.with_argument-command-4.ensures _ _ with_json c.option_named-2.ensures.rule in
    let with_granule = c.with_argument-command-5.ensures _ _ with_format c.option_named-3.ensures.rule in
    let with_rows = c.with_argument-command-6.ensures _ _ with_granule c.flag_named-2.ensures.rule in
    let with_scenario = c.with_argument-command-7.ensures _ _ with_rows c.option_named-4.ensures.rule in
    let with_history = c.with_argument-command-8.ensures _ _ with_scenario c.path_named.ensures.rule in
    c.with_argument.ensures _ _ with_history c.path_named-2.ensures.rule
