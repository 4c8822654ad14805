use Rattle.toml.specs.View.{table_view}
use Rattle.scenario_report.proofs.Stated.{flaw_of_document}
use Rattle.scenario_report.proofs.finding.flaw_in.Goals as goal

pub returns-in-Ok : goal.returns-in-Ok
returns-in-Ok c = flaw_of_document (table_view c.args.table.now) c.in-Ok.stated c.flaw_stated.result c.in-Ok.ensures.found c.flaw_stated.ensures
