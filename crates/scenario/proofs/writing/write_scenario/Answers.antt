use Rattle.std.proofs.Common.{◌≡◌, ◌≤◌, Err, true, string_bytes, ap, sym, subst, ◌∙◌}
use Rattle.std.proofs.lemmas.Bool.{false≢true}
use Rattle.std.proofs.lemmas.Str.{IsUtf8-string_bytes}
use Rattle.toml.specs.Data.{Members, members_depth, members_have_valid_dates}
use Rattle.toml.specs.View.{table_view}
use Rattle.scenario.proofs.Members.{IsScenarioText-members, scenario_members-depth, scenario_members-dates}
use Rattle.scenario.proofs.writing.write_scenario.Goals as goal

pub returns-in-Ok : goal.returns-in-Ok
returns-in-Ok c =
    let written : Members = table_view c.in_ok-table.table in
    let same = c.in_ok-table.ensures.members in
    let shallow = subst (λ (members : Members). members_depth members ≤ 80) (sym same) (scenario_members-depth c.args.scenario.now) in
    IsScenarioText-members (string_bytes c.in-Ok.text) written c.args.scenario.now
    (IsUtf8-string_bytes c.in-Ok.text) (c.in-Ok.ensures.reads_back shallow) same
    c.in_ok-table.ensures.limits

pub unreachable-requires : goal.unreachable-requires
unreachable-requires c =
    let valid : members_have_valid_dates (table_view c.in_ok-table.table) ≡ true =
    ap members_have_valid_dates c.in_ok-table.ensures.members ∙ scenario_members-dates c.args.scenario.now in
    false≢true (sym (c.in-Err-DateInvalid.ensures.dates.0 (ap Err c.in-Err-DateInvalid.field-0-is)) ∙ valid)
