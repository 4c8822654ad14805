use Rattle.std.proofs.Common.{ap, ◌∙◌}
use Rattle.toml.specs.View.{members_view, view}
use Rattle.scenario.specs.Written.{with_member}
use Rattle.scenario.proofs.Members.{members_view-insert_entry}
use Rattle.scenario.proofs.writing.put.Goals as goal

pub returns : goal.returns
returns c =
    ap members_view c.in_ok-insert.ensures.entries
    ∙ members_view-insert_entry c.args.table.now.entries c.in_ok-from_str.field-0 c.args.value
    ∙ ap (λ key. with_member key (view c.args.value) (members_view c.args.table.now.entries)) c.in_ok-from_str.ensures.ok
