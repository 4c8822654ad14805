-- What objects and lists hold.
use Rattle.std.specs.Prelude.{List as ListOf, map}
use Rattle.serde_json.specs.Data.{Data, Members}
use Rattle.serde_json.specs.View.{members_view, view}
use Rattle.program_reports.specs.declared.list.List.{List}
use Rattle.program_reports.specs.declared.object.Object.{Object}

abbrev pub members_in : Object → Members
members_in object = members_view object.members.entries

abbrev pub data_in : List → ListOf Data
data_in list = map view list.items.items
