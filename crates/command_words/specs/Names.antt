-- A few names in an array.
use Rattle.std.specs.Prelude.{List, take}
use Rattle.rmm_spec.specs.Rows.{Needed}
use Rattle.command_words.specs.declared.name_list.Names.{Names}

abbrev pub names_of : Names → List Needed
names_of names = take names.count names.list
