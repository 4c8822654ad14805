-- A part of the core's own, as the definitions see it.
use Rattle.command_core.specs.Walks.{Part}
use Rattle.command_core.specs.declared.walks.Part as declared_part

abbrev pub part_seen : declared_part.Part → Part
part_seen p = record { above = p.above; index = p.index; next = p.next }
