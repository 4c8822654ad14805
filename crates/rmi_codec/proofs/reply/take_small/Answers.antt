use Rattle.std.proofs.Common.{Ok, ap}
use Rattle.rmi_codec.proofs.FaultLaws.{IsSmallFault-from_part}
use Rattle.rmi_codec.proofs.PartLaws.{same_first}
use Rattle.rmi_codec.proofs.reply.take_small.Goals as goal

pub returns-in_default-clause-fault : goal.returns-in_default-clause-fault
returns-in_default-clause-fault c =
    IsSmallFault-from_part c.part_fault.result c.args.parts.now
    (rw c.from.ensures at c.in_default.ensures.none) (rw (← c.in_default.ensures.kept) c.part_fault.ensures)

pub returns-clause-only : goal.returns-clause-only
returns-clause-only c = λ n rest _ e.
    ap Ok (same_first c.args.parts.now _ rest c.in-Some.number n c.in-Some.ensures.found e)
