use Rattle.std.proofs.Common.{arith}
use Rattle.merging.proofs.RoomLaws.{header_short, refused_within}
use Rattle.merging.proofs.writing.write_header.Goals as goal

pub unreachable-requires : goal.unreachable-requires
unreachable-requires g c =
    refused_within c.push_header.result _ _ _ c.if-is_err.ensures.value c.push_header.ensures.full
    (omega (arith, header_short c.args.config c.requires.config, c.requires.room, c.clear.ensures.len, c.clear.ensures.capacity))
