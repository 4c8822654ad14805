use Rattle.merging.proofs.Common.{arith, happened_seen, stand_seen}
use Rattle.merging.proofs.RoomLaws.{moment_short, refused_within}
use Rattle.merging.proofs.writing.put_moment.Goals as goal

pub unreachable-requires : goal.unreachable-requires
unreachable-requires c =
    let short = moment_short c.args.returns (stand_seen c.args.cpu.now) (happened_seen c.args.slot) c.requires.happened c.requires.numbered in
    refused_within c.push_moment.result _ _ _ c.if-is_err.ensures.value c.push_moment.ensures.full
    (omega (arith, short, c.requires.room, c.clear.ensures.len, c.clear.ensures.capacity))
