use Rattle.std.proofs.Common.{rules}
use Rattle.devices.proofs.Written.{Appends-further, take-further, within-further}
use Rattle.devices.proofs.sink.write_whole.Goals as goal

pub loop-at-preserved : goal.loop-at-preserved
loop-at-preserved g c =
    let bytes = c.args.bytes.now in
    let count = c.in_ok-at.field-0 in
    let before = c.loop-at.invariant in
    let step = c.in_ok-at.ensures in (
      within-further bytes c.loop-at.at count before.0 step.count.1,
      search rules,
      take-further _ bytes _ _ c.loop-at.at count before.2 step.taken,
      Appends-further bytes _ _ _ c.loop-at.at count before.3 step.contents,
      search rules,
    )
