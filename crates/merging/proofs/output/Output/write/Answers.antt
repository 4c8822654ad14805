use Rattle.merging.proofs.CutLaws.{GrowsUpTo-further}
use Rattle.merging.proofs.output.Output.write.Goals as goal

pub loop-rest-preserved : goal.loop-rest-preserved
loop-rest-preserved g c = (
  GrowsUpTo-further _ c.args.bytes.now c.in_ok-count.count _ _ _ c.loop-rest.invariant.0 c.in_ok-count.ensures.contents,
  c.in_ok-count.ensures.failed,
)
