use Rattle.rmi_codec.proofs.PartLaws.{over_only}
use Rattle.rmi_codec.proofs.parts.Parts.is_over.Goals as goal

pub returns : goal.returns
returns c = over_only c.self.inside.line.now c.self.inside.at c.args.self.now c.self.view_is
