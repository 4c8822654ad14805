use Rattle.std.proofs.Common.{refl}
use Rattle.rmi_codec.proofs.PartLaws.{parts_from-behind}
use Rattle.rmi_codec.proofs.parts.behind.Goals as goal

pub returns : goal.returns
returns c = parts_from-behind c.args.line.now c.args.at c.args.count _ c.requires refl
