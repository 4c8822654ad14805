use Rattle.std.proofs.Common.{◌∙◌}
use Rattle.rmi_codec.proofs.HexLanes.{word_of-low}
use Rattle.rmi_codec.proofs.hex_front.word_of.Goals as goal

pub returns : goal.returns
returns c = c.from_be_bytes.ensures ∙ word_of-low c.args.digits c.fits-digits.0
