use Rattle.rmi_codec.proofs.HexLanes.{lanes_shown, lanes_all}
use Rattle.rmi_codec.proofs.hex_front.digits_in.Goals as goal

pub returns-clause-shown : goal.returns-clause-shown
returns-clause-shown c = lanes_shown c.args.bytes c.fits-bytes

pub returns-clause-all : goal.returns-clause-all
returns-clause-all c = lanes_all c.args.bytes c.fits-bytes
