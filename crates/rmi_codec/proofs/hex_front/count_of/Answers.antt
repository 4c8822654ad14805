use Rattle.rmi_codec.proofs.HexLanes.{digits_counted}
use Rattle.rmi_codec.proofs.hex_front.count_of.Goals as goal

pub returns : goal.returns
returns c =
    let counted = digits_counted c.args.digits c.fits-digits.0 in
    rw c.trailing_ones.ensures (record { within = counted.within; digits = counted.digits; end = counted.end })
