use Rattle.std.proofs.Common.{sym}
use Rattle.realm_desc.proofs.KnownRims.{rec_of_39_bits, rec_of_48_bits}
use Rattle.realm_desc.proofs.known.runnable.Goals as goal

pub returns-then-is_rim : goal.returns-then-is_rim
returns-then-is_rim c = rw (c.is_rim.ensures c.if-is_rim.true) (sym rec_of_39_bits)

pub returns-then-is_rim-2 : goal.returns-then-is_rim-2
returns-then-is_rim-2 c = rw (c.is_rim-2.ensures c.if-is_rim-2.true) (sym rec_of_48_bits)
