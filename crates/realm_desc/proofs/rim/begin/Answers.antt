use Rattle.std.proofs.Common.{sym}
use Rattle.realm_desc.proofs.KnownRims.{rim_of_39_bits, rim_of_48_bits}
use Rattle.realm_desc.proofs.rim.begin.Goals as goal

pub returns-in-39-eq1-eq0 : goal.returns-in-39-eq1-eq0
returns-in-39-eq1-eq0 c = rw (c.in-39-eq1-eq0.is-0, c.in-39-eq1-eq0.is-1, c.in-39-eq1-eq0.is-2) (sym rim_of_39_bits)

pub returns-in-48-eq0-eq0 : goal.returns-in-48-eq0-eq0
returns-in-48-eq0-eq0 c = rw (c.in-48-eq0-eq0.is-0, c.in-48-eq0-eq0.is-1, c.in-48-eq0-eq0.is-2) (sym rim_of_48_bits)
