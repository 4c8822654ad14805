-- What a line that is read from a certificate says.
use Rattle.certificate.specs.declared.certificate.LineRef.{LineRef}
use Rattle.certificate.specs.declared.certificate.LineRef.TheVariants as seen
use Rattle.rmm_spec.specs.declared.line.Line.{Line}
use Rattle.rmm_spec.specs.declared.line.Line.TheVariants as line

abbrev pub line_seen : LineRef → Line
line_seen (seen.Keep cpu number) = line.Keep cpu number
line_seen (seen.Unfinished cpu number reply) = line.Unfinished cpu number reply.now
