use Rattle.certificate.proofs.PieceLemmas.{IsLine-last, room_before}
use Rattle.certificate.proofs.reader.append_told.Goals as goal

pub push-requires-clause-is_line : goal.push-requires-clause-is_line
push-requires-clause-is_line c = IsLine-last c.args.lines.now.lines c.in-Some.line (rw c.in-Some.is at c.requires)

pub push-requires-clause-room : goal.push-requires-clause-room
push-requires-clause-room c = room_before c.args.lines.now.lines c.in-Some.line (rw c.in-Some.is at c.requires)
