-- Its CPU and number are those of a line, and each reply has a text.
use Rattle.std.proofs.Common.{false}
use Rattle.finding.proofs.Attempts.{of_a_line}
use Rattle.finding.proofs.lines.next_line.Goals as goal

pub returns-then-is_some : goal.returns-then-is_some
returns-then-is_some c =
    of_a_line c.args.history.now.recorded c.well_formed-fact.ensures
    (record { cpu = c.args.cpu; number = c.args.number; places = c.in-Some.places; refusal = false; looks = false }) c.in-Some.ensures.some

pub returns : goal.returns
returns c =
    let at = of_a_line c.args.history.now.recorded c.well_formed-fact.ensures
    (record { cpu = c.args.cpu; number = c.args.number; places = c.in-Some.places; refusal = false; looks = false }) c.in-Some.ensures.some in
    (at.0, at.1, c.reply_has_text-fact.ensures)
