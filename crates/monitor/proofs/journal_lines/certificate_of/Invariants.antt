use Rattle.monitor.proofs.Common.{◌≡◌, ℕ, ◌≤◌, take, numbers_of, count_of, lines_for}
use Rattle.monitor.proofs.journal_lines.certificate_of.Given as goal

abbrev pub invariant-loop-ticket : goal.invariant-loop-ticket
invariant-loop-ticket g l = record {
  written : l.certificate.lines ≡ take l.ticket (lines_for l.history.recorded.events l.journal.entries);
  numbers : (cpu : ℕ) → numbers_of l.numbers cpu ≡ count_of cpu (take l.ticket l.journal.entries);
  few : (cpu : ℕ) → numbers_of l.numbers cpu ≤ l.ticket;
}
