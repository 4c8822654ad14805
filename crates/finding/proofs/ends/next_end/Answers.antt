use Rattle.finding.proofs.EndLaws.{greatest_end, no_end}
use Rattle.finding.proofs.ends.next_end.Goals as goal

pub returns-then-count-eq0-clause-none : goal.returns-then-count-eq0-clause-none
returns-then-count-eq0-clause-none c = λ end is_end below.
    no_end c.args.stretch.now end c.furthest-last.result c.entry_size-size.result is_end (c.furthest-last.ensures end is_end below)
    c.entry_size-size.ensures.size c.entry_size-size.ensures.some (rw c.saturating_sub-beyond.ensures at c.if-count-eq0.true)

pub returns-clause-some : goal.returns-clause-some
returns-clause-some c = λ end is_end below.
    rw c.saturating_sub-beyond.ensures
    (greatest_end c.args.stretch.now end c.furthest-last.result c.entry_size-size.result is_end (c.furthest-last.ensures end is_end below)
    c.entry_size-size.ensures.size c.entry_size-size.ensures.some)
