-- Where none says that the REC runs, it is left whether they say that it asks for the pages.
use Rattle.std.proofs.Common.{sym}
use Rattle.verdict_laws.specs.Denying.{asks_pages}
use Rattle.slicing.proofs.giving_recs.asks_pages.Goals as goal

pub returns-else-give_running : goal.returns-else-give_running
unfolding asks_pages
returns-else-give_running c = rw (c.in-RttSetRipas.is, sym c.if-give_running.ensures) c.give_pages.ensures
