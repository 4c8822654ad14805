use Rattle.std.proofs.Common.{arith}
use Rattle.history.proofs.EntryLaws.{length-events_in}
use Rattle.history.proofs.history.History.len.Goals as goal

pub returns : goal.returns
returns c =
    let inside = c.self.inside in
    rw (← c.self.view_is) (omega (arith, c.len.ensures, length-events_in inside.words.items inside.entries.items, inside.entries.ok.0))
