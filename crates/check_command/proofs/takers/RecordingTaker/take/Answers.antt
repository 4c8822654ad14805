use Rattle.std.proofs.Common.{◌≡◌, Err}
use Rattle.history.specs.declared.fault.HistoryFault.TheVariants.{NoMemory}
use Rattle.check_command.proofs.HistoryTexts.{HasTaken-next, RefusesEvent-next}
use Rattle.check_command.proofs.takers.RecordingTaker.take.Goals as goal

pub returns-in-Ok-clause-taken : goal.returns-in-Ok-clause-taken
returns-in-Ok-clause-taken c = λ before text.
    HasTaken-next c.args.self.now.0 c.feed.new.self c.feed.result c.args.piece.now text c.feed.ensures.given c.feed.ensures.fault c.feed.ensures.fails
    c.feed.ensures.failed (λ is. cc)

pub returns-in-Err-BadLine-clause-taken : goal.returns-in-Err-BadLine-clause-taken
returns-in-Err-BadLine-clause-taken c = λ before text.
    HasTaken-next c.args.self.now.0 c.feed.new.self c.feed.result c.args.piece.now text c.feed.ensures.given c.feed.ensures.fault c.feed.ensures.fails
    c.feed.ensures.failed (λ is. cc)

pub returns-in-Err-NoMemory-clause-refused : goal.returns-in-Err-NoMemory-clause-refused
returns-in-Err-NoMemory-clause-refused c =
    let is_refused : c.feed.result ≡ Err NoMemory = cc in
    RefusesEvent-next c.args.self.now.0 c.feed.result c.args.piece.now is_refused c.feed.ensures.fault c.feed.ensures.failed
