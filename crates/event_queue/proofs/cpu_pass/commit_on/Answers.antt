use Rattle.event_queue.proofs.Steps.{commits}
use Rattle.event_queue.proofs.cpu_pass.commit_on.Goals as goal

pub another-requires-clause-rule : goal.another-requires-clause-rule
another-requires-clause-rule g c =
    commits _ _ _ _ _ _ _ c.requires.cpu c.requires.reply c.requires.holder c.requires.journal c.requires.«open».1
