use Rattle.command_core.proofs.Changes.{answers-local}
use Rattle.command_core.proofs.laws.answers_are_local.Goals as goal

pub returns : goal.returns
returns c = λ config cpu command hold answer can each.
    answers-local config cpu command hold answer can (λ w. each w.cells w.places w.shaped w.agrees w.placed)
