use Rattle.commit_tickets.proofs.Moves.{committed-moves}
use Rattle.commit_tickets.proofs.laws.a_commit_is_one_move.Goals as goal

pub returns : goal.returns
returns c = λ config command before after token new hold new_hold done commit w of deciding called.
    committed-moves config command before after token new hold new_hold done commit w of deciding called
