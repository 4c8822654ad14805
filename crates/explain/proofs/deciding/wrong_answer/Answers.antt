-- Words that aren't given aren't those of what is done.
use Rattle.explain.proofs.Common.{is_so, refl, state_of, subst, sym}
use Rattle.explain.specs.Deciding.{IsApart}
use Rattle.explain.proofs.Decisions.{IsApart-refused}
use Rattle.explain.proofs.deciding.wrong_answer.Goals as goal

pub wrong_word-requires-clause-apart : goal.wrong_word-requires-clause-apart
wrong_word-requires-clause-apart c =
    subst (IsApart c.args.accepted.now) (sym c.as_slice.ensures.value)
    (IsApart-refused (state_of c.args.machine.now) c.args.cpu c.args.command.now c.args.accepted.now c.in-Ok.words.items c.requires.accepted
    (rw c.in-Ok.is at c.requires.refused))

pub returns-in-Ok-clause-so : goal.returns-in-Ok-clause-so
unfolding is_so
returns-in-Ok-clause-so c = refl

pub returns-in-Err-clause-so : goal.returns-in-Err-clause-so
unfolding is_so
returns-in-Err-clause-so c = rw c.accepted_watch.ensures (rw c.requires.accepted refl)
