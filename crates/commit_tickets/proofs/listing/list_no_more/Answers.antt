use Rattle.commit_tickets.proofs.Common.{arith, refl, numbers_of}
use Rattle.commit_tickets.proofs.Lists.{no_more}
use Rattle.commit_tickets.proofs.listing.list_no_more.Goals as goal

pub returns : goal.returns
returns g c =
    let few = no_more c.args.tokens.now (numbers_of c.args.numbers.now) c.loop-cpu.cpu (omega (arith, c.loop-cpu-test.false)) c.loop-cpu.invariant in
    (λ _. few, λ _. refl)
