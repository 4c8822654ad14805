-- By the places.
use Rattle.explain.proofs.Common.{◌<◌, arith, nat_tests}
use Rattle.explain.proofs.Lates.{returns_before}
use Rattle.explain.proofs.late.is_before.Goals as goal

pub returns-in-Some : goal.returns-in-Some
returns-in-Some c h cpu number other_cpu other is_history one also =
    let both =
    returns_before h is_history cpu number other_cpu other c.in-Some.returned c.args.other.called (rw c.in-Some.is at one.returned) also.called in (
      λ test. both.0 (let below : c.in-Some.returned < c.args.other.called = grind (arith, nat_tests, test) in below),
      λ returns. let after = both.1 returns in grind (arith, nat_tests, after),
    )
