-- A call has one place.
use Rattle.explain.proofs.Common.{arith, line_seen, nat_tests}
use Rattle.explain.proofs.Calls.{after_place}
use Rattle.explain.proofs.earlier.is_made_after.Goals as goal

pub returns-in-Some : goal.returns-in-Some
returns-in-Some c =
    let made = rw (c.called_by-cpu.ensures.cpu, c.called_by-cpu.ensures.number) at c.in-Some.ensures.some.called in (
      λ test. record { called = c.in-Some.places.called; command = made.0; is_called = made.1; after = grind (arith, nat_tests, test) },
      λ later.
          let after = after_place c.args.history.now.recorded c.well_formed-fact.ensures c.args.returned
          (line_seen c.args.line) c.in-Some.places.called made later in
          grind (arith, nat_tests, after),
    )
