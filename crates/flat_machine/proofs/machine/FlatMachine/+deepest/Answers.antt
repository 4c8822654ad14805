use Rattle.std.proofs.Common.{◌∙◌, arith}
use Rattle.flat_machine.specs.Flat.{state_of}
use Rattle.flat_machine.proofs.Searches.{ends_here, ends_above}
use Rattle.flat_machine.proofs.machine.FlatMachine.+deepest.Goals as goal
use Rattle.spec_lemmas.proofs.WalkLaws.{reach-top}

pub returns-then-max-eq0-clause-level : goal.returns-then-max-eq0-clause-level
returns-then-max-eq0-clause-level t c = reach-top (state_of c.args.self.now) c.args.rd c.args.ipa c.args.max c.if-max-eq0.true

pub returns-then-is_some-clause-level : goal.returns-then-is_some-clause-level
returns-then-is_some-clause-level t c =
    ends_here (state_of c.args.self.now) c.args.rd c.args.ipa c.args.max (omega arith)
    (rw (c.table.ensures, c.table_number.ensures.number) at c.if-is_some.ensures)

pub returns-clause-level : goal.returns-clause-level
returns-clause-level t c =
    c.deepest.ensures.level
    ∙ ends_above (state_of c.args.self.now) c.args.rd c.args.ipa c.args.max (omega arith)
    (rw (c.table.ensures, c.table_number.ensures.number) at c.if-is_some.ensures)
