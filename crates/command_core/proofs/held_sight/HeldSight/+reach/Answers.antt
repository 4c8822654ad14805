use Rattle.command_core.proofs.Common.{◌∙◌, arith, seen_state, sym}
use Rattle.command_core.specs.Pairs.{pair_cells}
use Rattle.command_core.proofs.WalkEnds.{reach-here, reach-above}
use Rattle.command_core.proofs.held_sight.HeldSight.+reach.Goals as goal
use Rattle.spec_lemmas.proofs.WalkLaws.{reach-top}

pub returns-then-max-eq0-clause-level : goal.returns-then-max-eq0-clause-level
returns-then-max-eq0-clause-level t c =
    let a = c.args in
    reach-top (seen_state a.self.now.config.now (pair_cells a.self.now.held.now)) a.rd a.ipa a.max c.if-max-eq0.true

pub returns-then-is_some-clause-level : goal.returns-then-is_some-clause-level
unfolding seen_state
returns-then-is_some-clause-level t c =
    let a = c.args in
    reach-here (seen_state a.self.now.config.now (pair_cells a.self.now.held.now)) a.rd a.ipa a.max (omega arith)
    (sym (rw (c.table.ensures, c.table_number.ensures.number) at c.if-is_some.ensures))

pub returns-clause-level : goal.returns-clause-level
unfolding seen_state
returns-clause-level t c =
    let a = c.args in
    c.reach.ensures.level
    ∙ reach-above (seen_state a.self.now.config.now (pair_cells a.self.now.held.now)) a.rd a.ipa a.max (omega arith)
    (sym (rw (c.table.ensures, c.table_number.ensures.number) at c.if-is_some.ensures))
