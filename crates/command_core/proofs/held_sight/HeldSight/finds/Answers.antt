use Rattle.std.proofs.Common.{sym, ◌∙◌}
use Rattle.command_core.specs.Pairs.{pair_cells}
use Rattle.command_core.proofs.EntrySearch.{search-held, search-unheld}
use Rattle.command_core.proofs.held_sight.HeldSight.finds.Goals as goal

pub returns-else-has_dead_link : goal.returns-else-has_dead_link
returns-else-has_dead_link c =
    let a = c.args in
    c.has.ensures
    ∙ search-held a.self.now.config.now (pair_cells a.self.now.held.now) a.rd a.level a.number c.in-Some.table.now c.in-Some.ensures a.test
    (sym c.has_dead_link.ensures ∙ c.if-has_dead_link.false)

pub returns-in-None : goal.returns-in-None
returns-in-None c =
    let a = c.args in
    c.finds_unheld.ensures
    ∙ search-unheld a.self.now.config.now (pair_cells a.self.now.held.now) a.rd a.level a.number c.in-None.ensures a.test
