use Rattle.command_core.proofs.Common.{◌∙◌, ap, sym, table_held, ℕ}
use Rattle.std.specs.Prelude.{option_copied}
use Rattle.command_core.specs.Pairs.{pair_cells}
use Rattle.command_core.proofs.EntrySearch.{stands-found}
use Rattle.command_core.proofs.held_sight.HeldSight.table_here.Goals as goal

pub returns-in-Some : goal.returns-in-Some
returns-in-Some c =
    let a = c.args in
    let held = pair_cells a.self.now.held.now in
    stands-found held a.rd a.level a.number c.in-Some.granule (option_copied c.whole_table_in.result)
    (sym c.in-Some.ensures)
    (c.whole_table_in.ensures.held ∙ ap (λ (granule : ℕ). table_held held granule) c.new.ensures) c.whole_table_in.ensures.whole
