use Rattle.std.proofs.Common.{◌∙◌}
use Rattle.rtt_table.specs.Columns.{joined}
use Rattle.rtt_table.proofs.Joined.{joined_is, columns_held, columns-ripas, as_many}
use Rattle.rtt_table.proofs.columns.Columns.set_ripas.Goals as goal

pub invariant_of-self : goal.invariant_of-self
invariant_of-self c =
    let t = c.self.inside in
    let a = c.args in
    let columns = columns-ripas (joined t.kinds t.addresses.items) t.kinds c.change_ripas.new.kinds t.addresses.items a.from a.to a.ripas
    c.self.invariant.1 c.requires.order c.change_ripas.ensures in
    columns_held _ _ _ (as_many _ _ _ _ _ c.self.invariant.1 columns ∙ c.self.invariant.0) columns

pub returns : goal.returns
returns c =
    let t = c.self.inside in
    let a = c.args in
    let columns = columns-ripas (joined t.kinds t.addresses.items) t.kinds c.change_ripas.new.kinds t.addresses.items a.from a.to a.ripas
    c.self.invariant.1 c.requires.order c.change_ripas.ensures in
    rw (← c.self.view_is) (joined_is _ _ _ columns)
