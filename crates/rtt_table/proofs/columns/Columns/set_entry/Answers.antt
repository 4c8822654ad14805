use Rattle.std.proofs.Common.{length-set, ◌∙◌}
use Rattle.rtt_table.proofs.Joined.{joined_is, columns_held, columns-set}
use Rattle.rtt_table.specs.Columns.{joined}
use Rattle.rtt_table.proofs.columns.Columns.set_entry.Goals as goal

pub invariant_of-self : goal.invariant_of-self
invariant_of-self c =
    let t = c.self.inside in
    rw (c.kind_of.ensures, c.entry_address.ensures) (
    columns_held _ _ _ (length-set (joined t.kinds t.addresses.items) c.args.at c.args.entry ∙ c.self.invariant.0)
    (columns-set (joined t.kinds t.addresses.items) t.kinds t.addresses.items c.args.at c.args.entry c.self.invariant.1)
    )

pub returns : goal.returns
returns c =
    let t = c.self.inside in
    rw (c.kind_of.ensures, c.entry_address.ensures, ← c.self.view_is) (
    joined_is _ _ _ (columns-set (joined t.kinds t.addresses.items) t.kinds t.addresses.items c.args.at c.args.entry c.self.invariant.1)
    )
