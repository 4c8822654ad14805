use Rattle.std.proofs.Common.{not, sym, ap, ◌∙◌}
use Rattle.rtt_table.specs.Columns.{joined}
use Rattle.rtt_table.proofs.Unlike.{any-unlike}
use Rattle.rtt_table.proofs.columns.Columns.has_unlike.Goals as goal

pub returns-then-not-are_like : goal.returns-then-not-are_like
returns-then-not-are_like c =
    let t = c.self.inside in
    rw (← c.self.view_is)
    (c.are_unlike.ensures ∙ any-unlike c.args.first (joined t.kinds t.addresses.items) t.kinds t.addresses.items c.self.invariant.1)

pub returns-else-not-are_like : goal.returns-else-not-are_like
returns-else-not-are_like c =
    let t = c.self.inside in
    let same = any-unlike c.args.first (joined t.kinds t.addresses.items) t.kinds t.addresses.items c.self.invariant.1 in
    rw (← c.self.view_is) (ap not c.if-not-are_like.false ∙ sym (c.are_like.ensures c.if-not-are_like.false) ∙ same)
