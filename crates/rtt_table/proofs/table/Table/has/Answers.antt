use Rattle.std.proofs.Common.{◌≡◌, true, sym, ◌∙◌}
use Rattle.std.specs.List.{list_any}
use Rattle.std.proofs.lemmas.Bool.{or_left}
use Rattle.rmm_spec.specs.Walk.{is_live, is_unlike}
use Rattle.rtt_table.proofs.Unlike.{live-any}
use Rattle.rtt_table.proofs.table.Table.has.Goals as goal

pub returns-then-is_live : goal.returns-then-is_live
returns-then-is_live c =
    let entries = c.args.self.now.entries in
    let first = c.in-Unlike.first in
    let live : list_any is_live entries ≡ true = sym c.is_live-in-Unlike.ensures ∙ c.if-is_live.true in
    let found = sym (live-any first entries) ∙ or_left (list_any is_live entries) (list_any (is_unlike first) entries) live in
    rw c.in-Unlike.is (c.if-is_live.true ∙ sym found)
