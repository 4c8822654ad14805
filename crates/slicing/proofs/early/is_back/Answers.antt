-- The calls made before the place are those before the one that isn't, and return no later than the last of them.
use Rattle.std.proofs.Common.{arith, ltb-true}
use Rattle.slicing.proofs.EarlyLaws.{IsBack-below, number_below}
use Rattle.slicing.proofs.early.is_back.Goals as goal

pub returns-in_default : goal.returns-in_default
returns-in_default c is place number command is_called early =
    let none = c.in_default.ensures in
    let below = number_below c.args.history.now.recorded c.well_formed-fact.ensures c.args.count c.args.cpu c.calls_before-made.result
    c.args.from (c.is_made_before.ensures c.if-is_made_before.false) place number command is_called early in
    absurd (omega (arith, below, none))

pub returns-then-returned-first : goal.returns-then-returned-first
returns-then-returned-first c within place number command is_called early =
    let history = c.args.history.now.recorded in
    let count = c.args.count in
    let cpu = c.args.cpu in
    let returned = c.in-Some-returned.returned in
    let last = c.in-Some.ensures in
    let told = rw c.in-Some-returned.is at c.in-Some-places_of.ensures.some.returned in
    let below = number_below history c.well_formed-fact.ensures count cpu c.calls_before-made.result c.args.from
    (c.is_made_before.ensures c.if-is_made_before.false) place number command is_called early in
    IsBack-below history c.well_formed-fact.ensures count cpu number c.in-Some.last returned c.args.first told.0
    (omega (arith, below, last.0, last.1)) told.1 c.if-returned-first.true (ltb-true returned count within)
