-- The possibilities follow by the open calls and the one that returns.
use Rattle.std.proofs.Common.{arith, sym, ◌∙◌, ◌≡◌, length}
use Rattle.std.proofs.lemmas.Bool.{eqb-true}
use Rattle.std.proofs.lemmas.List.{nil_from_length}
use Rattle.registers.specs.Leads.{call_done}
use Rattle.registers.proofs.SlotLaws.{ArePossible-led, LeadsNowhere-led}
use Rattle.registers.proofs.returns.next_from.Goals as goal

pub returns-then-is_empty : goal.returns-then-is_empty
returns-then-is_empty c =
    let history = c.args.setting.now.history.now.recorded in
    let led = rw c.in-Some.is at c.in_ok-next.ensures in
    let next = c.in-Some.next in
    let same : next.len ≡ length next.items = omega (arith, next.ok.0) in
    let empty : next.len ≡ 0 = eqb-true next.len 0 (sym c.is_empty.ensures ∙ c.if-is_empty.true) in
    LeadsNowhere-led history c.well_formed-fact.ensures c.args.setting.now.owners.now c.args.cpus.now c.args.at.now c.requires.done.0 c.requires.cpus
    c.requires.done.1 c.args.slot (call_done c.args.done.now) c.requires.done.2 c.as_slice.result.now
    (rw c.as_slice.ensures.value c.in_ok-opens.ensures.all)
    c.args.possible.now led.0 next.items led.1 c.requires.possible (nil_from_length next.items (sym same ∙ empty))

pub returns-in-Some : goal.returns-in-Some
returns-in-Some c =
    let history = c.args.setting.now.history.now.recorded in
    let led = rw c.in-Some.is at c.in_ok-next.ensures in
    ArePossible-led history c.well_formed-fact.ensures c.args.setting.now.owners.now c.args.cpus.now c.args.at.now c.requires.done.0 c.requires.cpus
    c.requires.done.1 c.args.slot (call_done c.args.done.now) c.requires.done.2 c.as_slice.result.now
    (rw c.as_slice.ensures.value c.in_ok-opens.ensures.all)
    c.args.possible.now led.0 c.in-Some.next.items led.1 c.requires.possible
