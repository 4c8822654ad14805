-- Behind a call what isn't dropped is known.
use Rattle.rmi_view.specs.Seen.{command_seen}
use Rattle.rmm_spec.specs.Call.{call_of}
use Rattle.registers.proofs.CallLaws.{AsksForNone-other}
use Rattle.registers.proofs.SlotLaws.{AreAsked-none, AreSlots-call, AreSlots-none}
use Rattle.registers.proofs.scan.pass_call.Goals as goal

pub returns-in_default : goal.returns-in_default
returns-in_default c =
    AreSlots-none c.args.setting.now.history.now.recorded c.well_formed-fact.ensures c.args.setting.now.owners.now c.args.place c.args.slots.now.items
    c.in_default.ensures.none c.requires.no_return c.requires.slots

pub returns-in-RecCreate : goal.returns-in-RecCreate
returns-in-RecCreate c =
    let some = c.in-Some.ensures.some in
    AreSlots-call c.args.setting.now.history.now.recorded c.well_formed-fact.ensures c.args.setting.now.owners.now c.args.place some.0 some.1
    (command_seen c.in-Some.command) c.args.slots.now.items c.drop_asked.new.slots.items some.2 c.requires.no_return c.requires.slots
    (rw c.call.ensures at c.drop_asked.ensures)

pub returns-in_default-function : goal.returns-in_default-function
returns-in_default-function c =
    let some = c.in-Some.ensures.some in
    let command = command_seen c.in-Some.command in
    AreSlots-call c.args.setting.now.history.now.recorded c.well_formed-fact.ensures c.args.setting.now.owners.now c.args.place some.0 some.1 command
    c.args.slots.now.items c.args.slots.now.items some.2 c.requires.no_return c.requires.slots
    (AreAsked-none c.args.setting.now.history.now.recorded c.well_formed-fact.ensures c.args.setting.now.owners.now (call_of command)
    c.args.slots.now.items (AsksForNone-other command.function command.words.items c.in_default-function.not-RecCreate))
