-- The call of the CPU is that of each line, or there is no line.
use Rattle.std.proofs.Common.{None, Option, ap, slice_index_or, subst, sym, ◌∙◌}
use Rattle.std.proofs.lemmas.Option.{slice_get_within}
use Rattle.rmi_view.specs.Seen.{command_seen, reply_seen}
use Rattle.rmm_spec.specs.declared.call.Call.{Call}
use Rattle.verdict_laws.specs.Registers.{register_call}
use Rattle.registers.specs.declared.cpus.Cpu.{Cpu}
use Rattle.registers.specs.declared.open_call.OpenCall.{OpenCall}
use Rattle.registers.specs.Opens.{HasOpen}
use Rattle.registers.specs.Owners.{mine_at, register_at}
use Rattle.registers.proofs.CpuLaws.{is_cpu_at, places_at}
use Rattle.registers.proofs.OpenLaws.{HasOpen-done, HasOpen-later, HasOpen-not_done, HasOpen-nothing, HasOpen-unmade, IsReturnPlace-of}
use Rattle.registers.proofs.opens.open_call.Goals as goal

none : Cpu
none = record { number = 0; places = None; entered = None }

pub returns-in_err-places-clause-all : goal.returns-in_err-places-clause-all
unfolding none
returns-in_err-places-clause-all c =
    let a = c.args in
    let history = a.setting.now.history.now.recorded in
    let owners = a.setting.now.owners.now in
    let is_cpu = is_cpu_at history a.place a.cpus.now a.cpu none c.requires.cpus c.requires.cpu in
    subst (λ (o : Option OpenCall). HasOpen history owners a.place a.slot a.cpu o) (sym c.from_residual.ensures)
    (HasOpen-unmade history c.well_formed-fact.ensures owners a.place a.slot a.cpu (slice_index_or a.cpus.now a.cpu none) is_cpu c.in_err-places.was)

pub returns-then-places-place-clause-all : goal.returns-then-places-place-clause-all
unfolding none
returns-then-places-place-clause-all c =
    let a = c.args in
    let history = a.setting.now.history.now.recorded in
    let is_cpu = is_cpu_at history a.place a.cpus.now a.cpu none c.requires.cpus c.requires.cpu in
    HasOpen-later history c.well_formed-fact.ensures a.setting.now.owners.now a.place a.slot a.cpu (slice_index_or a.cpus.now a.cpu none) is_cpu
    c.in_ok-places.places c.in_ok-places.was c.if-places-place.true

pub command_at-requires : goal.command_at-requires
unfolding none
command_at-requires c =
    let history = c.args.setting.now.history.now.recorded in
    let places = c.in_ok-places.places in
    let are = places_at history c.args.place c.args.cpus.now c.args.cpu none places c.requires.cpus c.requires.cpu c.in_ok-places.was in
    slice_get_within history.events places.called _ are.called.1

pub returns-in_err-command-clause-all : goal.returns-in_err-command-clause-all
unfolding none
returns-in_err-command-clause-all c =
    let a = c.args in
    let history = a.setting.now.history.now.recorded in
    let are = places_at history a.place a.cpus.now a.cpu none c.in_ok-places.places c.requires.cpus c.requires.cpu c.in_ok-places.was in
    absurd (c.in_err-command.ensures.none a.cpu (slice_index_or a.cpus.now a.cpu none).number are.called.0 are.called.1)

pub reply_of-requires : goal.reply_of-requires
unfolding none
reply_of-requires c =
    let a = c.args in
    let history = a.setting.now.history.now.recorded in
    let are = places_at history a.place a.cpus.now a.cpu none c.in_ok-places.places c.requires.cpus c.requires.cpu c.in_ok-places.was in
    IsReturnPlace-of history a.cpu (slice_index_or a.cpus.now a.cpu none).number c.in_ok-places.places.returned are.returned

pub returns-in_err-call-clause-all : goal.returns-in_err-call-clause-all
unfolding none
returns-in_err-call-clause-all c =
    let a = c.args in
    let history = a.setting.now.history.now.recorded in
    let owners = a.setting.now.owners.now in
    let is_cpu = is_cpu_at history a.place a.cpus.now a.cpu none c.requires.cpus c.requires.cpu in
    subst (λ (o : Option OpenCall). HasOpen history owners a.place a.slot a.cpu o) (sym c.from_residual-in_err-call.ensures)
    (HasOpen-nothing history c.well_formed-fact.ensures owners a.place a.slot a.cpu (slice_index_or a.cpus.now a.cpu none) is_cpu
    c.in_ok-places.places c.in_ok-places.was (command_seen c.in_ok-command.command) c.in_ok-command.ensures.some (reply_seen c.reply_of.result)
    c.reply_of.ensures c.in_err-call.ensures.none)

pub returns-in_err-done-clause-all : goal.returns-in_err-done-clause-all
unfolding none
returns-in_err-done-clause-all c =
    let a = c.args in
    let history = a.setting.now.history.now.recorded in
    let owners = a.setting.now.owners.now in
    let one = slice_index_or a.cpus.now a.cpu none in
    let is_cpu = is_cpu_at history a.place a.cpus.now a.cpu none c.requires.cpus c.requires.cpu in
    subst (λ (o : Option OpenCall). HasOpen history owners a.place a.slot a.cpu o) (sym c.from_residual-in_err-done.ensures)
    (HasOpen-not_done history c.well_formed-fact.ensures owners a.place a.slot a.cpu one is_cpu c.in_ok-places.places c.in_ok-places.was
    (command_seen c.in_ok-command.command) c.in_ok-command.ensures.some (reply_seen c.reply_of.result) c.reply_of.ensures
    (c.in_err-done.ensures
    ∙ ap (λ (m : Call). register_call (register_at a.slot) (mine_at owners a.slot) one.entered m) c.in_ok-call.ensures.call))

pub returns-clause-all : goal.returns-clause-all
unfolding none
returns-clause-all c =
    let a = c.args in
    let history = a.setting.now.history.now.recorded in
    let owners = a.setting.now.owners.now in
    let one = slice_index_or a.cpus.now a.cpu none in
    let is_cpu = is_cpu_at history a.place a.cpus.now a.cpu none c.requires.cpus c.requires.cpu in
    HasOpen-done history c.well_formed-fact.ensures owners a.place a.slot a.cpu one is_cpu c.in_ok-places.places c.in_ok-places.was
    (command_seen c.in_ok-command.command) c.in_ok-command.ensures.some (reply_seen c.reply_of.result) c.reply_of.ensures c.in_ok-done.done
    (c.in_ok-done.ensures
    ∙ ap (λ (m : Call). register_call (register_at a.slot) (mine_at owners a.slot) one.entered m) c.in_ok-call.ensures.call)
