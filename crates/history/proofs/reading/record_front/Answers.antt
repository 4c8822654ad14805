use Rattle.std.proofs.Common.{◌≡◌, ℕ, ◌<◌, ap, subst, ◌∙◌}
use Rattle.memory_map.specs.declared.config.Config.{Config}
use Rattle.rmi_view.specs.Seen.{command_seen}
use Rattle.rmm_spec.specs.declared.event.Event.TheVariants.{Called, Returned}
use Rattle.rmm_spec.specs.declared.reply.Reply.TheVariants as reply
use Rattle.history.proofs.FrontLaws.{history_text-front, place_inside, place_on}
use Rattle.history.proofs.WriteLaws.{event_text-called, event_text-returned}
use Rattle.history.proofs.reading.record_front.Goals as goal

pub returns-in_ok-command-in-99-clause-recorded : goal.returns-in_ok-command-in-99-clause-recorded
returns-in_ok-command-in-99-clause-recorded c =
    let read = c.in_ok-command-in-99 in
    history_text-front c.record_to.result c.args.history.now.recorded c.record_to.new.history.recorded
    (Called c.in_ok-cpu.cpu c.in_ok-cpu.number (command_seen read.command)) c.args.text.now c.in_ok-cpu.at read.end _ _
    (rw c.in-99.is at c.in_ok-cpu.ensures.found) read.ensures.found (event_text-called _ _ _) c.record_to.ensures.recorded c.record_to.ensures.place

pub returns-in-Some-clause-recorded : goal.returns-in-Some-clause-recorded
returns-in-Some-clause-recorded c =
    let recorded = c.record_to-in-114 in
    history_text-front recorded.result c.args.history.now.recorded recorded.new.history.recorded
    (Returned c.in_ok-cpu.cpu c.in_ok-cpu.number (reply.Ok (record { items = c.in-Some.words.now }))) c.args.text.now c.in_ok-cpu.at c.in-Some.end _ _
    (rw c.in-114.is at c.in_ok-cpu.ensures.found) c.in-Some.ensures.found (event_text-returned _ _ _) recorded.ensures.recorded recorded.ensures.place

pub returns-in_ok-command-in-99-clause-some : goal.returns-in_ok-command-in-99-clause-some
returns-in_ok-command-in-99-clause-some c = place_on c.record_to.result _ _ c.record_to.ensures.place c.in_ok-command-in-99.ensures.on

pub returns-in_ok-command-in-99-clause-inside : goal.returns-in_ok-command-in-99-clause-inside
returns-in_ok-command-in-99-clause-inside c = place_inside c.record_to.result _ _ c.record_to.ensures.place c.in_ok-command-in-99.ensures.inside

pub returns-in-Some-clause-some : goal.returns-in-Some-clause-some
returns-in-Some-clause-some c = place_on c.record_to-in-114.result _ _ c.record_to-in-114.ensures.place c.in-Some.ensures.on

pub returns-in-Some-clause-inside : goal.returns-in-Some-clause-inside
returns-in-Some-clause-inside c = place_inside c.record_to-in-114.result _ _ c.record_to-in-114.ensures.place c.in-Some.ensures.inside

cpu_within : (cpu cpus : ℕ) (told config : Config) → told ≡ config → cpus ≡ told.cpus → cpu < cpus → cpu < config.cpus
cpu_within cpu cpus told config same count below = subst (λ n. cpu < n) (count ∙ ap (λ (k : Config). k.cpus) same) below

pub record_to-requires-clause-is_event : goal.record_to-requires-clause-is_event
record_to-requires-clause-is_event c = (
  cpu_within _ _ _ _ c.config.ensures c.cpus-cpus.ensures.count c.in_ok-cpu.ensures.cpu,
  c.in_ok-command-in-99.ensures.command,
)

pub record_to-requires-in-114-clause-is_event : goal.record_to-requires-in-114-clause-is_event
record_to-requires-in-114-clause-is_event c = (
  cpu_within _ _ _ _ c.config.ensures c.cpus-cpus.ensures.count c.in_ok-cpu.ensures.cpu,
  (c.in-Some.ensures.few, c.in-Some.ensures.words),
)

pub record_refusal-requires-clause-cpu : goal.record_refusal-requires-clause-cpu
record_refusal-requires-clause-cpu c = cpu_within _ _ _ _ c.config.ensures c.cpus-cpus.ensures.count c.in_ok-cpu.ensures.cpu

pub record_to-requires-clause-room : goal.record_to-requires-clause-room
record_to-requires-clause-room c = c.has_room.ensures.0 c.if-not-has_room.false

pub record_to-requires-in-114-clause-room : goal.record_to-requires-in-114-clause-room
record_to-requires-in-114-clause-room c = c.has_room.ensures.0 c.if-not-has_room.false

pub record_refusal-requires-clause-room : goal.record_refusal-requires-clause-room
record_refusal-requires-clause-room c = c.has_room.ensures.0 c.if-not-has_room.false
