-- A line of a call that overlaps is offered to the machine.
use Rattle.explain.proofs.Common.{◌≡◌, cpu_named, false, line_seen, number_named, refl, slice_get_within, state_of, true}
use Rattle.rmi_view.specs.Seen.{command_seen, reply_seen}
use Rattle.rmm_spec.specs.declared.event.Event.TheVariants.{Called}
use Rattle.spec_lemmas.proofs.Calls.{told_at_call}
use Rattle.explain.proofs.Lates.{moves_ok, not_taken}
use Rattle.explain.proofs.late.takes.Goals as goal

pub returns-then-not-overlap : goal.returns-then-not-overlap
returns-then-not-overlap c =
    let h = c.args.history.now.recorded in
    let line = line_seen c.args.line in
    let call = c.args.call.now in
    let other = rw (c.called_by-cpu.ensures.cpu, c.called_by-cpu.ensures.number) at c.in-Some.ensures.some in
    let test =
    c.if-not-overlap.ensures h call.cpu call.number (cpu_named line) (number_named line) c.well_formed-fact.ensures c.requires.places other in
    not_taken h.events call.cpu call.number line (state_of c.args.machine.now) (λ next takes. let bad : false ≡ true = test.1 takes.overlaps in cc)

pub returns-then-not-is_of_its_kind : goal.returns-then-not-is_of_its_kind
returns-then-not-is_of_its_kind c =
    let h = c.args.history.now.recorded in
    let line = line_seen c.args.line in
    let call = c.args.call.now in
    let other = rw (c.called_by-cpu.ensures.cpu, c.called_by-cpu.ensures.number) at c.in-Some.ensures.some in
    let test = c.if-not-is_of_its_kind.ensures h.events other in
    not_taken h.events call.cpu call.number line (state_of c.args.machine.now) (λ next takes. let bad : false ≡ true = test.1 takes.kind in cc)

pub command_at-requires : goal.command_at-requires
command_at-requires c =
    let made = c.in-Some.ensures.some.called in
    slice_get_within c.args.history.now.recorded.events c.in-Some.other.called
    (Called c.called_by-cpu.result.0 c.called_by-cpu.result.1 made.0) made.1

pub returns : goal.returns
returns c =
    let h = c.args.history.now.recorded in
    let line = line_seen c.args.line in
    let call = c.args.call.now in
    let other = rw (c.called_by-cpu.ensures.cpu, c.called_by-cpu.ensures.number) at c.in-Some.ensures.some in
    let overlaps = (c.if-not-overlap.ensures h call.cpu call.number (cpu_named line)
    (number_named line) c.well_formed-fact.ensures c.requires.places other).0 refl in
    let kind = (c.if-not-is_of_its_kind.ensures h.events other).0 refl in
    let command = command_seen c.in-Some-command_at.command in
    let is_called =
    told_at_call h.events c.in-Some.other.called (cpu_named line) (number_named line) command other.called c.in-Some-command_at.ensures.some in
    moves_ok h c.well_formed-fact.ensures call.cpu call.number line c.in-Some.other.called command (reply_seen c.claimed_reply-reply.result)
    (state_of c.args.machine.now) (state_of c.offer_seen.new.self) c.offer_seen.result overlaps kind is_called c.claimed_reply-reply.ensures
    (rw c.called_by-cpu.ensures.cpu at c.offer_seen.ensures.step) c.offer_seen.ensures.kept
    (rw c.called_by-cpu.ensures.cpu at c.offer_seen.ensures.only)
