use Rattle.undo_log.proofs.Common.{◌∙◌, ap, both_ways, changed, is_reached-reached, refl, reply_seen, state_of, sym}
use Rattle.spec_machine.proofs.Reached.{no_reach, not_taken}
use Rattle.undo_log.proofs.patch.Patch.reach_logged.Goals as goal

pub returns-then-not-is_reached-clause-taken : goal.returns-then-not-is_reached-clause-taken
returns-then-not-is_reached-clause-taken c =
    let s = state_of c.args.machine.now in
    not_taken _ s _ (no_reach s c.args.stretch.now c.in-Some.top (reply_seen c.args.reply) c.in-Some.ensures.found (sym c.if-not-is_reached.ensures))

pub apply_logged-requires : goal.apply_logged-requires
apply_logged-requires c =
    rw c.reached_change.ensures (c.requires.can c.in-Some.top
    (is_reached-reached (state_of c.args.machine.now) c.args.stretch.now c.in-Some.top (sym c.if-not-is_reached.ensures)))

pub returns-clause-taken : goal.returns-clause-taken
returns-clause-taken c =
    let s = state_of c.args.machine.now in
    let reached = is_reached-reached s c.args.stretch.now c.in-Some.top (sym c.if-not-is_reached.ensures) in
    record {
      step = λ _. (c.in-Some.top, (reached, c.in-Some.ensures.found, c.in_ok-apply_logged.ensures.ok ∙ ap (changed s) c.reached_change.ensures));
      only = λ bad. both_ways refl bad;
      kept = λ bad. both_ways refl bad;
    }
