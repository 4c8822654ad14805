use Rattle.spec_machine.proofs.Common.{◌∙◌, IsTrue, ap, both_ways, changed, is_reached-reached, refl, reply_seen, state_of, sym, takes_memory}
use Rattle.spec_machine.proofs.Memory.{reached_takes_none}
use Rattle.spec_machine.proofs.Reached.{no_reach, not_taken}
use Rattle.spec_machine.proofs.machine.Machine.reach.Goals as goal

pub returns-in_default : goal.returns-in_default
returns-in_default c = not_taken _ _ _ (λ next (top, (reached, told, changed)). c.in_default.ensures.none top told)

pub returns-then-not-is_reached : goal.returns-then-not-is_reached
returns-then-not-is_reached c =
    let s = state_of c.args.self.now in
    not_taken _ s _ (no_reach s c.args.stretch.now c.in-Some.top (reply_seen c.args.reply) c.in-Some.ensures.found (sym c.if-not-is_reached.ensures))

pub apply-requires : goal.apply-requires
apply-requires c =
    rw c.reached_change.ensures (c.requires.can c.in-Some.top
    (is_reached-reached (state_of c.args.self.now) c.args.stretch.now c.in-Some.top (sym c.if-not-is_reached.ensures)))

pub unreachable-requires : goal.unreachable-requires
unreachable-requires c =
    let takes : IsTrue (takes_memory c.reached_change.result) = c.in_default-apply.ensures.only in
    both_ways takes (ap takes_memory c.reached_change.ensures ∙ reached_takes_none c.args.stretch.now c.in-Some.top)

pub returns : goal.returns
returns c =
    let s = state_of c.args.self.now in
    let reached = is_reached-reached s c.args.stretch.now c.in-Some.top (sym c.if-not-is_reached.ensures) in
    record {
      step = λ _. (c.in-Some.top, (reached, c.in-Some.ensures.found, c.in-Ok.ensures.ok ∙ ap (changed s) c.reached_change.ensures));
      only = λ bad. both_ways refl bad;
      kept = λ bad. both_ways refl bad;
    }
