use Rattle.world.proofs.Common.{◌∙◌, ap, place_of, side_of, sym}
use Rattle.rmm_spec.specs.Ownership.{is_accepted}
use Rattle.rmm_laws.specs.Whole.{side_changed}
use Rattle.command_core.specs.Changed.{hold_of, hold_changed}
use Rattle.command_core.specs.Decided.{answer_on}
use Rattle.command_core.specs.Seen.{known_cell}
use Rattle.world_laws.proofs.Accepted.{refused-is_local}
use Rattle.world.proofs.Commits.{refused-unchanged}
use Rattle.world.proofs.stepping.step_on.Goals as goal
use Rattle.command_core.specs.Pairs.{pair_cells}

-- what refuses is a local step that changes nothing
pub returns-then-not-is_accepted-clause-ok : goal.returns-then-not-is_accepted-clause-ok
returns-then-not-is_accepted-clause-ok c =
    let hold = hold_of (pair_cells c.args.held.now) (side_of c.args.side.now) (place_of c.args.place.now) in
    refused-is_local c.args.config.now c.args.cpu c.args.command.now c.decide-reply.result.0 hold (hold_changed hold c.decide-reply.result.1)
    (sym c.is_accepted.ensures ∙ c.if-not-is_accepted.true) c.decide-reply.ensures.decides

-- the change that is decided makes a table
pub returns-in_default-clause-only : goal.returns-in_default-clause-only
returns-in_default-clause-only c =
    record {
      given = c.decide-reply.result.0;
      change = c.decide-reply.result.1;
      decides = c.decide-reply.ensures.decides;
      can = c.decide-reply.ensures.can;
      accepts = sym c.is_accepted.ensures ∙ c.if-not-is_accepted.false;
      is_table = c.in_default.ensures.only;
    }

-- a refusal leaves what is held as it was
pub returns-then-not-is_accepted-clause-answered : goal.returns-then-not-is_accepted-clause-answered
returns-then-not-is_accepted-clause-answered c =
    let hold = hold_of (pair_cells c.args.held.now) (side_of c.args.side.now) (place_of c.args.place.now) in
    let given = c.decide-reply.ensures.given in
    record {
      is_given = given;
      is_changed = sym (refused-unchanged hold (answer_on c.args.config.now c.args.cpu c.args.command.now hold)
          (ap is_accepted (sym given) ∙ sym c.is_accepted.ensures ∙ c.if-not-is_accepted.true));
    }

pub returns-clause-answered : goal.returns-clause-answered
returns-clause-answered c =
    let hold = hold_of (pair_cells c.args.held.now) (side_of c.args.side.now) (place_of c.args.place.now) in
    record {
      is_given = c.decide-reply.ensures.given;
      is_changed = (λ i. hold_of (c.apply.ensures.cells i)
          ((c.apply.ensures.side ∙ ap (λ side. side_changed (known_cell hold.cells) side c.decide-reply.result.1) c.room.ensures.kept) i)
          (c.apply.ensures.place i)) ∙ ap (hold_changed hold) c.decide-reply.ensures.change;
    }
