use Rattle.command_core.proofs.Common.{◌∙◌, ◌≡◌, Done, Err, Ok, Reaches, ap, hold_of, misshaped, place_of, refl, side_of, sym}
use Rattle.rmm_spec.specs.Rows.{reply_of}
use Rattle.command_core.specs.Pairs.{pair_cells}
use Rattle.command_core.proofs.Ready.{decision, decision-unshaped}
use Rattle.command_core.proofs.deciding.decide.Goals as goal

pub unreachable-requires : goal.unreachable-requires
unreachable-requires c =
    (decision c.args.config.now c.args.cpu c.args.command.now
    (hold_of (pair_cells c.args.held.now) (side_of c.args.side.now) (place_of c.args.place.now)) c.call.result c.settled_answer.result
    (Ok (Reaches c.in-Ok-Reaches.field-0-0)) c.call.ensures c.requires.settled c.settled_answer.ensures.answer
    (c.in-Ok-Reaches.is ∙ ap Ok c.in-Ok-Reaches.field-0-is)).can

pub returns-in-Ok-Done-clause-decides : goal.returns-in-Ok-Done-clause-decides
returns-in-Ok-Done-clause-decides c =
    (decision c.args.config.now c.args.cpu c.args.command.now
    (hold_of (pair_cells c.args.held.now) (side_of c.args.side.now) (place_of c.args.place.now)) c.call.result c.settled_answer.result
    (Ok (Done c.in-Ok-Done.words c.in-Ok-Done.change)) c.call.ensures c.requires.settled c.settled_answer.ensures.answer
    (c.in-Ok-Done.is ∙ ap Ok c.in-Ok-Done.field-0-is)).is_local

pub returns-in-Ok-Done-clause-furthest : goal.returns-in-Ok-Done-clause-furthest
returns-in-Ok-Done-clause-furthest c =
    (decision c.args.config.now c.args.cpu c.args.command.now
    (hold_of (pair_cells c.args.held.now) (side_of c.args.side.now) (place_of c.args.place.now)) c.call.result c.settled_answer.result
    (Ok (Done c.in-Ok-Done.words c.in-Ok-Done.change)) c.call.ensures c.requires.settled c.settled_answer.ensures.answer
    (c.in-Ok-Done.is ∙ ap Ok c.in-Ok-Done.field-0-is)).is_furthest

pub returns-in-Ok-Done-clause-can : goal.returns-in-Ok-Done-clause-can
returns-in-Ok-Done-clause-can c =
    (decision c.args.config.now c.args.cpu c.args.command.now
    (hold_of (pair_cells c.args.held.now) (side_of c.args.side.now) (place_of c.args.place.now)) c.call.result c.settled_answer.result
    (Ok (Done c.in-Ok-Done.words c.in-Ok-Done.change)) c.call.ensures c.requires.settled c.settled_answer.ensures.answer
    (c.in-Ok-Done.is ∙ ap Ok c.in-Ok-Done.field-0-is)).can

pub returns-in-Err-clause-decides : goal.returns-in-Err-clause-decides
returns-in-Err-clause-decides c =
    rw c.reply.ensures
    ((decision c.args.config.now c.args.cpu c.args.command.now
    (hold_of (pair_cells c.args.held.now) (side_of c.args.side.now) (place_of c.args.place.now)) c.call.result c.settled_answer.result
    (Err c.in-Err.refusal) c.call.ensures c.requires.settled c.settled_answer.ensures.answer c.in-Err.is).is_local)

pub returns-in-Err-clause-furthest : goal.returns-in-Err-clause-furthest
returns-in-Err-clause-furthest c =
    rw c.reply.ensures
    ((decision c.args.config.now c.args.cpu c.args.command.now
    (hold_of (pair_cells c.args.held.now) (side_of c.args.side.now) (place_of c.args.place.now)) c.call.result c.settled_answer.result
    (Err c.in-Err.refusal) c.call.ensures c.requires.settled c.settled_answer.ensures.answer c.in-Err.is).is_furthest)

pub returns-in-Err-clause-can : goal.returns-in-Err-clause-can
returns-in-Err-clause-can c = record { held = tt; tables = tt; here = tt }

pub returns-in-Ok-Done-clause-misplaced : goal.returns-in-Ok-Done-clause-misplaced
returns-in-Ok-Done-clause-misplaced c = λ unshaped.
    let is : c.settled_answer.result ≡ Err misshaped =
    decision-unshaped c.args.config.now c.args.cpu c.args.command.now
    (hold_of (pair_cells c.args.held.now) (side_of c.args.side.now) (place_of c.args.place.now)) c.call.result c.settled_answer.result
    c.call.ensures c.settled_answer.ensures.answer unshaped in
    absurd (let bad : Ok c.in-Ok-Done.field-0 ≡ Err misshaped = sym c.in-Ok-Done.is ∙ is in cc)

pub returns-in-Err-clause-misplaced : goal.returns-in-Err-clause-misplaced
returns-in-Err-clause-misplaced c = λ unshaped.
    let is : c.settled_answer.result ≡ Err misshaped =
    decision-unshaped c.args.config.now c.args.cpu c.args.command.now
    (hold_of (pair_cells c.args.held.now) (side_of c.args.side.now) (place_of c.args.place.now)) c.call.result c.settled_answer.result
    c.call.ensures c.settled_answer.ensures.answer unshaped in
    let both : Err c.in-Err.refusal ≡ Err misshaped = sym c.in-Err.is ∙ is in
    let same : c.in-Err.refusal ≡ misshaped = cc in
    (c.reply.ensures ∙ ap reply_of same, refl)
