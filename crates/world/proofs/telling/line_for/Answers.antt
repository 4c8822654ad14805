use Rattle.world.proofs.Common.{◌∙◌, Reply, ap, subst, sym}
use Rattle.std.specs.Prelude.{MatchOption}
use Rattle.rmm_spec.specs.declared.line.Line.TheVariants.{Unfinished}
use Rattle.rmm_spec.specs.Linearization.{IsReturned, IsFinished}
use Rattle.command_log.specs.Log.{logged_seen}
use Rattle.spec_lemmas.proofs.LineOf.{line_for-returned, line_for-unfinished}
use Rattle.world.specs.Journal.{commitment_of}
use Rattle.world.proofs.telling.line_for.Goals as goal

pub returns-in-Some-returned : goal.returns-in-Some-returned
returns-in-Some-returned c =
    let events = c.args.history.now.recorded.events in
    let of = c.args.commit.mark in
    let returned = subst
    (λ found. MatchOption found (¬ IsFinished events of.cpu of.number) (λ place. (given : Reply) × IsReturned events place of.cpu of.number given))
    c.in-Some-returned.is c.in-Some.ensures.some.returned in
    sym (line_for-returned events (commitment_of (logged_seen c.args.commit)) c.in-Some-returned.field-0 returned.0 returned.1)

pub returns-in-None : goal.returns-in-None
returns-in-None c =
    let events = c.args.history.now.recorded.events in
    let of = c.args.commit.mark in
    let open_call = subst
    (λ found. MatchOption found (¬ IsFinished events of.cpu of.number) (λ place. (given : Reply) × IsReturned events place of.cpu of.number given))
    c.in-None.is c.in-Some.ensures.some.returned in
    ap (Unfinished of.cpu of.number) c.to_reply.ensures ∙ sym (line_for-unfinished events (commitment_of (logged_seen c.args.commit)) open_call)
