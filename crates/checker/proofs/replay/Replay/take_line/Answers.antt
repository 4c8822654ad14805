-- A line whose call is found, is of its kind and in time is due.
use Rattle.std.proofs.Common.{sym, ◌∙◌}
use Rattle.std.proofs.lemmas.Option.{slice_get_within}
use Rattle.std.proofs.lemmas.Result.{IfOk-weaker, on_err_weaker}
use Rattle.rmm_spec.specs.declared.line.Line.TheVariants.{Keep, Unfinished}
use Rattle.rmm_spec.specs.Linearization.{IsReturned}
use Rattle.certificate.specs.LineRef.{line_seen}
use Rattle.spec_lemmas.proofs.Calls.{told_at_return}
use Rattle.checker.specs.Replay.{IsDue}
use Rattle.rmi_view.specs.Seen.{reply_seen}
use Rattle.checker.proofs.Judging.{called_within, flagged, IsDue-flagged, IsDue-unfinished, IsRefusedMemory-flagged, IsTooLate-from_latest, JudgesLine-flagged, MatchOption-at_not_some, MatchOption-at_is_some, NamesCall-read}
use Rattle.checker.proofs.replay.Replay.take_line.Goals as goal

pub returns-in_default-clause-judged : goal.returns-in_default-clause-judged
returns-in_default-clause-judged c = λ before progress. rw c.in_default.is at c.places_named.ensures.none

pub index-requires : goal.index-requires
index-requires c =
    let named = c.args.self.now.named in
    let made = c.in-Some.ensures.some.called in
    rw named.ok.0 (called_within c.args.history.now.recorded named.items c.in-Some.places.called _ _ made.0 c.requires.counted made.1)

pub returns-then-index-clause-judged : goal.returns-then-index-clause-judged
returns-then-index-clause-judged c = λ before progress.
    rw c.if-index.true at
    (NamesCall-read c.args.self.now c.args.history.now.recorded (line_seen c.args.line) c.in-Some.places.called c.index.result.now
    c.in-Some.ensures.some.called c.index.ensures before progress)

pub returns-in_default-returned-clause-judged : goal.returns-in_default-returned-clause-judged
returns-in_default-returned-clause-judged c = λ before progress.
    let new = rw c.if-index.false at
    (NamesCall-read c.args.self.now c.args.history.now.recorded (line_seen c.args.line) c.in-Some.places.called c.index.result.now
    c.in-Some.ensures.some.called c.index.ensures before progress) in
    let places = rw c.in-Keep.is at c.in-Some.ensures.some in
    (new.0, new.1, rw c.in-Keep.is (rw c.in_default-returned.is at places.returned))

pub returns-then-returned-self-clause-judged : goal.returns-then-returned-self-clause-judged
returns-then-returned-self-clause-judged c = λ before progress.
    let new = rw c.if-index.false at
    (NamesCall-read c.args.self.now c.args.history.now.recorded (line_seen c.args.line) c.in-Some.places.called c.index.result.now
    c.in-Some.ensures.some.called c.index.ensures before progress) in
    let told = rw c.in-Some-returned.is at c.in-Some.ensures.some.returned in
    let places = rw c.in-Keep.is at c.in-Some.ensures.some in
    let kept = rw c.in-Some-returned.is at places.returned in (
      new.0,
      new.1,
      rw c.in-Keep.is (c.in-Some-returned.returned, kept.0, kept.1),
      IsTooLate-from_latest c.args.history.now.recorded before
          c.args.self.now.named.items c.args.self.now.latest _ (line_seen c.args.line) progress c.in-Some-returned.returned told.0 told.1
          c.if-returned-self.true,
    )

pub returns-then-is_some-clause-judged : goal.returns-then-is_some-clause-judged
returns-then-is_some-clause-judged c = λ before progress.
    let new = rw c.if-index.false at
    (NamesCall-read c.args.self.now c.args.history.now.recorded (line_seen c.args.line) c.in-Some.places.called c.index.result.now
    c.in-Some.ensures.some.called c.index.ensures before progress) in
    let places = rw c.in-Unfinished.is at c.in-Some.ensures.some in
    let finished = MatchOption-at_is_some c.in-Some.places.returned _ _ (sym c.is_some.ensures ∙ c.if-is_some.true) places.returned in
    (new.0, new.1, rw c.in-Unfinished.is (λ pending. pending (finished.0, finished.1.0, finished.1.1)))

pub reply_at-requires : goal.reply_at-requires
reply_at-requires c =
    let told = rw c.in-Some-returned.is at c.in-Some.ensures.some.returned in
    slice_get_within c.args.history.now.recorded.events c.in-Some-returned.returned _ told.1

pub take_reply-requires-clause-is_called : goal.take_reply-requires-clause-is_called
take_reply-requires-clause-is_called c =
    let places = rw c.in-Keep.is at c.in-Some.ensures.some in
    (c.in-Keep.number, places.called.0, places.called.1)

pub take_reply-requires-in-Unfinished-clause-is_called : goal.take_reply-requires-in-Unfinished-clause-is_called
take_reply-requires-in-Unfinished-clause-is_called c =
    let places = rw c.in-Unfinished.is at c.in-Some.ensures.some in
    (c.in-Unfinished.number, places.called.0, places.called.1)

-- the call returned with the reply that was read
was_returned : (c : goal.After-take_reply) → IsReturned c.args.history.now.recorded.events c.in-Some-returned.returned
    c.in-Keep.cpu c.in-Keep.number (reply_seen c.in-Some-reply_at.reply)
was_returned c =
    let places = rw c.in-Keep.is at c.in-Some.ensures.some in
    told_at_return c.args.history.now.recorded.events c.in-Some-returned.returned c.in-Keep.cpu c.in-Keep.number
    (reply_seen c.in-Some-reply_at.reply) (rw c.in-Some-returned.is at places.returned) c.in-Some-reply_at.ensures.some

-- a kept line whose call is found and in time is due
due_kept : (c : goal.After-take_reply) → IsDue (flagged c.args.self.now c.in-Some-returned.returned) c.args.history.now.recorded
    (Keep c.in-Keep.cpu c.in-Keep.number) c.in-Keep.cpu c.in-Some.places.called (reply_seen c.in-Some-reply_at.reply)
due_kept c =
    let places = rw c.in-Keep.is at c.in-Some.ensures.some in
    IsDue-flagged c.args.self.now c.args.history.now.recorded c.in-Keep.cpu c.in-Keep.number c.in-Some.places.called c.index.result.now
    c.in-Some-returned.returned (reply_seen c.in-Some-reply_at.reply) places.called c.index.ensures c.if-index.false (was_returned c)
    c.if-returned-self.false

pub returns-in-Some-reply_at-clause-judged : goal.returns-in-Some-reply_at-clause-judged
returns-in-Some-reply_at-clause-judged c =
    let keep = Keep c.in-Keep.cpu c.in-Keep.number in
    IfOk-weaker c.take_reply.result _ _
    (λ why taken. rw c.in-Keep.is (JudgesLine-flagged why c.args.self.now c.take_reply.new.self c.args.history.now.recorded keep
    c.in-Some-returned.returned _ _ _ (was_returned c) (taken keep (due_kept c)))) c.take_reply.ensures.judged

pub returns-in-Some-reply_at-clause-refused : goal.returns-in-Some-reply_at-clause-refused
returns-in-Some-reply_at-clause-refused c =
    let keep = Keep c.in-Keep.cpu c.in-Keep.number in
    on_err_weaker c.take_reply.result
    (λ refused. rw c.in-Keep.is (IsRefusedMemory-flagged c.args.self.now c.args.history.now.recorded keep
    c.in-Some-returned.returned _ _ _ (was_returned c) (refused keep (due_kept c)))) c.take_reply.ensures.refused

-- an unfinished line of a pending call is due
due_unfinished : (c : goal.After-take_reply-in-Unfinished) → IsDue c.args.self.now c.args.history.now.recorded
    (Unfinished c.in-Unfinished.cpu c.in-Unfinished.number c.in-Unfinished.reply.now)
    c.in-Unfinished.cpu c.in-Some.places.called c.in-Unfinished.reply.now
due_unfinished c =
    let named = c.in-Unfinished in
    let places = rw named.is at c.in-Some.ensures.some in
    let pending = MatchOption-at_not_some c.in-Some.places.returned _ _ (sym c.is_some.ensures ∙ c.if-is_some.false) places.returned in
    IsDue-unfinished c.args.self.now c.args.history.now.recorded named.cpu named.number c.in-Some.places.called c.index.result.now named.reply.now
    places.called c.index.ensures c.if-index.false pending

pub returns-else-is_some-clause-judged : goal.returns-else-is_some-clause-judged
returns-else-is_some-clause-judged c =
    let named = c.in-Unfinished in
    IfOk-weaker c.take_reply-in-Unfinished.result _ _
    (λ why taken. rw named.is (taken (Unfinished named.cpu named.number named.reply.now) (rw c.of.ensures.seen (due_unfinished c))))
    c.take_reply-in-Unfinished.ensures.judged

pub returns-else-is_some-clause-refused : goal.returns-else-is_some-clause-refused
returns-else-is_some-clause-refused c =
    let named = c.in-Unfinished in
    on_err_weaker c.take_reply-in-Unfinished.result
    (λ refused. rw named.is (refused (Unfinished named.cpu named.number named.reply.now) (rw c.of.ensures.seen (due_unfinished c))))
    c.take_reply-in-Unfinished.ensures.refused
