use Rattle.std.proofs.Common.{ℕ, List, ◌++◌, Some, Result, take, drop, refl, subst, sym, ap, ◌∙◌, append_assoc}
use Rattle.std.proofs.lemmas.Bool.{false≢true}
use Rattle.std.proofs.lemmas.List.{append-nil}
use Rattle.certificate.proofs.PieceLemmas.{over}
use Rattle.certificate.specs.Pieces.{Begun}
use Rattle.rmm_spec.specs.declared.line.Line.TheVariants.{Keep}
use Rattle.checker.specs.Session.{HasJudgedBy, offers_of}
use Rattle.checker.proofs.Offers.{offers_further, offers_within}
use Rattle.checker.proofs.Refusals.{IsOk-kept, IsRefusedIn-line, IsRefusedIn-told}
use Rattle.checker.proofs.SessionLaws.{IsFedUpTo-none, HasJudged-next, HasJudged-kept, HasJudged-bad, cut_further, taken_shortens, taken_within}
use Rattle.checker.proofs.session.Session.feed.Goals as goal

pub returns-then-self-clause-refused : goal.returns-then-self-clause-refused
returns-then-self-clause-refused c = λ going. absurd (false≢true (sym going ∙ c.if-self.true))

pub loop-rest-init : goal.loop-rest-init
loop-rest-init c = IsFedUpTo-none c.args.self.now c.args.piece.now c.if-self.false

pub loop-rest-preserved-in-Some : goal.loop-rest-preserved-in-Some
loop-rest-preserved-in-Some c =
    let so_far = c.loop-rest.invariant in
    let session = c.loop-rest.self in
    let count = c.in-Some.kept in
    let line = Keep c.in-Some.cpu c.in-Some.number in
    let taken = take count c.loop-rest.rest.now in
    record {
      front = so_far.front ++ taken;
      is_piece = cut_further c.args.piece.now so_far.front c.loop-rest.rest.now c.split_at.result.1.now count so_far.is_piece c.split_at.ensures.back;
      judged = λ text given.
          subst (λ (t : List ℕ). HasJudgedBy c.next_kept.new.self c.judge_line.new.replay c.judge_line.new.failed session.history.recorded t)
          (append_assoc text so_far.front taken)
          (HasJudged-kept session.certificate c.next_kept.new.self count c.count-place.result line c.next_kept.result _ session.replay
          c.judge_line.new.replay session.failed c.judge_line.new.failed session.history.recorded
          (text ++ so_far.front) c.loop-rest.rest.now c.in-Some.is
          c.next_kept.ensures.failed c.in-Some.ensures.answered c.in-Some.ensures.read c.count-place.ensures.count c.in-Ok.ensures.judged
          (so_far.judged text given));
      same_history = so_far.same_history;
      going = so_far.going;
      offers =
          offers_further (offers_of c.args.self.now)
          (offers_of session) c.judge_line.new.replay.machine.offers so_far.front c.loop-rest.rest.now count
          (Some line) so_far.offers c.judge_line.ensures.offers c.in-Some.ensures.taken;
    }

pub returns-in_default-judge_line-clause-offers : goal.returns-in_default-judge_line-clause-offers
returns-in_default-judge_line-clause-offers c =
    let so_far = c.loop-rest.invariant in
    let rest = c.loop-rest.rest.now in
    let first = offers_of c.args.self.now in
    let next = c.judge_line.new.replay.machine.offers in
    let count = c.in-Some.kept in
    offers_within first next c.args.piece.now (so_far.front ++ take count rest) (drop count rest)
    (cut_further c.args.piece.now so_far.front rest (drop count rest) count so_far.is_piece refl)
    (offers_further first (offers_of c.loop-rest.self) next so_far.front rest count (Some (Keep c.in-Some.cpu c.in-Some.number)) so_far.offers
    c.judge_line.ensures.offers c.in-Some.ensures.taken)

pub loop-rest-preserved : goal.loop-rest-preserved
loop-rest-preserved c =
    let so_far = c.loop-rest.invariant in
    let session = c.loop-rest.self in
    let taken = take c.in-Ok-next.count c.loop-rest.rest.now in
    record {
      front = so_far.front ++ taken;
      is_piece = cut_further c.args.piece.now so_far.front c.loop-rest.rest.now c.split_at-in-loop-rest.result.1.now
          c.in-Ok-next.count so_far.is_piece c.split_at-in-loop-rest.ensures.back;
      judged = λ text given.
          subst (λ (t : List ℕ). HasJudgedBy c.next.new.self c.judge_told.new.replay c.judge_told.new.failed session.history.recorded t)
          (append_assoc text so_far.front taken)
          (HasJudged-next c.next_kept.new.self c.next.new.self c.in-Ok-next.count
          c.count-step.result c.in-Ok-next.told session.replay c.judge_told.new.replay
          session.failed c.judge_told.new.failed session.history.recorded (text ++ so_far.front) c.loop-rest.rest.now c.in-Ok-next.ensures.answered
          c.in-Ok-next.ensures.read c.in-Ok-next.ensures.failed c.count-step.ensures.count c.in-Ok-judge_told.ensures.judged
          (subst (λ (r : Result Begun ℕ). HasJudgedBy r session.replay session.failed session.history.recorded (text ++ so_far.front))
          (sym c.in_default.ensures.none) (so_far.judged text given)));
      same_history = so_far.same_history;
      going = so_far.going;
      offers =
          offers_further (offers_of c.args.self.now)
          (offers_of session) c.judge_told.new.replay.machine.offers so_far.front c.loop-rest.rest.now c.in-Ok-next.count
          c.in-Ok-next.told so_far.offers c.judge_told.ensures.offers c.in-Ok-next.ensures.taken;
    }

pub returns-in_default-judge_line-clause-refused : goal.returns-in_default-judge_line-clause-refused
returns-in_default-judge_line-clause-refused c = λ going.
    let session = c.loop-rest.self in
    let is_ok = IsOk-kept session.certificate c.next_kept.result _ c.in-Some.is c.next_kept.ensures.failed in
    IsRefusedIn-line c.args.self.now session c.args.piece.now c.loop-rest.rest.now session.certificate c.next_kept.new.self c.in-Some.kept
    (Keep c.in-Some.cpu c.in-Some.number) c.loop-rest.invariant refl is_ok c.in-Some.ensures.answered c.in-Some.ensures.taken c.in-Some.ensures.read
    c.in_default-judge_line.ensures.refused

pub returns-in_default-judge_told-clause-refused : goal.returns-in_default-judge_told-clause-refused
returns-in_default-judge_told-clause-refused c = λ going.
    IsRefusedIn-told c.args.self.now c.loop-rest.self c.args.piece.now c.loop-rest.rest.now c.next_kept.new.self c.next.new.self c.in-Ok-next.count
    c.in-Ok-next.told c.loop-rest.invariant c.in_default.ensures.none
    c.in-Ok-next.ensures.failed c.in-Ok-next.ensures.answered c.in-Ok-next.ensures.taken
    c.in-Ok-next.ensures.read c.in_default-judge_told.ensures.refused

pub returns-in_default-next-clause-judged : goal.returns-in_default-next-clause-judged
returns-in_default-next-clause-judged c = λ text given.
    let so_far = c.loop-rest.invariant in
    let session = c.loop-rest.self in
    let rest = c.loop-rest.rest.now in
    subst (λ (t : List ℕ). HasJudgedBy c.next.new.self session.replay session.failed session.history.recorded t)
    (append_assoc text so_far.front rest ∙ ap (λ p. text ++ p) (sym so_far.is_piece))
    (HasJudged-bad c.next_kept.new.self c.next.new.self c.next.result session.replay
    session.failed session.history.recorded (text ++ so_far.front) rest
    c.in_default-next.not-Ok c.next.ensures.answered c.next.ensures.bad c.next.ensures.failed
    (subst (λ (r : Result Begun ℕ). HasJudgedBy r session.replay session.failed session.history.recorded (text ++ so_far.front))
    (sym c.in_default.ensures.none) (so_far.judged text given)))

pub returns-in_default-next-clause-offers : goal.returns-in_default-next-clause-offers
returns-in_default-next-clause-offers c =
    let so_far = c.loop-rest.invariant in
    offers_within (offers_of c.args.self.now)
    (offers_of c.loop-rest.self) c.args.piece.now so_far.front c.loop-rest.rest.now so_far.is_piece so_far.offers

pub returns-in_default-judge_told-clause-offers : goal.returns-in_default-judge_told-clause-offers
returns-in_default-judge_told-clause-offers c =
    let so_far = c.loop-rest.invariant in
    let rest = c.loop-rest.rest.now in
    let first = offers_of c.args.self.now in
    let next = c.judge_told.new.replay.machine.offers in
    let count = c.in-Ok-next.count in
    offers_within first next c.args.piece.now (so_far.front ++ take count rest) (drop count rest)
    (cut_further c.args.piece.now so_far.front rest (drop count rest) count so_far.is_piece refl)
    (offers_further first (offers_of c.loop-rest.self)
    next so_far.front rest count c.in-Ok-next.told so_far.offers c.judge_told.ensures.offers c.in-Ok-next.ensures.taken)

pub returns-clause-judged : goal.returns-clause-judged
returns-clause-judged c = λ text given.
    let so_far = c.loop-rest.invariant in
    let session = c.loop-rest.self in
    let whole = so_far.is_piece ∙ ap (λ r. so_far.front ++ r) (over c.loop-rest.rest.now c.loop-rest-test.ensures) ∙ append-nil so_far.front in
    subst (λ (t : List ℕ). HasJudgedBy session.certificate session.replay session.failed session.history.recorded t) (ap (λ p. text ++ p) (sym whole))
    (so_far.judged text given)

pub split_at-requires : goal.split_at-requires
split_at-requires c = taken_within c.loop-rest.rest.now c.in-Some.kept (Some (Keep c.in-Some.cpu c.in-Some.number)) c.in-Some.ensures.taken

pub split_at-requires-in-loop-rest : goal.split_at-requires-in-loop-rest
split_at-requires-in-loop-rest c = taken_within c.loop-rest.rest.now c.in-Ok-next.count c.in-Ok-next.told c.in-Ok-next.ensures.taken

pub loop-rest-smaller-in-Some : goal.loop-rest-smaller-in-Some
loop-rest-smaller-in-Some c =
    taken_shortens c.loop-rest.rest.now c.split_at.result.1.now c.in-Some.kept (Some (Keep c.in-Some.cpu c.in-Some.number)) c.in-Some.ensures.taken
    c.loop-rest-test.ensures c.split_at.ensures.back_len

pub loop-rest-smaller : goal.loop-rest-smaller
loop-rest-smaller c =
    taken_shortens c.loop-rest.rest.now c.split_at-in-loop-rest.result.1.now c.in-Ok-next.count c.in-Ok-next.told c.in-Ok-next.ensures.taken
    c.loop-rest-test.ensures c.split_at-in-loop-rest.ensures.back_len
