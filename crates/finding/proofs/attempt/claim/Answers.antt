-- By what the specification answers.
use Rattle.std.proofs.Common.{◌∙◌, Ok, ap, subst, sym}
use Rattle.rmm_spec.specs.declared.accepted.Accepted.{Accepted}
use Rattle.finding.specs.Attempt.{IsAnswered}
use Rattle.finding.proofs.Attempts.{IsAttempt-only, IsAttempt-ended, nowhere_ends}
use Rattle.finding.proofs.attempt.claim.Goals as goal

pub returns-in-Err-clause-tried : goal.returns-in-Err-clause-tried
returns-in-Err-clause-tried c = λ history lines state command answered may.
    IsAttempt-only history lines state c.args.choice c.args.above may command _
    (subst (IsAnswered history c.args.choice state command) c.in-Err.is answered) c.reply.result
    (λ claimed new carried. carried.0 ∙ sym c.reply.ensures)
    c.only_claim.result c.only_claim.ensures.line c.only_claim.ensures.from c.only_claim.ensures.above c.only_claim.ensures.has_text

pub returns-in-Ok-Done-clause-tried : goal.returns-in-Ok-Done-clause-tried
returns-in-Ok-Done-clause-tried c = λ history lines state command answered may.
    let made = c.only_claim-in-Ok-Done in
    IsAttempt-only history lines state c.args.choice c.args.above may command _
    (subst (IsAnswered history c.args.choice state command) (c.in-Ok-Done.is ∙ ap (λ (a : Accepted). Ok a) c.in-Ok-Done.field-0-is) answered) _
    (λ claimed new carried. carried.0)
    made.result made.ensures.line made.ensures.from made.ensures.above made.ensures.has_text

pub returns-in_err-top-in-Ok-Reaches-clause-tried : goal.returns-in_err-top-in-Ok-Reaches-clause-tried
returns-in_err-top-in-Ok-Reaches-clause-tried c = λ history lines state command answered may.
    rw c.from_residual.ensures
    (nowhere_ends history lines state c.args.choice c.args.above may command c.in-Ok-Reaches.stretch
    (subst (IsAnswered history c.args.choice state command) (c.in-Ok-Reaches.is ∙ ap (λ (a : Accepted). Ok a) c.in-Ok-Reaches.field-0-is) answered)
    c.in_err-top-in-Ok-Reaches.ensures.none)

pub returns-in_ok-top-in-Ok-Reaches-clause-tried : goal.returns-in_ok-top-in-Ok-Reaches-clause-tried
returns-in_ok-top-in-Ok-Reaches-clause-tried c = λ history lines state command answered may.
    let made = c.one_end in
    IsAttempt-ended history lines state c.args.choice c.args.above may command c.in-Ok-Reaches.stretch
    (subst (IsAnswered history c.args.choice state command)
    (c.in-Ok-Reaches.is ∙ ap (λ (a : Accepted). Ok a) c.in-Ok-Reaches.field-0-is) answered) c.in_ok-top-in-Ok-Reaches.top
    c.in_ok-top-in-Ok-Reaches.ensures.some made.result made.ensures.line made.ensures.from made.ensures.above made.ensures.has_text
