-- The machine is as the lines before leave it.
use Rattle.explain.proofs.Common.{◌≡◌, Passes, arith, line_seen, state_of, subst, take, ℕ}
use Rattle.explain.proofs.Refusals.{refused-there}
use Rattle.explain.proofs.cause.cause_of.Goals as goal

pub refused-requires-clause-refuses : goal.refused-requires-clause-refuses
refused-requires-clause-refuses c =
    let history = c.args.history.now.recorded in
    let lines = c.args.certificate.now.lines in
    let s = state_of c.args.machine.now in
    let found = c.failing_line-index-in-Reply in
    let left = c.requires.left in
    let same : left.0 ≡ found.result.0 = omega (arith, left.1, found.ensures.counted) in
    refused-there history c.well_formed-fact.ensures lines c.args.step found.result.0 (line_seen found.result.1) s
    (rw c.in-Reply.is at c.requires.fault) found.ensures.counted found.ensures.is_line
    (subst (λ (i : ℕ). Passes history (take i lines) s) same left.2)
