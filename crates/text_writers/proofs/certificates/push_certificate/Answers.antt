use Rattle.std.proofs.Common.{arith}
use Rattle.std.proofs.lemmas.Result.{MatchResult-from_err}
use Rattle.certificate.specs.LineRef.{line_seen}
use Rattle.rmm_spec.specs.CertificateText.{line_parts}
use Rattle.text_writers.proofs.WriteLaws.{begun_after, full_after, kept_after, kept_on, lines_left, written_on}
use Rattle.text_writers.proofs.certificates.push_certificate.Goals as goal

pub loop-i-preserved : goal.loop-i-preserved
loop-i-preserved c =
    let next = lines_left line_parts c.args.certificate.now.lines c.loop-i.i (line_seen c.line.result) c.line.ensures in
    record {
      written = written_on c.args.out.now.items c.loop-i.out.items _ _ _ _ _ c.loop-i.invariant.written next c.in_ok-push_line.ensures.ok;
      kept = kept_on c.args.out.now.items c.loop-i.out.items _ _ c.loop-i.invariant.kept c.in_ok-push_line.ensures.ok;
      capacity = omega (arith, c.loop-i.invariant.capacity, c.in_ok-push_line.ensures.capacity);
    }

pub returns-in_err-push_line-clause-kept : goal.returns-in_err-push_line-clause-kept
returns-in_err-push_line-clause-kept c =
    MatchResult-from_err c.from_residual.result _ _ c.from_residual.ensures.0
    (λ _. kept_after c.args.out.now.items c.loop-i.out.items _ c.loop-i.invariant.kept c.in_err-push_line.ensures.kept)

pub returns-in_err-push_line-clause-beginning : goal.returns-in_err-push_line-clause-beginning
returns-in_err-push_line-clause-beginning c =
    let next = lines_left line_parts c.args.certificate.now.lines c.loop-i.i (line_seen c.line.result) c.line.ensures in
    MatchResult-from_err c.from_residual.result _ _ c.from_residual.ensures.0
    (λ _. begun_after c.args.out.now.items c.loop-i.out.items _ _ _ _ _ c.loop-i.invariant.written next c.in_err-push_line.ensures.beginning)

pub returns-in_err-push_line-clause-full : goal.returns-in_err-push_line-clause-full
returns-in_err-push_line-clause-full c =
    let next = lines_left line_parts c.args.certificate.now.lines c.loop-i.i (line_seen c.line.result) c.line.ensures in
    MatchResult-from_err c.from_residual.result _ _ c.from_residual.ensures.0
    (λ _. full_after c.args.out.now.items c.loop-i.out.items _ _ _ _ _ _ _ _ c.loop-i.invariant.written next c.args.out.now.ok.0
    c.loop-i.out.ok.0 c.loop-i.invariant.capacity c.in_err-push_line.ensures.full)
