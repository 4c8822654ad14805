use Rattle.std.proofs.Common.{ap, length, arith}
use Rattle.std.proofs.lemmas.Result.{err_from_is_err_and}
use Rattle.spec_lemmas.proofs.CertificateLines.{same_certificate, not-IsBadLine-certificate}
use Rattle.certificate.proofs.GrammarLemmas.{IsCertificateText-written, some_line, some_text}
use Rattle.text_writers.proofs.laws.certificate_reads_back.Goals as goal

pub returns-in-Ok-clause-same : goal.returns-in-Ok-clause-same
returns-in-Ok-clause-same c =
    let written =
    IsCertificateText-written c.args.certificate.now.lines _ c.as_slice.result.now _ c.len-fact.ensures.well_formed c.as_slice.ensures.value
    c.in_ok-write_certificate.ensures.ok c.new-text.ensures.items in
    same_certificate c.as_slice.result.now c.in-Ok.again.lines c.args.certificate.now.lines c.in-Ok.ensures.found written

pub returns-in_err-write_certificate-clause-refused : goal.returns-in_err-write_certificate-clause-refused
returns-in_err-write_certificate-clause-refused c =
    let p = err_from_is_err_and c.from_residual.result c.from_residual.ensures.1 in
    rw p.1 (some_line c.args.certificate.now.lines (omega (arith, c.in_err-write_certificate.ensures.full, c.new-text.ensures)))

pub returns-in-Err-NoMemory-clause-refused : goal.returns-in-Err-NoMemory-clause-refused
returns-in-Err-NoMemory-clause-refused c =
    let written =
    IsCertificateText-written c.args.certificate.now.lines _ c.as_slice.result.now _ c.len-fact.ensures.well_formed c.as_slice.ensures.value
    c.in_ok-write_certificate.ensures.ok c.new-text.ensures.items in
    let fault = rw c.in-Err-NoMemory.field-0-is at c.in-Err-NoMemory.ensures.fault in
    let begun = some_text fault.0 c.as_slice.result.now fault.2.more fault.2.is_text fault.1 in
    some_line c.args.certificate.now.lines (omega (arith, begun, ap length written.is_text))

pub unreachable-requires : goal.unreachable-requires
unreachable-requires c =
    let written =
    IsCertificateText-written c.args.certificate.now.lines _ c.as_slice.result.now _ c.len-fact.ensures.well_formed c.as_slice.ensures.value
    c.in_ok-write_certificate.ensures.ok c.new-text.ensures.items in
    let bad = rw c.in-Err-BadLine.field-0-is at c.in-Err-BadLine.ensures.fault in
    not-IsBadLine-certificate c.as_slice.result.now c.in-Err-BadLine.field-0-0 (c.args.certificate.now.lines, written) bad
