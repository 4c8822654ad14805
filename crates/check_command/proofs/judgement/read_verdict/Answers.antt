use Rattle.std.proofs.Common.{◌≡◌, [], Err, inl, refl, sym, subst}
use Rattle.std.proofs.lemmas.Result.{IfOk-weaker}
use Rattle.history.specs.declared.fault.HistoryFault.TheVariants.{BadLine, NoMemory}
use Rattle.check_command.specs.Taken.{HasTaken}
use Rattle.check_command.proofs.HistoryTexts.{HasTaken-fault, HasTaken-found, HasTaken-no_memory}
use Rattle.check_command.proofs.Judged.{bad_history_judged, certificate_refused, history_refused, passed_on}
use Rattle.check_command.proofs.judgement.read_verdict.Goals as goal

pub returns-in-Ok-clause-judged : goal.returns-in-Ok-clause-judged
returns-in-Ok-clause-judged g c =
    let read = c.in_default.ensures.read in
    let taken = read.1.1.1 [] (subst (λ r. HasTaken r []) (sym c.new-reader.ensures) refl) in
    let found =
    HasTaken-found c.read_history.new.taker.0 c.in-Ok.recorded.recorded read.0
    c.finish.result _ c.in-Ok.is c.finish.ensures.failed c.in-Ok.ensures.found taken in
    IfOk-weaker c.judge_certificate.result _ _
    (λ verdict judged. record {
      history = read.0;
      certificate = (judged read.0 found).0;
      is_history = record { given = read.1.0; whole = read.1.1.0 };
      is_certificate = (judged read.0 found).1.0;
      judged = (judged read.0 found).1.1;
    })
    c.judge_certificate.ensures.judged

pub returns-in-Ok-clause-memory : goal.returns-in-Ok-clause-memory
returns-in-Ok-clause-memory g c = λ same.
    let read = c.in_default.ensures.read in
    let taken = read.1.1.1 [] (subst (λ r. HasTaken r []) (sym c.new-reader.ensures) refl) in
    let found =
    HasTaken-found c.read_history.new.taker.0 c.in-Ok.recorded.recorded read.0
    c.finish.result _ c.in-Ok.is c.finish.ensures.failed c.in-Ok.ensures.found taken in
    certificate_refused _ _ c.in-Ok.recorded.recorded read.0 (record { given = read.1.0; whole = read.1.1.0 }) read.1.0 found
    (c.judge_certificate.ensures.memory same)

pub returns-in-Err-clause-memory : goal.returns-in-Err-clause-memory
returns-in-Err-clause-memory g c = λ same.
    inl (record {
      is_untouched = refl;
      cause = history_refused _ _ _ _ (subst (λ r. HasTaken r []) (sym c.new-reader.ensures) refl)
          (c.read_history.ensures.memory (passed_on c.read_history.result c.in-Err.fault c.in-Err.is same));
    })

pub returns-in-Err-BadLine-clause-judged : goal.returns-in-Err-BadLine-clause-judged
returns-in-Err-BadLine-clause-judged g c =
    let read = c.in_default.ensures.read in
    let taken = read.1.1.1 [] (subst (λ r. HasTaken r []) (sym c.new-reader.ensures) refl) in
    let is_bad : c.finish.result ≡ Err (BadLine c.in-Err-BadLine.line) = cc in
    let bad =
    HasTaken-fault c.read_history.new.taker.0 c.finish.result
    (BadLine c.in-Err-BadLine.line) read.0 is_bad c.finish.ensures.fault c.finish.ensures.failed taken in
    bad_history_judged _ _ c.bad_history.result c.in-Err-BadLine.line read.0 (record { given = read.1.0; whole = read.1.1.0 }) bad
    (rw c.in-Err-BadLine.line-is at c.bad_history.ensures.told) c.bad_history.ensures.whole

-- the reader's taker would have refused the piece
pub returns-in-Err-NoMemory-clause-memory : goal.returns-in-Err-NoMemory-clause-memory
returns-in-Err-NoMemory-clause-memory g c = λ _.
    let read = c.in_default.ensures.read in
    let taken = read.1.1.1 [] (subst (λ r. HasTaken r []) (sym c.new-reader.ensures) refl) in
    let is_refused : c.finish.result ≡ Err NoMemory = cc in
    absurd
    (HasTaken-no_memory c.read_history.new.taker.0 c.finish.result read.0 is_refused c.finish.ensures.no_memory c.finish.ensures.failed taken)
