-- What was kept is what the source gave.
use Rattle.std.proofs.Common.{◌≡◌, List, ℕ, [], ◌++◌, Bool, Ok, Err, sym, ap, subst}
use Rattle.std.specs.Prelude.{IfSome}
use Rattle.devices.specs.Source.{Gives}
use Rattle.rmm_spec.specs.HistoryText.{InHistories, IsHistoryText}
use Rattle.rmm_spec.specs.Text.{IsBadLine}
use Rattle.history.specs.declared.fault.HistoryFault.TheVariants.{BadLine, NoMemory}
use Rattle.file_programs.proofs.HistoryReads.{HasKept-none, bad_for_good, whole_found}
use Rattle.check_command.proofs.HistoryTexts.{HasTaken-fault, HasTaken-found, HasTaken-no_memory}
use Rattle.file_programs.proofs.history_text.read_history.Goals as goal

pub returns-in-Ok-clause-told : goal.returns-in-Ok-clause-told
returns-in-Ok-clause-told g c =
    let read = c.in_ok-is_whole.ensures.read in
    let taker = c.read_until.new.taker in
    let kept = read.1.2 [] (HasKept-none c.new-keeping.result.reader c.new-keeping.result.bytes.items
    c.new-keeping.result.bad c.new-keeping.ensures.reader c.new-keeping.ensures.bytes c.new-keeping.ensures.bad) in
    let found = HasTaken-found taker.reader c.in-Ok.history.recorded read.0 c.finish.result
    _ c.in-Ok.is c.finish.ensures.failed c.in-Ok.ensures.found kept.taken in
    record {
      given = subst (λ (t : List ℕ). Gives g.S.Source.gives c.args.source.now t c.read_until.new.source) (sym kept.is_text) read.1.0;
      whole = λ is. subst (λ (t : List ℕ). IfSome (g.S.Source.left c.args.source.now) (λ all. t ≡ all))
          (sym kept.is_text) (read.1.1 (ap (λ (b : Bool). Ok b) is));
      ended = λ is. c.in_ok-is_whole.ensures.end (ap (λ (b : Bool). Ok b) is);
      found = (
        whole_found c.in_ok-is_whole.is_whole taker.reader taker.bad c.finish.result _ c.in-Ok.is
            (λ part. c.in_ok-is_whole.ensures.sated (ap (λ (b : Bool). Ok b) part))
            kept.known c.finish.ensures.failed,
        subst (λ (t : List ℕ). IsHistoryText t c.in-Ok.history.recorded) (sym kept.is_text) found,
      );
      bad = tt;
      final = λ part. tt;
    }

pub returns-in-Err-BadLine-clause-told : goal.returns-in-Err-BadLine-clause-told
returns-in-Err-BadLine-clause-told g c =
    let read = c.in_ok-is_whole.ensures.read in
    let taker = c.read_until.new.taker in
    let line = c.in-Err-BadLine.line in
    let kept = read.1.2 [] (HasKept-none c.new-keeping.result.reader c.new-keeping.result.bytes.items
    c.new-keeping.result.bad c.new-keeping.ensures.reader c.new-keeping.ensures.bytes c.new-keeping.ensures.bad) in
    let is_bad : c.finish.result ≡ Err (BadLine line) = cc in
    let bad = HasTaken-fault taker.reader c.finish.result (BadLine line) read.0 is_bad c.finish.ensures.fault c.finish.ensures.failed kept.taken in
    record {
      given = subst (λ (t : List ℕ). Gives g.S.Source.gives c.args.source.now t c.read_until.new.source) (sym kept.is_text) read.1.0;
      whole = λ is. subst (λ (t : List ℕ). IfSome (g.S.Source.left c.args.source.now) (λ all. t ≡ all))
          (sym kept.is_text) (read.1.1 (ap (λ (b : Bool). Ok b) is));
      ended = λ is. c.in_ok-is_whole.ensures.end (ap (λ (b : Bool). Ok b) is);
      found = tt;
      bad = subst (λ (t : List ℕ). IsBadLine InHistories t line) (sym kept.is_text) bad;
      final = λ part more. subst (λ (t : List ℕ). IsBadLine InHistories (t ++ more) line) (sym kept.is_text)
          (bad_for_good c.in_ok-is_whole.is_whole taker.reader taker.bad c.finish.result line read.0 is_bad
          (λ p. c.in_ok-is_whole.ensures.sated (ap (λ (b : Bool). Ok b) p))
          kept.known c.finish.ensures.failed kept.taken part more);
    }

pub unreachable-requires : goal.unreachable-requires
unreachable-requires g c =
    let read = c.in_ok-is_whole.ensures.read in
    let taker = c.read_until.new.taker in
    let kept = read.1.2 [] (HasKept-none c.new-keeping.result.reader c.new-keeping.result.bytes.items
    c.new-keeping.result.bad c.new-keeping.ensures.reader c.new-keeping.ensures.bytes c.new-keeping.ensures.bad) in
    let is_refused : c.finish.result ≡ Err NoMemory = cc in
    HasTaken-no_memory taker.reader c.finish.result read.0 is_refused c.finish.ensures.no_memory c.finish.ensures.failed kept.taken
