use Rattle.std.proofs.Common.{◌≡◌, ◌∙◌, ap, ◌++◌, Err, inl}
use Rattle.history.specs.declared.fault.HistoryFault.TheVariants.{BadLine, NoMemory}
use Rattle.file_programs.proofs.HistoryReads.{failed_with}
use Rattle.check_command.proofs.HistoryTexts.{HasTaken-next, RefusesEvent-next}
use Rattle.file_programs.proofs.keeping.KeepingTaker.take.Goals as goal

pub returns-in-Ok-clause-taken : goal.returns-in-Ok-clause-taken
returns-in-Ok-clause-taken c = λ before text kept. record {
  taken = HasTaken-next c.args.self.now.reader c.feed.new.self c.feed.result
      c.args.piece.now text c.feed.ensures.given c.feed.ensures.fault c.feed.ensures.fails
      c.feed.ensures.failed (λ is. cc) kept.taken;
  is_text = c.in_ok-extend_from_slice.ensures.items ∙ ap (λ bytes. bytes ++ c.args.piece.now) kept.is_text;
  known = tt;
}

pub returns-in-Err-BadLine-clause-taken : goal.returns-in-Err-BadLine-clause-taken
returns-in-Err-BadLine-clause-taken c = λ before text kept. record {
  taken = HasTaken-next c.args.self.now.reader c.feed.new.self c.feed.result
      c.args.piece.now text c.feed.ensures.given c.feed.ensures.fault c.feed.ensures.fails
      c.feed.ensures.failed (λ is. cc) kept.taken;
  is_text = c.in_ok-extend_from_slice.ensures.items ∙ ap (λ bytes. bytes ++ c.args.piece.now) kept.is_text;
  known = let told : c.feed.result ≡ Err (BadLine c.in-Err-BadLine.line) = cc in
      failed_with c.feed.new.self c.feed.result (BadLine c.in-Err-BadLine.line) told c.feed.ensures.fails;
}

pub returns-in-Err-NoMemory-clause-refused : goal.returns-in-Err-NoMemory-clause-refused
returns-in-Err-NoMemory-clause-refused c =
    let is_refused : c.feed.result ≡ Err NoMemory = cc in
    inl (RefusesEvent-next c.args.self.now.reader c.feed.result c.args.piece.now is_refused c.feed.ensures.fault c.feed.ensures.failed)
