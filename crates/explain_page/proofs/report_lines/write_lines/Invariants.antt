-- What is written are the lines so far.
use Rattle.std.proofs.Common.{◌≡◌, List, ℕ, ◌++◌, length}
use Rattle.explain_page.specs.Page.{AppendsText}
use Rattle.explain_page.proofs.report_lines.write_lines.Given as goal

pub record AreWritten (text rest old new : List ℕ) : Type 0 where
  pub front : List ℕ
  pub is_text : text ≡ front ++ rest
  pub written : AppendsText old new front

abbrev pub invariant-loop-rest : goal.invariant-loop-rest
invariant-loop-rest l = AreWritten l.text l.rest l.fn.page.bytes l.page.bytes

abbrev pub decreases-loop-rest : goal.decreases-loop-rest
decreases-loop-rest l = length l.rest
