use Rattle.std.proofs.Common.{rules}
use Rattle.explain_page.specs.Pieces.{Text}
use Rattle.explain_page.proofs.Pieces.{IsWritten-append}
use Rattle.explain_page.proofs.growing.Page.text.Goals as goal

pub invariant_of-self-else-is_err : goal.invariant_of-self-else-is_err
invariant_of-self-else-is_err g c = IsWritten-append (Text c.args.bytes.now) (search rules) c.self.invariant
