use Rattle.std.proofs.Common.{rules}
use Rattle.explain_page.specs.Pieces.{Number}
use Rattle.explain_page.proofs.Pieces.{IsWritten-extend}
use Rattle.explain_page.proofs.growing.Page.number.Goals as goal

pub invariant_of-self : goal.invariant_of-self
invariant_of-self g c =
    IsWritten-extend (Number c.args.number) c.as_bytes.result.now _ c.extend_from_slice.ensures.items (search rules) c.self.invariant
