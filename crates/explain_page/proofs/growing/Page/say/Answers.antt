use Rattle.std.proofs.Common.{rules}
use Rattle.explain_page.specs.Pieces.{Own}
use Rattle.explain_page.proofs.Pieces.{IsWritten-extend}
use Rattle.explain_page.proofs.growing.Page.say.Goals as goal

pub invariant_of-self : goal.invariant_of-self
invariant_of-self g c = IsWritten-extend (Own c.args.markup) c.text.result.now _ c.extend_from_slice.ensures.items (search rules) c.self.invariant
