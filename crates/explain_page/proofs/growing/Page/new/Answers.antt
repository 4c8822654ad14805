use Rattle.std.proofs.Common.{[]}
use Rattle.explain_page.specs.Pieces.{texts}
use Rattle.explain_page.proofs.growing.Page.new.Goals as goal

pub invariant_of-result : goal.invariant_of-result
unfolding texts
invariant_of-result g c = record { pieces = []; written = c.new.ensures.items }
