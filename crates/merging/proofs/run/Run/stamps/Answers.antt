use Rattle.merging.proofs.Common.{◌∙◌, known_front, no_lasts, sym}
use Rattle.merging.proofs.NamingLaws.{length-named_from}
use Rattle.merging.proofs.run.Run.stamps.Goals as goal

pub returns : goal.returns
returns c =
    rw (← c.self.view_is) (c.self.invariant.stamps
    ∙ sym (length-named_from c.self.inside.naming c.self.inside.config.granules no_lasts (known_front c.self.inside.table.slots)))
