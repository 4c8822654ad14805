use Rattle.spec_machine.specs.Whole.{cells_of, state_in, config_of}
use Rattle.spec_machine.proofs.OneCell.{has_tag-read}
use Rattle.spec_machine.proofs.sight.MachineSight.has_tag.Goals as goal

pub returns-in-Some : goal.returns-in-Some
unfolding state_in
returns-in-Some c =
    let g = c.args.self.now.granules in
    rw c.eq.ensures (has_tag-read (config_of g)
    (cells_of g.list) c.args.address c.in-Some.found c.args.tag c.in-Some.ensures.there c.in-Some.ensures.tag)
