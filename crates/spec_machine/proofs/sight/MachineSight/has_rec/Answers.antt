use Rattle.spec_machine.specs.Whole.{whole_of, state_in, config_of}
use Rattle.spec_machine.proofs.SideTold.{has_rec-counted}
use Rattle.spec_machine.proofs.sight.MachineSight.has_rec.Goals as goal

pub returns : goal.returns
unfolding state_in
returns c =
    let g = c.args.self.now.granules in
    let w = whole_of g in
    rw (c.rec_count.ensures, c.new.ensures) (has_rec-counted (config_of g) w.side w.places w.cells c.args.self.now.shaped c.args.rd)
