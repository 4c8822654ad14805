use Rattle.std.proofs.Common.{is_some, ap, ◌∙◌}
use Rattle.spec_machine.specs.Whole.{whole_of, state_in, config_of}
use Rattle.spec_machine.proofs.SideTold.{is_vmid_used-listed}
use Rattle.spec_machine.proofs.sight.MachineSight.is_vmid_used.Goals as goal

pub returns : goal.returns
unfolding state_in
returns c =
    let g = c.args.self.now.granules in
    let w = whole_of g in
    c.is_some.ensures ∙ ap is_some c.realm_with.ensures ∙ is_vmid_used-listed (config_of g) w.side w.places w.cells c.args.self.now.shaped c.args.vmid
