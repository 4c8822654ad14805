use Rattle.spec_machine.proofs.Common.{cells_of, config_of, flat_state, state_in}
use Rattle.std.proofs.lemmas.Bool.{false_from_ne_true}
use Rattle.rmm_spec.specs.declared.tag.Tag.TheVariants.{Undelegated}
use Rattle.spec_machine.proofs.OneCell.{has_tag-read, has_tag-none}
use Rattle.spec_machine.proofs.machine.Machine.has_tag_untouched.Goals as goal

pub returns-in-Some : goal.returns-in-Some
unfolding state_in
returns-in-Some c =
    let g = c.args.self.now.granules in
    rw c.eq.ensures (has_tag-read (config_of g) (cells_of g.list) c.args.address Undelegated c.args.tag c.in-Some.ensures.0 c.requires)

pub returns-in-None : goal.returns-in-None
unfolding state_in flat_state
returns-in-None c = has_tag-none (state_in c.args.self.now.granules) c.args.address c.args.tag (false_from_ne_true _ c.in-None.ensures)
