use Rattle.spec_machine.specs.Whole.{cells_of, state_in}
use Rattle.spec_machine.proofs.Opening.{opening-state, opening-shaped}
use Rattle.spec_machine.proofs.machine.Machine.new.Goals as goal

pub invariant_of-result : goal.invariant_of-result
invariant_of-result c = record {
  shaped = opening-shaped c.in_ok-list.list.config _ c.in_ok-list.ensures.cells c.in_ok-side.ensures.unused c.in_ok-side.ensures.none
      c.in_ok-places.ensures;
}

pub returns-clause-opening : goal.returns-clause-opening
unfolding state_in
returns-clause-opening c =
    opening-state c.args.config c.in_ok-list.list.config (cells_of c.in_ok-list.list) c.in_ok-list.ensures.size c.in_ok-list.ensures.cells
