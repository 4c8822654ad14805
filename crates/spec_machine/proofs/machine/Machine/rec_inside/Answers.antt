use Rattle.spec_machine.proofs.Common.{config_of, state_in, sym, whole_of}
use Rattle.spec_lemmas.proofs.Placed.{is_inside-outside, is_inside-inside}
use Rattle.spec_machine.proofs.SideTold.{rec_inside-place}
use Rattle.spec_machine.proofs.machine.Machine.rec_inside.Goals as goal

pub returns-in-Inside-clause-is : goal.returns-in-Inside-clause-is
unfolding state_in
returns-in-Inside-clause-is c =
    let g = c.args.self.now.granules in
    let w = whole_of g in
    sym (is_inside-inside (config_of g) w.side w.places w.cells c.args.self.now.shaped c.args.cpu _ _ (sym c.in-Inside.ensures))

pub returns-in-Inside-clause-at : goal.returns-in-Inside-clause-at
unfolding state_in
returns-in-Inside-clause-at c =
    let g = c.args.self.now.granules in
    let w = whole_of g in
    rec_inside-place (config_of g) w.side w.places w.cells c.args.self.now.shaped c.args.cpu _ _ (sym c.in-Inside.ensures)

pub returns-in-Outside-clause-is : goal.returns-in-Outside-clause-is
unfolding state_in
returns-in-Outside-clause-is c =
    let g = c.args.self.now.granules in
    let w = whole_of g in
    sym (is_inside-outside (config_of g) w.side w.places w.cells c.args.self.now.shaped c.args.cpu (sym c.in-Outside.ensures))
