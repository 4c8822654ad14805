-- What a machine keeps of its granules it keeps of the same granules.
use Rattle.spec_machine.proofs.Made.{same, same-shaped}
use Rattle.spec_machine.proofs.machine.Machine.copy.Goals as goal

pub invariant_of-result : goal.invariant_of-result
invariant_of-result c =
    let m = c.args.self.now in
    record {
      shaped = same-shaped m.granules (record m.granules { list = c.in_ok-list.list; side = c.in_ok-side.side; places = c.in_ok-places.places })
          m.shaped c.in_ok-list.ensures.size
          (λ i. record { cells = c.in_ok-list.ensures.cells i; side = c.in_ok-side.ensures i; places = c.in_ok-places.ensures i });
    }

pub returns-clause-state : goal.returns-clause-state
returns-clause-state c =
    let g = c.args.self.now.granules in
    same g (record g { list = c.in_ok-list.list; side = c.in_ok-side.side; places = c.in_ok-places.places; near = c.in_ok-near.near })
    c.in_ok-list.ensures.size
    (λ i. record { cells = c.in_ok-list.ensures.cells i; side = c.in_ok-side.ensures i; places = c.in_ok-places.ensures i })
