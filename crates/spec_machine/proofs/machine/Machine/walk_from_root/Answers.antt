use Rattle.spec_machine.proofs.Common.{arith, state_in}
use Rattle.spec_machine.proofs.WalkEnds.{walk-elsewhere, walk-above, walk-is}
use Rattle.spec_machine.proofs.Found.{start-walkable, start-walks}
use Rattle.spec_machine.proofs.Machines.{machine_sound}
use Rattle.spec_machine.proofs.machine.Machine.walk_from_root.Goals as goal

pub returns-in_default : goal.returns-in_default
returns-in_default c =
    let a = c.args in
    walk-elsewhere (state_in a.self.now.granules) (machine_sound a.self.now) a.rd a.ipa a.max c.in_default.ensures.none

pub returns-then-start-max : goal.returns-then-start-max
returns-then-start-max c =
    let a = c.args in
    rw c.address.ensures
    (walk-above (state_in a.self.now.granules)
    (machine_sound a.self.now) a.rd a.ipa a.max c.in-Some.start.root c.in-Some.start.level c.in-Some.ensures.found
    (omega (arith, c.if-start-max.true)))

pub walk-end-requires : goal.walk-end-requires
walk-end-requires c =
    let a = c.args in
    rw c.new.ensures
    (start-walkable a.self.now.granules a.self.now.shaped a.rd a.ipa a.max c.in-Some.start.root
    c.in-Some.start.level c.in-Some.ensures.found (omega (arith, c.if-start-max.false)))

pub returns : goal.returns
returns c =
    let a = c.args in
    let end = c.walk-end.result in
    rw c.address-2.ensures
    (walk-is (state_in a.self.now.granules) a.rd a.ipa a.max end.level end.pa end.entry
    (start-walks a.self.now.granules a.self.now.shaped a.rd a.ipa a.max c.in-Some.start.root
    c.in-Some.start.level end.level end.pa end.entry c.in-Some.ensures.found
    (omega (arith, c.if-start-max.false)) (rw c.new.ensures at c.walk-end.ensures)))
