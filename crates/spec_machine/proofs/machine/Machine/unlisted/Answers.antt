use Rattle.spec_machine.proofs.Common.{◌/◌, None, Some, arith, refl, state_in}
use Rattle.spec_machine.proofs.Machines.{machine_sound}
use Rattle.spec_machine.proofs.HeldEntries.{unlisted-last, unlisted-above}
use Rattle.spec_machine.proofs.machine.Machine.unlisted.Goals as goal

pub returns-then-level-ge3 : goal.returns-then-level-ge3
returns-then-level-ge3 c =
    let a = c.args in
    unlisted-last (state_in a.self.now.granules) (machine_sound a.self.now) a.rd a.level
    (a.number / 512) c.requires a.number refl (omega (arith, c.if-level-ge3.true))

pub returns-in-Some : goal.returns-in-Some
returns-in-Some c =
    let a = c.args in
    unlisted-above (state_in a.self.now.granules) (machine_sound a.self.now) a.rd a.level
    (a.number / 512) c.requires a.number (Some c.in-Some.granule) refl
    (omega (arith, c.if-level-ge3.false)) c.in-Some.ensures

pub returns-in-None : goal.returns-in-None
returns-in-None c =
    let a = c.args in
    unlisted-above (state_in a.self.now.granules) (machine_sound a.self.now) a.rd a.level (a.number / 512) c.requires a.number None refl
    (omega (arith, c.if-level-ge3.false)) c.in-None.ensures
