use Rattle.spec_machine.proofs.Common.{arith, refl, state_in, subst}
use Rattle.rmm_spec.specs.Walk.{IsWalk}
use Rattle.spec_machine.proofs.WalkEnds.{table-large, table-elsewhere, table-above, walk-here, walk-short}
use Rattle.spec_machine.proofs.Found.{start-walkable, start-walks}
use Rattle.spec_machine.proofs.Machines.{machine_sound}
use Rattle.spec_machine.proofs.machine.Machine.table_from_root.Goals as goal

pub returns-then-start-level : goal.returns-then-start-level
returns-then-start-level c =
    let a = c.args in
    let start = c.in-Some-start.ensures.found in
    table-above (state_in a.self.now.granules) (machine_sound a.self.now) a.rd a.level a.number start.realm start.is_realm
    (omega (arith, start.is_level, c.if-start-level.true)) _ refl

pub walk-end-requires : goal.walk-end-requires
walk-end-requires c =
    let a = c.args in
    rw c.new.ensures
    (start-walkable a.self.now.granules a.self.now.shaped a.rd c.in-Some.ipa a.level
    c.in-Some-start.start.root c.in-Some-start.start.level c.in-Some-start.ensures.found
    (omega (arith, c.if-start-level.false)))

pub returns-in_default : goal.returns-in_default
returns-in_default c =
    let a = c.args in
    table-large (state_in a.self.now.granules) (machine_sound a.self.now) a.rd a.level a.number c.in_default.ensures.none _ refl

pub returns-in_default-start : goal.returns-in_default-start
returns-in_default-start c =
    let a = c.args in
    table-elsewhere (state_in a.self.now.granules)
    (machine_sound a.self.now) a.rd a.level a.number c.in-Some.ipa c.in-Some.ensures.found.at c.in_default-start.ensures.none _ refl

pub returns-then-end-level : goal.returns-then-end-level
returns-then-end-level c =
    let a = c.args in
    let end = c.walk-end.result in
    let walks =
    start-walks a.self.now.granules a.self.now.shaped a.rd c.in-Some.ipa a.level
    c.in-Some-start.start.root c.in-Some-start.start.level end.level end.pa end.entry
    c.in-Some-start.ensures.found (omega (arith, c.if-start-level.false)) (rw c.new.ensures at c.walk-end.ensures) in
    rw c.address.ensures
    (walk-here (state_in a.self.now.granules) a.rd a.level a.number c.in-Some.ipa end.pa end.entry
    c.in-Some.ensures.found.last c.in-Some.ensures.found.at
    (subst (λ l. IsWalk (state_in a.self.now.granules) a.rd c.in-Some.ipa a.level l end.pa end.entry) c.if-end-level.true walks))

pub returns-else-end-level : goal.returns-else-end-level
returns-else-end-level c =
    let a = c.args in
    let end = c.walk-end.result in
    let walks =
    start-walks a.self.now.granules a.self.now.shaped a.rd c.in-Some.ipa a.level
    c.in-Some-start.start.root c.in-Some-start.start.level end.level end.pa end.entry
    c.in-Some-start.ensures.found (omega (arith, c.if-start-level.false)) (rw c.new.ensures at c.walk-end.ensures) in
    walk-short (state_in a.self.now.granules) a.rd a.level a.number c.in-Some.ipa end.level
    end.pa end.entry c.in-Some.ensures.found.last c.in-Some.ensures.found.at walks
    c.if-end-level.false
