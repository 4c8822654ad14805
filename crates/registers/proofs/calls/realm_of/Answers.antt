-- What is done to no register of another realm.
use Rattle.std.proofs.Common.{inl, inr, subst, ◌≢◌, Option, Some, ℕ}
use Rattle.registers.specs.Owners.{mine_at, rd_at, register_at}
use Rattle.registers.proofs.CallLaws.{other_call, other_extended, other_read, other_realm}
use Rattle.registers.proofs.calls.realm_of.Goals as goal

pub returns-in-RealmCreate : goal.returns-in-RealmCreate
returns-in-RealmCreate c = λ slot apart.
    let a = c.in-RealmCreate in
    rw a.is (other_realm c.args.owners.now c.args.entered slot a.rd a.root a.width a.level a.vmid a.algo apart)

pub returns-in_default : goal.returns-in_default
returns-in_default c = λ slot apart.
    other_call (register_at slot) (mine_at c.args.owners.now slot) c.args.entered c.args.call.now c.in_default.not-RealmCreate
    c.in_default.not-MeasurementRead c.in_default.not-MeasurementExtend

pub returns-in-MeasurementExtend : goal.returns-in-MeasurementExtend
returns-in-MeasurementExtend c = λ slot apart.
    let owners = c.args.owners.now in
    let differs = subst (λ (o : Option ℕ). o ≢ Some (rd_at slot)) c.owner_of.ensures apart in
    elim c.in-MeasurementExtend.is [
      | inl extends ↦ rw extends.3 (other_extended owners c.args.entered slot extends.0 extends.1 extends.2 differs)
      | inr reads ↦ rw reads.1 (other_read owners c.args.entered slot reads.0 differs)
    ]
