use Rattle.std.proofs.Common.{Some, ap, sym, subst}
use Rattle.std.specs.Prelude.{IfOk}
use Rattle.granule_cells.specs.Rooms.{IsRoomFor}
use Rattle.granule_cells.proofs.rooms.room_for.Goals as goal

pub returns-in-TableMade-clause-ok : goal.returns-in-TableMade-clause-ok
returns-in-TableMade-clause-ok c = subst (λ change. IfOk c.table_room.result (IsRoomFor change)) (sym c.in-TableMade.is) c.table_room.ensures.table

pub returns-in_ok-root_entries-in-RealmMade-clause-ok : goal.returns-in_ok-root_entries-in-RealmMade-clause-ok
returns-in_ok-root_entries-in-RealmMade-clause-ok c =
    let r = c.in-RealmMade in
    let entries = c.in_ok-root_entries-in-RealmMade in
    let descriptor = c.in_ok-descriptor-in-RealmMade in
    subst (λ change. IsRoomFor change (record { descriptor = descriptor.descriptor; table = Some entries.field-0 })) (sym r.is)
    (record { table = ap Some (entries.ensures r.rd r.width r.level); descriptor = descriptor.ensures })
