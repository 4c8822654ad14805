use Rattle.spec_machine.proofs.Common.{◌∙◌, ap, refl, slice_get, sym, table_number}
use Rattle.rmm_spec.specs.Table.{entry_index}
use Rattle.spec_machine.proofs.NearTables.{near-walk}
use Rattle.spec_machine.proofs.machine.Machine.walk_found.Goals as goal

pub returns : goal.returns
returns c =
    let a = c.args in
    let found = c.in-Some.found in
    let is = rw c.in-Some.is at c.requires.found in
    let index = c.index_of.ensures.place ∙ ap (entry_index a.max) c.new.ensures in
    near-walk a.self.now.granules a.self.now.shaped a.rd a.ipa a.max (table_number a.max a.ipa)
    found.granule found.table.now c.entry.result c.requires.max
    refl is.stands is.held (sym (ap (slice_get found.table.now.entries) index) ∙ c.entry.ensures.value)
