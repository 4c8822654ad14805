use Rattle.spec_machine.proofs.Common.{whole_of}
use Rattle.rmm_spec.specs.declared.change.Change.TheVariants.{RecordsChanged}
use Rattle.rmm_laws.specs.Whole.{cells_changed, places_changed, side_changed}
use Rattle.spec_machine.proofs.CanMake.{change-fits}
use Rattle.spec_machine.proofs.Made.{made}
use Rattle.spec_machine.proofs.machine.Machine.update_records.Goals as goal

pub change_records-requires : goal.change_records-requires
change_records-requires c =
    let a = c.args in
    change-fits a.self.now.granules a.self.now.shaped (RecordsChanged a.realm a.rec) c.requires

pub invariant_of-self : goal.invariant_of-self
unfolding cells_changed side_changed places_changed
invariant_of-self c =
    let a = c.args in
    let g = a.self.now.granules in
    let w = whole_of g in
    record {
      shaped = (made g (record g { list = c.change_records.new.store; places = c.change_places.new.places }) (RecordsChanged a.realm a.rec)
          a.self.now.shaped c.requires c.change_records.ensures.kept
          (λ i. record w { cells = c.change_records.ensures.cells i; places = c.change_places.ensures i })).0;
    }

pub returns : goal.returns
unfolding cells_changed side_changed places_changed
returns c =
    let a = c.args in
    let g = a.self.now.granules in
    let w = whole_of g in
    (made g (record g { list = c.change_records.new.store; places = c.change_places.new.places }) (RecordsChanged a.realm a.rec)
    a.self.now.shaped c.requires c.change_records.ensures.kept
    (λ i. record w { cells = c.change_records.ensures.cells i; places = c.change_places.ensures i })).1
