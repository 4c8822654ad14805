use Rattle.spec_machine.proofs.Common.{◌∙◌, put, whole_of}
use Rattle.rmm_spec.specs.declared.change.Change.TheVariants.{Retagged}
use Rattle.rmm_laws.specs.Whole.{cells_changed, places_changed, side_changed}
use Rattle.spec_machine.proofs.CanMake.{change-fits, granules-put}
use Rattle.spec_machine.proofs.Made.{made}
use Rattle.spec_machine.proofs.Tagged.{lent-bare}
use Rattle.spec_machine.proofs.machine.Machine.retag.Goals as goal

pub plain_cell-requires : goal.plain_cell-requires
plain_cell-requires c =
    let a = c.args in
    change-fits a.self.now.granules a.self.now.shaped (Retagged (record { granule = a.granule; tag = a.tag })) c.requires

pub put-requires : goal.put-requires
put-requires c =
    let a = c.args in
    (granules-put a.self.now.granules a.self.now.shaped (Retagged (record { granule = a.granule; tag = a.tag })) c.requires).0

pub unreachable-requires : goal.unreachable-requires
unreachable-requires c =
    let a = c.args in
    lent-bare a.self.now.granules (record { granule = a.granule; tag = a.tag }) c.put.result c.requires c.put.ensures.given
    c.in_default.not-Undelegated c.in_default.not-Delegated

pub invariant_of-self : goal.invariant_of-self
unfolding cells_changed side_changed places_changed
invariant_of-self c =
    let a = c.args in
    let g = a.self.now.granules in
    let w = whole_of g in
    let cells = c.put.ensures.cells ∙ (λ i. put w.cells a.granule (c.plain_cell.ensures (w.cells a.granule) i)) in
    record {
      shaped = (made g (record g { list = c.put.new.self }) (Retagged (record { granule = a.granule; tag = a.tag })) a.self.now.shaped
          c.requires c.put.ensures.kept (λ i. record w { cells = cells i })).0;
    }

pub returns : goal.returns
unfolding cells_changed side_changed places_changed
returns c =
    let a = c.args in
    let g = a.self.now.granules in
    let w = whole_of g in
    let cells = c.put.ensures.cells ∙ (λ i. put w.cells a.granule (c.plain_cell.ensures (w.cells a.granule) i)) in
    (made g (record g { list = c.put.new.self }) (Retagged (record { granule = a.granule; tag = a.tag })) a.self.now.shaped
    c.requires c.put.ensures.kept (λ i. record w { cells = cells i })).1
