-- Every change that the flat state of a well-shaped whole can take keeps the whole well shaped: by kind of change.
use Rattle.rmm_laws.proofs.ShapeCommon.{Config, IsShaped, Whole, flat_state}
use Rattle.rmm_spec.specs.declared.change.Change.{Change}
use Rattle.rmm_spec.specs.declared.change.Change.TheVariants.{Unchanged, Retagged, RealmMade, RealmDestroyed, RecMade, RecDestroyed, RecordsChanged, TableMade, TableDestroyed, EntriesChanged}
use Rattle.rmm_spec.specs.Applicable.{CanApply}
use Rattle.rmm_laws.proofs.ShapeEntriesChanged.{Makes-entries}
use Rattle.rmm_laws.proofs.ShapeKept.{IsChangedShape, Makes, kept}
use Rattle.rmm_laws.proofs.RealmsMade.{Makes-realm_made, Makes-realm_destroyed}
use Rattle.rmm_laws.proofs.ShapeRecords.{Makes-records}
use Rattle.rmm_laws.proofs.RecsMade.{Makes-rec_made, Makes-rec_destroyed}
use Rattle.rmm_laws.proofs.ShapeRetagged.{Makes-unchanged, Makes-retagged}
use Rattle.rmm_laws.proofs.TablesMade.{Makes-table_made, Makes-table_destroyed}

Makes-change : (config : Config) (w : Whole) (change : Change)
    → IsShaped config w → CanApply (flat_state config w.cells) change → Makes config w change
Makes-change config w Unchanged shaped can = Makes-unchanged config w shaped
Makes-change config w (Retagged change) shaped can = Makes-retagged config w change shaped can
Makes-change config w (RealmMade rd root width level vmid algo) shaped can = Makes-realm_made config w rd root width level vmid algo shaped can
Makes-change config w (RealmDestroyed rd root) shaped can = Makes-realm_destroyed config w rd root shaped can
Makes-change config w (RecMade rd rec mpidr flags aux0 aux1) shaped can = Makes-rec_made config w rd rec mpidr flags aux0 aux1 shaped can
Makes-change config w (RecDestroyed rec aux0 aux1) shaped can = Makes-rec_destroyed config w rec aux0 aux1 shaped can
Makes-change config w (RecordsChanged realm rec) shaped can = Makes-records config w realm rec shaped can.0 can.1
Makes-change config w (TableMade rd level number rtt entry) shaped can = Makes-table_made config w rd level number rtt entry shaped can
Makes-change config w (TableDestroyed rd level number rtt entry) shaped can = Makes-table_destroyed config w rd level number rtt entry shaped can
Makes-change config w (EntriesChanged rd level entries page realm rec) shaped can =
    Makes-entries config w rd level entries page realm rec shaped can.1 can.2 can.3

-- each kind of change, under its condition, keeps wholes well shaped and is the change of the flat state
pub changes-keep_shape : (config : Config) (w : Whole) (change : Change) → IsShaped config w → CanApply (flat_state config w.cells) change
    → IsChangedShape config w change
changes-keep_shape config w change shaped can = kept config w change shaped can (Makes-change config w change shaped can)
