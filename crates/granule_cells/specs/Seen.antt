-- What a monitor's own values are to the definitions: its cells and its CPUs' places. This project's own.
use Rattle.rmm_spec.specs.Cell as whole
use Rattle.rmm_spec.specs.Shape as shape
use Rattle.granule_cells.specs.declared.cell.Cell.{Cell}
use Rattle.granule_cells.specs.declared.cell.Cell.TheVariants.{Undelegated, Delegated, Rd, Rec, RecAux, Data, Rtt}
use Rattle.granule_cells.specs.declared.cpu_place.CpuPlace.{CpuPlace}
use Rattle.granule_cells.specs.declared.cpu_place.CpuPlace.TheVariants.{Outside, Inside}

abbrev pub cell_of : Cell → whole.Cell
cell_of Undelegated = whole.Undelegated
cell_of Delegated = whole.Delegated
cell_of (Rd realm) = whole.Rd realm
cell_of (Rec rec) = whole.Rec rec
cell_of RecAux = whole.RecAux
cell_of Data = whole.Data
cell_of (Rtt table) = whole.Rtt table

abbrev pub place_of : CpuPlace → shape.CpuPlace
place_of Outside = shape.Outside
place_of (Inside rec rd) = shape.Inside rec rd
