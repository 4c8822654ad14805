use Rattle.world_laws.proofs.Steps.{cells-changed}
use Rattle.world_laws.proofs.walks.table_changes_are_held.Goals as goal

pub returns : goal.returns
returns c = λ config side held cells places change shaped agrees can holds.
    cells-changed (record { cells = cells; places = places; shaped = shaped; agrees = agrees }) change can holds
