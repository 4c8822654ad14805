use Rattle.world_laws.proofs.Complete.{end-held, kept-settled}
use Rattle.world_laws.proofs.walks.held_ends_settle.Goals as goal

pub returns-clause-walk : goal.returns-clause-walk
returns-clause-walk c = λ granules side held cells places way shaped agrees last end.
    end-held (record { cells = cells; places = places; shaped = shaped; agrees = agrees }) way end.granule last end.is_table end.is_there

pub returns-clause-command : goal.returns-clause-command
returns-clause-command c = λ granules side held cells places command way shaped agrees walks last end kept part.
    kept-settled (record { cells = cells; places = places; shaped = shaped; agrees = agrees })
    command way end.granule walks last end.is_table end.is_there kept part
