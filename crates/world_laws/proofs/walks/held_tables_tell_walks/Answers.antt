use Rattle.world_laws.proofs.Seen.{told-tag, told-space, walk-end}
use Rattle.world_laws.proofs.walks.held_tables_tell_walks.Goals as goal

pub returns-clause-tag : goal.returns-clause-tag
returns-clause-tag c = λ granules side held cells places rd asked shaped agrees told.
    told-tag (record { cells = cells; places = places; shaped = shaped; agrees = agrees }) rd asked told

pub returns-clause-space : goal.returns-clause-space
returns-clause-space c = λ granules side held cells places rd shaped agrees told.
    told-space (record { cells = cells; places = places; shaped = shaped; agrees = agrees }) rd told

pub returns-clause-walk : goal.returns-clause-walk
returns-clause-walk c = λ granules side held cells places way shaped agrees ends.
    (walk-end (record { cells = cells; places = places; shaped = shaped; agrees = agrees }) way ends).same
