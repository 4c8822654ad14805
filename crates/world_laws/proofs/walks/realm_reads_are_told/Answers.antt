use Rattle.world_laws.proofs.Settled.{get-told}
use Rattle.world_laws.proofs.walks.realm_reads_are_told.Goals as goal

pub returns : goal.returns
returns c = λ config side held cells places rec rd ipa shaped agrees has owner told settled.
    get-told (record { cells = cells; places = places; shaped = shaped; agrees = agrees }) rec rd ipa has owner told settled
