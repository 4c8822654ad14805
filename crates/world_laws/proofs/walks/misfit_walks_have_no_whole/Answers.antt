use Rattle.world_laws.proofs.Misfits.{misfit-none}
use Rattle.world_laws.proofs.walks.misfit_walks_have_no_whole.Goals as goal

pub returns : goal.returns
returns c = λ config side held cells places rd ipa misfit shaped agrees.
    misfit-none (record { cells = cells; places = places; shaped = shaped; agrees = agrees }) rd ipa misfit
