use Rattle.world_laws.proofs.Made.{one_realm-shaped, one_page-shaped, two_realms-shaped, one_rec-shaped}
use Rattle.world_laws.proofs.small_wholes.small_wholes_are_well_shaped.Goals as goal

pub returns-clause-realm : goal.returns-clause-realm
returns-clause-realm c = one_realm-shaped

pub returns-clause-page : goal.returns-clause-page
returns-clause-page c = one_page-shaped

pub returns-clause-realms : goal.returns-clause-realms
returns-clause-realms c = two_realms-shaped

pub returns-clause-rec : goal.returns-clause-rec
returns-clause-rec c = one_rec-shaped
