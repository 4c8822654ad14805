use Rattle.world_laws.proofs.Certified.{IsCertified-accounted}
use Rattle.world_laws.proofs.Recorded.{IsAccounted-opening, IsAccounted-HappenAll}
use Rattle.world_laws.proofs.worlds.every_run_is_certified.Goals as goal
use Rattle.rmm_spec.specs.World.{opening_world}

pub returns-clause-certified : goal.returns-clause-certified
returns-clause-certified c = λ config programs moves w happen.
    IsCertified-accounted w (IsAccounted-HappenAll (opening_world config programs) moves w (IsAccounted-opening config programs) happen)

pub returns-clause-shaped : goal.returns-clause-shaped
returns-clause-shaped c = λ config programs moves w happen.
    (IsAccounted-HappenAll (opening_world config programs) moves w (IsAccounted-opening config programs) happen).shaped
