use Rattle.rmm_spec.specs.World.{opening_world}
use Rattle.world_laws.proofs.Locked.{IsLocked-opening, IsLocked-HappenAll}
use Rattle.world_laws.proofs.worlds.a_lock_has_one_holder.Goals as goal

pub returns : goal.returns
returns c = λ config programs moves w happen.
    (IsLocked-HappenAll (opening_world config programs) moves w (IsLocked-opening config programs) happen).one
