use Rattle.rmm_spec.specs.World.{opening_world}
use Rattle.world_laws.proofs.Recorded.{IsAccounted-opening, IsAccounted-HappenAll}
use Rattle.world_laws.proofs.Locked.{IsLocked-opening, IsLocked-HappenAll}
use Rattle.world_laws.proofs.Circles.{HasNoCircle-shaped}
use Rattle.world_laws.proofs.Turned.{KeepsWaiting-TurnAll, moves_of_turns}
use Rattle.world_laws.proofs.worlds.no_wait_cycle.Goals as goal

pub returns-clause-acyclic : goal.returns-clause-acyclic
returns-clause-acyclic c = λ config programs moves w happen.
    HasNoCircle-shaped w (IsAccounted-HappenAll (opening_world config programs) moves w (IsAccounted-opening config programs) happen).shaped
    (IsLocked-HappenAll (opening_world config programs) moves w (IsLocked-opening config programs) happen)

pub returns-clause-turned : goal.returns-clause-turned
returns-clause-turned c = λ config programs turns w turned.
    let happen = moves_of_turns (opening_world config programs) turns w turned in
    HasNoCircle-shaped w (IsAccounted-HappenAll (opening_world config programs) happen.0 w (IsAccounted-opening config programs) happen.1).shaped
    (IsLocked-HappenAll (opening_world config programs) happen.0 w (IsLocked-opening config programs) happen.1)

pub returns-clause-waiting : goal.returns-clause-waiting
returns-clause-waiting c = λ config programs turns w turned.
    KeepsWaiting-TurnAll (opening_world config programs) turns w (IsLocked-opening config programs) turned
