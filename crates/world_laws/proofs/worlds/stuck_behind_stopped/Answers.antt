use Rattle.std.proofs.Common.{ℕ, List}
use Rattle.rmm_spec.specs.declared.command.Command.{Command}
use Rattle.rmm_spec.specs.HistoryText.{Config}
use Rattle.rmm_spec.specs.World.{World, opening_world}
use Rattle.rmm_spec.specs.Waits.{Turn, TurnAll, IsRising, Wants, AreRising, IsStuck, WaitsBehindStopped}
use Rattle.world_laws.proofs.Recorded.{IsAccounted-opening, IsAccounted-HappenAll}
use Rattle.world_laws.proofs.Locked.{IsLocked-opening, IsLocked-HappenAll}
use Rattle.world_laws.proofs.Holding.{HoldByPhase-opening, HoldByPhase-TurnAll}
use Rattle.world_laws.proofs.Turned.{moves_of_turns}
use Rattle.world_laws.proofs.Circles.{WaitsBehindStopped-stuck}
use Rattle.world_laws.proofs.worlds.stuck_behind_stopped.Goals as goal

stuck-turned : (config : Config) (programs : ℕ → List Command) (turns : List Turn) (w : World) (wants : ℕ → ℕ → Type 0)
    → TurnAll (opening_world config programs) turns w → AreRising w wants → IsStuck w wants → WaitsBehindStopped w wants
stuck-turned config programs turns w wants turned rising stuck =
    let start = opening_world config programs in
    let happen = moves_of_turns start turns w turned in
    WaitsBehindStopped-stuck w (IsAccounted-HappenAll start happen.0 w (IsAccounted-opening config programs) happen.1).shaped
    (IsLocked-HappenAll start happen.0 w (IsLocked-opening config programs) happen.1)
    (HoldByPhase-TurnAll start turns w (HoldByPhase-opening config programs) turned) wants rising stuck

pub returns-clause-any : goal.returns-clause-any
returns-clause-any c = λ config programs turns w turned stuck.
    stuck-turned config programs turns w (IsRising w) turned (λ cpu granule rising. rising) stuck

pub returns-clause-wanted : goal.returns-clause-wanted
returns-clause-wanted c = λ config programs turns w wanted turned rising stuck.
    stuck-turned config programs turns w (Wants wanted) turned rising stuck
