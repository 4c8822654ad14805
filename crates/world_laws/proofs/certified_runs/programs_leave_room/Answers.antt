use Rattle.world_laws.proofs.Room.{events-HappenAll}
use Rattle.world_laws.proofs.certified_runs.programs_leave_room.Goals as goal

pub returns : goal.returns
returns c = events-HappenAll
