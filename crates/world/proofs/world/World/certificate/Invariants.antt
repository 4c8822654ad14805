use Rattle.std.proofs.Common.{◌≡◌, map, take}
use Rattle.rmm_spec.specs.World.{line_for}
use Rattle.world.proofs.world.World.certificate.Given as goal

abbrev pub invariant-loop-place : goal.invariant-loop-place
invariant-loop-place l = l.lines.lines ≡ map (line_for l.self.history.recorded.events) (take l.place l.self.journal.items)
