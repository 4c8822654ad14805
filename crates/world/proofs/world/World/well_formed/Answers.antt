use Rattle.world.proofs.Common.{◌∙◌, IsReached, Take, ap, holder_of, opening_world, sym, true, views_of, world_from, world_of}
use Rattle.std.proofs.Math.Logic.{∥∥₁_map, ∥∥₁_elim}
use Rattle.world_laws.proofs.Turned.{moves_of_turns}
use Rattle.world.specs.Next.{blocking}
use Rattle.world.specs.World.{waits_of}
use Rattle.world.proofs.Goes.{planned-report, take-report, is_taken-held}
use Rattle.world.proofs.Stuck.{blocking-rises, stuck-still}
use Rattle.world.proofs.Waiting.{HasOneHolder-locks}
use Rattle.world.proofs.world.World.well_formed.Goals as goal

pub returns-clause-certified : goal.returns-clause-certified
unfolding world_of
returns-clause-certified c =
    let s = c.args.self.now in
    let config = (world_of s).config in
    ∥∥₁_map s.kept.reached (λ (r : IsReached config (world_of s) (views_of s.cpus).waits).
    let moves = moves_of_turns (opening_world config r.programs) r.turns (world_of s) r.run in
    c.every_run_is_certified-fact.ensures.certified config r.programs moves.0 (world_of s) moves.1)

pub returns-clause-acyclic : goal.returns-clause-acyclic
unfolding world_of
returns-clause-acyclic c =
    let s = c.args.self.now in
    let config = (world_of s).config in
    λ cpu others chain. ∥∥₁_elim s.kept.reached (λ x y. absurd x) (λ (r : IsReached config (world_of s) (views_of s.cpus).waits).
    c.no_wait_cycle-fact.ensures.turned config r.programs r.turns (world_of s) r.run cpu others chain)

pub returns-clause-waiting : goal.returns-clause-waiting
unfolding world_of waits_of
returns-clause-waiting c =
    let s = c.args.self.now in
    let config = (world_of s).config in
    λ cpu granule other is has. ∥∥₁_map s.kept.reached (λ (r : IsReached config (world_of s) (views_of s.cpus).waits).
    c.no_wait_cycle-fact.ensures.waiting config r.programs r.turns (world_of s) r.run cpu granule other
    (sym (ap (λ waits. waits cpu) r.is_waiting) ∙ is) has)

pub returns-clause-one : goal.returns-clause-one
unfolding world_of world_from
returns-clause-one c =
    let s = c.args.self.now in
    HasOneHolder-locks s.history.recorded.config.granules (world_of s) (holder_of s.locks) s.kept.locked

pub returns-clause-rising : goal.returns-clause-rising
unfolding world_of
returns-clause-rising c =
    let s = c.args.self.now in
    blocking-rises (world_of s) (holder_of s.locks) (views_of s.cpus).waits s.kept

pub returns-clause-again : goal.returns-clause-again
unfolding world_of waits_of
returns-clause-again c =
    let s = c.args.self.now in
    λ cpu granule other is has.
    planned-report (world_of s) cpu (Take granule) (s.kept.waiting.each cpu granule is)
    ∙ take-report (world_of s) granule true (is_taken-held s other granule has)

pub returns-clause-still : goal.returns-clause-still
unfolding world_of
returns-clause-still c =
    let s = c.args.self.now in
    let w = world_of s in
    let waits = (views_of s.cpus).waits in
    λ still. ∥∥₁_map s.kept.reached (λ (r : IsReached w.config w waits).
    c.stuck_behind_stopped-fact.ensures.wanted w.config r.programs r.turns w (blocking w) r.run
    (blocking-rises w (holder_of s.locks) waits s.kept) (stuck-still w (holder_of s.locks) waits s.kept still))
