use Rattle.world.proofs.Common.{◌<◌, ◌∙◌, ◌≡◌, List, Some, ap, length, slice_get, subst, sym, world_from, world_of, ℕ}
use Rattle.std.proofs.Common.{◌-◌}
use Rattle.std.specs.Prelude.{option_copied}
use Rattle.spec_lemmas.proofs.Members.{Contains-from_slice_get}
use Rattle.world.proofs.Taking.{no_last, last-of, nothing_learnt, free-last}
use Rattle.world.proofs.Goes.{freed-report}
use Rattle.world.proofs.world.World.free_last.Goals as goal

pub unreachable-requires : goal.unreachable-requires
unfolding world_of world_from
unreachable-requires c =
    no_last c.taken.result.now (subst (λ (xs : List ℕ). 0 < length xs) (sym c.taken.ensures.taken) c.requires.held)
    (sym c.last.ensures.value ∙ ap option_copied c.in_default.is)

pub free_lock-requires : goal.free_lock-requires
unfolding world_of world_from
free_lock-requires c =
    let w = world_of c.args.self.now in
    let cpu = c.args.cpu in
    let last = c.in-Some.last.now in
    let is : slice_get (w.taken cpu) (length (w.taken cpu) - 1) ≡ Some last =
    subst (λ (xs : List ℕ). slice_get xs (length xs - 1) ≡ Some last) c.taken.ensures.taken (sym c.in-Some.ensures.value) in
    let parts = last-of (w.taken cpu) last is in
    record {
      cpu = c.requires.cpu;
      held = Contains-from_slice_get (w.taken cpu) (length (w.taken cpu) - 1) last is;
      learnt = nothing_learnt w (w.phase cpu) last;
      freed = free-last w cpu last (w.phase cpu) parts.0 c.requires.decided parts.1;
    }

pub returns-clause-exact : goal.returns-clause-exact
returns-clause-exact c = rw c.free_lock.ensures.free (freed-report (world_of c.args.self.now) c.args.cpu c.requires.decided c.requires.held)
