use Rattle.spec_machine.proofs.Common.{◌+◌, ◌≡◌, entry_at, entry_number, state_in, true}
use Rattle.rmm_spec.specs.Lookup.{all_below}
use Rattle.rmm_spec.specs.Step.Ripas.{can_be_set}
use Rattle.spec_machine.proofs.machine.Machine.is_reached.Given as goal

abbrev pub invariant-loop-place : goal.invariant-loop-place
invariant-loop-place l =
    all_below l.place (λ k. can_be_set l.stretch.purpose
    (entry_at (state_in l.self.granules) l.stretch.rd l.stretch.level (entry_number l.stretch.level l.stretch.base + k))) ≡ true
