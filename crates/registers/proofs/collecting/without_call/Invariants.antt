-- Those so far in which the call doesn't stand were taken.
use Rattle.std.proofs.Common.{◌≡◌, false}
use Rattle.verdict_laws.specs.Registers.{IsAmong, is_placed}
use Rattle.registers.proofs.Firsts.{OfFirst}
use Rattle.registers.proofs.collecting.without_call.Given as goal

abbrev pub invariant-loop-one : goal.invariant-loop-one
invariant-loop-one l = record {
  taken : OfFirst (λ one. is_placed one l.cpu ≡ false → IsAmong one l.begun.items) l.possible l.one-index;
}
