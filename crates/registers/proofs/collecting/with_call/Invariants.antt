-- Those so far in which the call stands were taken without it.
use Rattle.std.proofs.Common.{◌≡◌, None, false, true}
use Rattle.verdict_laws.specs.Registers.{IsAmong, is_placed, with_placed}
use Rattle.registers.proofs.Firsts.{OfFirst}
use Rattle.registers.proofs.collecting.with_call.Given as goal

abbrev pub invariant-loop-one : goal.invariant-loop-one
invariant-loop-one l = record {
  taken : OfFirst (λ one. is_placed one l.cpu ≡ true → IsAmong (with_placed one l.cpu false None) l.next.items) l.possible l.one-index;
}
