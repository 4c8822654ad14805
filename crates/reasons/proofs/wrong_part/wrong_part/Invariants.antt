use Rattle.std.proofs.Common.{◌≡◌, length, drop}
use Rattle.rmm_spec.specs.Text.{parts_of}
use Rattle.reasons.proofs.GoingOn.{IsWantedAt}
use Rattle.reasons.proofs.wrong_part.wrong_part.Given as goal

abbrev pub invariant-loop-part : goal.invariant-loop-part
invariant-loop-part l = record {
  left : drop l.index (parts_of l.line) ≡ l.parts;
  wanted : IsWantedAt l.fn.start (parts_of l.line) l.index l.wanted;
}

abbrev pub decreases-loop-part : goal.decreases-loop-part
decreases-loop-part l = length l.parts
