-- Of no state nothing is kept.
use Rattle.std.proofs.Common.{arith}
use Rattle.explain.proofs.track.no_track.Goals as goal

pub returns : goal.returns
returns c history lines w = record {
  turn = record {
    so = λ count from below. absurd (let bad : ⊥ = omega (arith, below) in bad);
    turned = λ before is. absurd (let bad : ⊥ = omega (arith, is) in bad);
    within = omega arith;
  };
  kept = record {
    read = λ count from below. absurd (let bad : ⊥ = omega (arith, below) in bad);
    changed = λ before is. absurd (let bad : ⊥ = omega (arith, is) in bad);
    within = omega arith;
  };
}
