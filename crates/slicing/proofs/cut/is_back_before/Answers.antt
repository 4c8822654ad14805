-- What holds of each name holds of each granule that is named.
use Rattle.std.proofs.Common.{rules, ◌<◌, All, ℕ}
use Rattle.rmm_spec.specs.Rows.{Needed}
use Rattle.verdict_laws.specs.Slices.{changeable}
use Rattle.slicing.specs.Calls.{back_of}
use Rattle.slicing.specs.Plans.{mark_of}
use Rattle.slicing.proofs.Named.{All-named}
use Rattle.slicing.proofs.cut.is_back_before.Goals as goal

pub returns : goal.returns
returns c is =
    let marks = c.args.plan.now.marks.items in
    let call = c.args.call.now in
    let each : All (λ (n : Needed). back_of call < (mark_of marks n.granule).first) (changeable call.call) = (search rules) in
    All-named (λ (g : ℕ). back_of call < (mark_of marks g).first) (changeable call.call) each
