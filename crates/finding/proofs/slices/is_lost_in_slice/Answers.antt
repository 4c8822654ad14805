-- Where the first part has no order, the events up to the place have none.
use Rattle.std.proofs.Common.{◌+◌, refl}
use Rattle.finding.proofs.Finds.{HasNoneUpTo-nowhere}
use Rattle.verdict_laws.specs.Parts.{first_part}
use Rattle.finding.proofs.slices.is_lost_in_slice.Goals as goal

pub returns : goal.returns
returns g c = λ lost.
    let history = c.args.history.now.recorded in
    let count = c.args.place + 1 in
    HasNoneUpTo-nowhere history (first_part count history) c.args.place count refl refl (c.in_ok-lost.ensures lost)
