-- Where the first part has no order, the events up to the place have none.
use Rattle.std.proofs.Common.{◌+◌, refl}
use Rattle.finding.proofs.Finds.{HasNoneUpTo-nowhere}
use Rattle.verdict_laws.specs.Parts.{first_part}
use Rattle.finding.proofs.slices.is_denied_at.Goals as goal

pub returns-then-is_out_of_place : goal.returns-then-is_out_of_place
returns-then-is_out_of_place c = λ misplaced.
    let history = c.args.history.now.recorded in
    let count = c.args.place + 1 in
    HasNoneUpTo-nowhere history (first_part count history) c.args.place count refl refl (c.is_out_of_place.ensures misplaced)

pub returns-else-is_out_of_place : goal.returns-else-is_out_of_place
returns-else-is_out_of_place c = λ denied.
    let history = c.args.history.now.recorded in
    let count = c.args.place + 1 in
    HasNoneUpTo-nowhere history (first_part count history) c.args.place count refl refl (c.is_denied.ensures denied)
