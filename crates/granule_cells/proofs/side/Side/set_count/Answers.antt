use Rattle.std.proofs.Common.{◌≡◌, ◌/◌, ◌<◌, length, slice_set, ap, ◌∙◌, arith}
use Rattle.rmm_spec.specs.Cell.{put}
use Rattle.granule_cells.specs.Sides.{side_of, with_count, counted_at}
use Rattle.granule_cells.proofs.SideTable.{counted_at-set}
use Rattle.granule_cells.proofs.side.Side.set_count.Goals as goal

pub returns : goal.returns
unfolding side_of
returns c =
    let side = c.reach.new.self in
    let within : c.args.rd / 4096 < length side.rec_counts.items =
    omega (arith, side.rec_counts.ok.0, c.reach.ensures.reached, c.place_of-place.ensures.place) in
    let written : counted_at (slice_set side.rec_counts.items c.place_of-place.result c.args.count)
    ≡ put (counted_at side.rec_counts.items) c.args.rd c.args.count =
    ap (λ place. counted_at (slice_set side.rec_counts.items place c.args.count)) c.place_of-place.ensures.place
    ∙ counted_at-set side.rec_counts.items c.args.rd c.args.count within c.requires in
    (λ i. record { vmids = (side_of side).vmids; rec_counts = written i }) ∙ ap (λ s. with_count s c.args.rd c.args.count) c.reach.ensures.kept
