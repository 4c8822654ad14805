use Rattle.std.proofs.Common.{◌≡◌, [], None, replicate, rules, ap, ◌∙◌}
use Rattle.std.specs.Prelude.{slice_get}
use Rattle.granule_cells.specs.Sides.{side_of, listed_at, counted_at}
use Rattle.granule_cells.proofs.SideTable.{listed_at-replicate, counted_at-none}
use Rattle.granule_cells.proofs.side.Side.new.Goals as goal

pub returns-clause-unused : goal.returns-clause-unused
unfolding side_of
returns-clause-unused c =
    let items : c.in_ok-vmids.vmids.items ≡ replicate 256 None = c.in_ok-vmids.ensures.items_if_clones_equal (search rules) in
    λ vmid. ap (λ listed. listed_at (slice_get listed vmid)) items ∙ listed_at-replicate 256 vmid

pub returns-clause-none : goal.returns-clause-none
unfolding side_of
returns-clause-none c =
    let items : c.in_ok-rec_counts.rec_counts.items ≡ [] = c.in_ok-rec_counts.ensures.items in
    λ rd. ap (λ counts. counted_at counts rd) items ∙ counted_at-none rd
