use Rattle.std.proofs.Common.{◌≡◌, ◌+◌, ◌-◌, ◌/◌, length, replicate, slice_index_or, ap, ◌∙◌, arith}
use Rattle.std.proofs.lemmas.List.{length-replicate}
use Rattle.spec_machine.specs.Unmade.{unmade}
use Rattle.spec_machine.proofs.PlaceLaws.{start-replicate, unmade-replicate}
use Rattle.spec_machine.proofs.granule_places.GranulePlaces.new.Goals as goal

pub invariant_of-result : goal.invariant_of-result
invariant_of-result c =
    let near = c.first_of-near.result in
    let blocks = (c.args.granules - near + 512 - 1) / 512 in
    let starts = c.in_ok-starts.starts.items in
    let items : starts ≡ replicate blocks 0 = c.in_ok-starts.ensures in
    let count : length starts ≡ blocks = ap length items ∙ length-replicate blocks 0 in
    record {
      many = c.requires;
      first = c.first_of-near.ensures.within;
      all = omega (arith, count, c.first_of-near.ensures.within);
      short = omega (arith, count, c.requires);
      apart = λ a b some same. absurd (omega (arith, some, ap (λ items. slice_index_or items a 0) items, start-replicate blocks a));
      below = λ a. omega (arith, ap (λ items. slice_index_or items a 0) items, start-replicate blocks a);
      left = omega (arith, count, ap unmade items, unmade-replicate blocks);
    }
