use Rattle.spec_machine.proofs.Common.{◌∙◌, ap, arith, places_of, slice_index_or}
use Rattle.std.proofs.lemmas.List.{get_or_default}
use Rattle.granule_cells.specs.declared.cpu_place.CpuPlace.TheVariants.{Outside}
use Rattle.granule_cells.specs.Seen.{place_of}
use Rattle.spec_machine.proofs.places.Places.of.Goals as goal

pub returns : goal.returns
unfolding places_of
returns c =
    let p = c.args.self.now in
    ap place_of (c.index.ensures
    ∙ get_or_default p.places.items c.from.result c.index.result.now Outside (omega (arith, p.cpus, p.places.ok.0, c.from.ensures))
    ∙ ap (λ i. slice_index_or p.places.items i Outside) c.from.ensures)
