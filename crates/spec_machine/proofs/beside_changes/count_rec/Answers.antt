use Rattle.rmm_spec.specs.declared.tag.Tag.TheVariants.{Rd}
use Rattle.spec_machine.proofs.CanMake.{few_recs, within_limit}
use Rattle.spec_machine.proofs.Tagged.{granule_tagged}
use Rattle.spec_machine.proofs.beside_changes.count_rec.Goals as goal

pub count_rec-requires-clause-granule : goal.count_rec-requires-clause-granule
count_rec-requires-clause-granule c =
    let g = c.args.granules.now in
    rw c.new.ensures (within_limit g c.granules-fact.ensures.limits c.args.rd (granule_tagged g c.args.rd Rd c.requires.realm))

pub count_rec-requires-clause-limit : goal.count_rec-requires-clause-limit
count_rec-requires-clause-limit c = few_recs c.args.granules.now c.requires.shaped c.granules-fact.ensures.limits c.new.result
