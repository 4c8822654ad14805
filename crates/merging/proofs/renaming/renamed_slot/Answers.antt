use Rattle.std.proofs.Common.{sym, subst, ◌≤◌, length, arith}
use Rattle.rmm_spec.specs.declared.version.Version.TheVariants.{Large}
use Rattle.rmm_spec.specs.HistoryText.{granule_limit}
use Rattle.merging.specs.Events.{IsMoment}
use Rattle.merging.specs.SeenEvents.{moment_seen}
use Rattle.merging.proofs.WordLaws.{IsMoment-renamed}
use Rattle.merging.proofs.renaming.renamed_slot.Goals as goal

pub returns-clause-happened : goal.returns-clause-happened
returns-clause-happened c = λ is. record {
  cpu = is.cpu;
  moment = subst IsMoment (sym c.renamed_moment-moment.ensures.seen)
      (IsMoment-renamed c.args.names.now c.args.granules c.args.last (moment_seen c.args.slot.moment)
      (let few : length c.args.names.now ≤ granule_limit Large =
      omega (arith, c.len-fact.ensures.len, c.len-fact.ensures.most) in few) c.requires.granules is.moment);
}
