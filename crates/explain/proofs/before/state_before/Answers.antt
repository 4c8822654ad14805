-- Part by part.
use Rattle.explain.proofs.Common.{state_of}
use Rattle.explain.proofs.before.state_before.Goals as goal

pub returns : goal.returns
returns c = record {
  granules = c.granules_before.ensures (state_of c.args.machine.now) c.requires;
  realm = c.realm_named.ensures;
  rec = c.rec_named-rec.ensures;
  walk = c.walk_before.ensures;
}
