use Rattle.std.proofs.lemmas.Result.{IfOk-weaker}
use Rattle.finding.proofs.Finds.{IsFound-watched}
use Rattle.finding.proofs.finding.find.Goals as goal

pub returns : goal.returns
returns c = IfOk-weaker c.find_watched.result _ _ (IsFound-watched c.args.history.now.recorded c.args.limit) c.find_watched.ensures
