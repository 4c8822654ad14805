use Rattle.std.proofs.lemmas.Result.{MatchResult-weaker}
use Rattle.merging.proofs.CutLaws.{IsUnwritten-cut}
use Rattle.merging.proofs.run.Run.write.Goals as goal

pub returns-clause-fault : goal.returns-clause-fault
returns-clause-fault g c =
    MatchResult-weaker c.write_texts.result c.write_texts.ensures.fault (λ _ nothing. nothing)
    (λ fault cut. IsUnwritten-cut c.args.self.now _ fault cut)
