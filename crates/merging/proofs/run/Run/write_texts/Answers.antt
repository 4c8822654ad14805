use Rattle.std.proofs.lemmas.Result.{on_ok_weaker, MatchResult-weaker}
use Rattle.merging.proofs.CutLaws.{IsCut-written, IsCut-header}
use Rattle.merging.proofs.TextLaws.{GrowsByHistory-written, GrowsByCertificate-written}
use Rattle.merging.proofs.run.Run.write_texts.Goals as goal

pub returns-clause-history : goal.returns-clause-history
returns-clause-history g c =
    on_ok_weaker c.write_lines.result
    (λ lines. GrowsByHistory-written c.args.self.now _ _ _ (rw (← c.self.view_is) c.cpus-fact.ensures.limits)
    (rw (← c.self.view_is) c.self.invariant.can_merge) (rw (← c.self.view_is) c.in-Ok.ensures.ok) lines)
    c.write_lines.ensures.history

pub returns-clause-certificate : goal.returns-clause-certificate
returns-clause-certificate g c =
    on_ok_weaker c.write_lines.result
    (λ lines. GrowsByCertificate-written c.args.self.now _ _ (rw (← c.self.view_is) c.self.invariant.can_merge) lines)
    c.write_lines.ensures.certificate

pub returns-in_default-clause-fault : goal.returns-in_default-clause-fault
returns-in_default-clause-fault g c =
    IsCut-header c.args.self.now _ _ _ c.requires.certificate (rw (← c.self.view_is) c.in_default.ensures.err)

pub returns-clause-fault : goal.returns-clause-fault
returns-clause-fault g c =
    MatchResult-weaker c.write_lines.result c.write_lines.ensures.fault (λ _ nothing. nothing)
    (λ fault cut. IsCut-written c.args.self.now fault _ _ _ _ _ (rw (← c.self.view_is) c.in-Ok.ensures.ok) cut)
