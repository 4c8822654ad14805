use Rattle.std.proofs.Common.{sym, subst}
use Rattle.rmm_spec.specs.HistoryText.{IsHistoryText}
use Rattle.check_command.proofs.CertificateTexts.{OnOk-both, goes_on}
use Rattle.check_command.proofs.takers.JudgingTaker.take.Goals as goal

pub returns-clause-taken : goal.returns-clause-taken
returns-clause-taken c =
    OnOk-both c.feed.result c.feed.ensures.judged (goes_on c.feed.result c.feed.new.self.refused c.feed.ensures.answered)
    (λ judged going before text given. (subst (IsHistoryText before) (sym c.feed.ensures.history) given.0, judged text given.1, going))
