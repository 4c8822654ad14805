use Rattle.verdict_laws.proofs.Entries.{entry_turned, work_turned}
use Rattle.verdict_laws.proofs.beside.entries_exchange.Goals as goal

pub returns-clause-entry_first : goal.returns-clause-entry_first
returns-clause-entry_first c = λ old middle new cpu other one two given answered.
    entry_turned old middle new cpu other one two given answered

pub returns-clause-work_first : goal.returns-clause-work_first
returns-clause-work_first c = λ old middle new cpu other one two given answered.
    work_turned old middle new cpu other one two given answered
