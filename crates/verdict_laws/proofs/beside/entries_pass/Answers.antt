use Rattle.verdict_laws.proofs.Passing.{Passes-from_entry, Passes-from_work}
use Rattle.verdict_laws.proofs.beside.entries_pass.Goals as goal

pub returns-clause-entry_first : goal.returns-clause-entry_first
returns-clause-entry_first c = λ history place lines state line other is_history.
    Passes-from_entry history place lines state line other

pub returns-clause-work_first : goal.returns-clause-work_first
returns-clause-work_first c = λ history place lines state line other is_history.
    Passes-from_work history place lines state line other
