use Rattle.verdict_laws.proofs.Growing.{IsKept-nil}
use Rattle.verdict_laws.proofs.exchanges.no_line_is_kept_at_first.Goals as goal

pub returns : goal.returns
returns c = IsKept-nil
