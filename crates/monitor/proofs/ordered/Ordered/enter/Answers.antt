use Rattle.monitor.proofs.Common.{◌∙◌}
use Rattle.monitor.proofs.ordered.Ordered.enter.Goals as goal

pub returns-then-is_ok-clause-entry : goal.returns-then-is_ok-clause-entry
returns-then-is_ok-clause-entry g c =
    let entry = c.enter-entered.ensures in
    record { before = entry.before; after = entry.after; shown = (entry.shown.0 ∙ c.self.view_is, entry.shown.1); holds = entry.holds }

pub returns-else-is_ok-clause-entry : goal.returns-else-is_ok-clause-entry
returns-else-is_ok-clause-entry g c =
    let entry = c.enter-entered.ensures in
    record { before = entry.before; after = entry.after; shown = (entry.shown.0 ∙ c.self.view_is, entry.shown.1); holds = entry.holds }
