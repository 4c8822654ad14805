-- One CPU isn't outside any more.
use Rattle.std.proofs.Common.{not, ap}
use Rattle.std.proofs.lemmas.Bool.{not-true}
use Rattle.finding.specs.Group.{is_outside}
use Rattle.finding.proofs.GroupLaws.{is_outside-drawn, is_outside-kept}
use Rattle.finding.proofs.group.Group.with.Goals as goal

pub returns-clause-drawn : goal.returns-clause-drawn
returns-clause-drawn c = ap not (is_outside-drawn c.args.self.outside c.args.cpu)

pub returns-clause-kept : goal.returns-clause-kept
returns-clause-kept c = λ other inside.
    ap not (is_outside-kept c.args.self.outside c.args.cpu other (not-true (is_outside c.args.self.outside other) inside))
