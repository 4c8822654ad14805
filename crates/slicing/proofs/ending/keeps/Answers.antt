-- A tag is kept as `keeps_tag` says.
use Rattle.std.proofs.Common.{◌∙◌, ap}
use Rattle.verdict_laws.specs.declared.facts.Fact.{Fact}
use Rattle.verdict_laws.specs.Facts.{may_end}
use Rattle.slicing.proofs.ending.keeps.Goals as goal

pub returns-in-Tagged : goal.returns-in-Tagged
returns-in-Tagged c is cpu given = ap (λ (f : Fact). may_end f cpu c.args.call.now given) c.in-Tagged.is ∙ c.keeps_tag.ensures is cpu given
