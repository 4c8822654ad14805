use Rattle.explain_page.specs.declared.own.Own.TheVariants as own
use Rattle.explain_page.specs.declared.own.tag.Tag.TheVariants as tag
use Rattle.explain_page.proofs.Said.{AppendsText-marked}
use Rattle.explain_page.proofs.report_lines.open_link.Goals as goal

pub returns : goal.returns
returns c =
    AppendsText-marked (own.Tag tag.ToRow) c.args.step
    (own.Tag tag.LinkStart) c.args.page.now.bytes c.say.new.self.bytes c.number.new.self.bytes c.say-2.new.self.bytes
    c.in_ok-say.ensures.ok c.in_ok-number.ensures.ok c.in_ok-say-2.ensures.ok
