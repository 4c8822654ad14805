use Rattle.explain_page.specs.declared.own.Own.TheVariants as own
use Rattle.explain_page.specs.declared.own.tag.Tag.TheVariants as tag
use Rattle.explain_page.proofs.Said.{AppendsText-around, AppendsText-text}
use Rattle.explain_page.proofs.report_lines.write_linked.Goals as goal

pub returns : goal.returns
returns c =
    AppendsText-around (own.Tag tag.LinkEnd)
    c.args.page.now.bytes c.open_link.new.page.bytes c.text.new.self.bytes c.say.new.self.bytes c.args.line.now c.in_ok-open_link.ensures
    (AppendsText-text c.args.line.now c.open_link.new.page.bytes c.text.new.self.bytes c.in_ok-text.ensures.ok) c.in_ok-say.ensures.ok
