use Rattle.explain_page.proofs.Said.{AppendsReport-framed}
use Rattle.explain_page.proofs.page.write_report.Goals as goal

pub returns : goal.returns
returns c =
    AppendsReport-framed c.args.page.now.bytes c.say.new.self.bytes c.write_lines.new.page.bytes
    c.say-2.new.self.bytes c.args.text.now c.in_ok-say.ensures.ok c.in_ok-write_lines.ensures
    c.in_ok-say-2.ensures.ok
