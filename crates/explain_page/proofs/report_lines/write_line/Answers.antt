use Rattle.explain_page.specs.declared.own.Own.TheVariants as own
use Rattle.explain_page.specs.declared.own.tag.Tag.TheVariants as tag
use Rattle.explain_page.proofs.Said.{AppendsText-around}
use Rattle.explain_page.proofs.report_lines.write_line.Goals as goal

pub returns : goal.returns
returns c =
    AppendsText-around (own.Tag tag.LineEnd)
    c.args.page.now.bytes c.open_line.new.page.bytes c.write_words.new.page.bytes c.say.new.self.bytes c.args.line.now c.in_ok-open_line.ensures
    c.in_ok-write_words.ensures c.in_ok-say.ensures.ok
