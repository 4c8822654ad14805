use Rattle.explain_page.proofs.Said.{AppendsText-text}
use Rattle.explain_page.proofs.report_lines.write_plain.Goals as goal

pub returns : goal.returns
returns c = AppendsText-text c.args.line.now c.args.page.now.bytes c.text.new.self.bytes c.in_ok-text.ensures.ok
