use Rattle.explain_page.proofs.Plain.{plain_escaped}
use Rattle.explain_page.proofs.laws.escaped_plain.Goals as goal

pub returns : goal.returns
returns c = plain_escaped c.args.bytes.now
