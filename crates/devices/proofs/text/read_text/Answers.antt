use Rattle.std.proofs.Common.{◌≡◌, [], sym, subst}
use Rattle.devices.specs.Source.{GivesWhole}
use Rattle.devices.proofs.text.read_text.Goals as goal

pub returns-clause-whole : goal.returns-clause-whole
returns-clause-whole g c =
    let read = c.in_ok-read_whole.ensures.read in
    let kept : c.read_whole.new.taker.items ≡ read.0 = read.1.1.1 [] c.new-text.ensures.items in
    subst (GivesWhole g.S.Source.gives (g.S.Source.left c.args.source.now) c.args.source.now c.read_whole.new.source) (sym kept)
    (record { given = read.1.0; whole = read.1.1.0 })
