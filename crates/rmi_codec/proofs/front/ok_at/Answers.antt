use Rattle.std.proofs.Common.{arith, codes, map, take}
use Rattle.rmm_spec.specs.CommandText.{reply_parts}
use Rattle.rmm_spec.specs.Text.{word}
use Rattle.rmi_codec.proofs.FrontLaws.{line_front, ok_front, take-behind}
use Rattle.rmi_codec.proofs.front.ok_at.Goals as goal

pub returns-clause-found : goal.returns-clause-found
unfolding reply_parts
returns-clause-found c =
    let rest = c.split_at.result.1.now in
    let front =
    ok_front rest (let short = c.if-rest-lt4.false in omega (arith, short)) c.if-rest-ne32.false c.if-rest-ne111.false c.if-rest-ne107.false in
    line_front (take c.args.at c.args.text.now) (take c.in_ok-words.end c.args.text.now) (codes "ok") (map word c.in_ok-words.words.now) _
    (take-behind c.args.text.now c.args.at 3 _ (rw c.split_at.ensures.back at front)) c.in_ok-words.ensures.found
