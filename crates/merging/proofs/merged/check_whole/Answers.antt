use Rattle.merging.proofs.Common.{◌≡◌, arith, known_front, length}
use Rattle.std.proofs.lemmas.Result.{on_ok_weaker}
use Rattle.merging.proofs.RunLaws.{length-known_front}
use Rattle.merging.proofs.merged.check_whole.Goals as goal

pub returns-clause-whole : goal.returns-clause-whole
returns-clause-whole c =
    let all : length (known_front c.args.table.now.slots) ≡ length c.args.table.now.slots =
    omega (arith, length-known_front c.args.table.now.slots, c.requires, c.len.ensures.len, c.if-front-len.false) in
    on_ok_weaker c.check_front.result (λ _. all) c.check_front.ensures.ok
