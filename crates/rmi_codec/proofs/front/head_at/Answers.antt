use Rattle.std.proofs.Common.{arith}
use Rattle.rmi_codec.proofs.FrontLaws.{head_front}
use Rattle.rmi_codec.proofs.front.head_at.Goals as goal

pub returns-clause-found : goal.returns-clause-found
returns-clause-found c =
    head_front c.args.text.now c.digit_of-cpu.result c.in_ok-number.number c.in_ok-number.end
    (let short = c.if-text-lt4.false in omega (arith, short))
    c.if-text-ne32.false c.if-text-ne32-2.false (c.digit_of-cpu.ensures.shown c.if-cpu-ge10.false) c.if-cpu-ge10.false c.in_ok-number.ensures.found
