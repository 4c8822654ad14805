use Rattle.std.proofs.Common.{◌<◌, None, length, arith}
use Rattle.std.proofs.lemmas.Option.{slice_get-get_or}
use Rattle.finding.proofs.front.Front.next.Goals as goal

pub returns-clause-next : goal.returns-clause-next
returns-clause-next c =
    let is_front = c.requires.front in
    let within : c.args.cpu < length c.args.self.now.nexts =
    omega (arith, is_front.nexts, c.cpus_of-fact.ensures.count, c.cpus_of-fact.ensures.few, c.requires.cpu) in
    (is_front.each c.args.cpu _ c.requires.cpu (slice_get-get_or c.args.self.now.nexts c.args.cpu None within)).known

pub returns-clause-rank : goal.returns-clause-rank
returns-clause-rank c =
    let is_front = c.requires.front in
    let within : c.args.cpu < length c.args.self.now.nexts =
    omega (arith, is_front.nexts, c.cpus_of-fact.ensures.count, c.cpus_of-fact.ensures.few, c.requires.cpu) in
    (is_front.each c.args.cpu _ c.requires.cpu (slice_get-get_or c.args.self.now.nexts c.args.cpu None within)).rank
