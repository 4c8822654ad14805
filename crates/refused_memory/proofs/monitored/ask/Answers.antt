use Rattle.std.proofs.Common.{◌≡◌, ◌<◌, length, get_or, arith, ◌∙◌}
use Rattle.std.proofs.lemmas.Option.{slice_get-get_or}
use Rattle.monitor.proofs.CpuLists.{cpu-left, cpus-set}
use Rattle.refused_memory.proofs.monitored.ask.Goals as goal

pub execute-requires-clause-pair : goal.execute-requires-clause-pair
execute-requires-clause-pair g c =
    let cpus = c.requires.cpus in
    let has_token : c.args.cpu < length c.args.tokens.now = omega (arith, c.requires.cpu, cpus.count) in
    let has_pass : c.args.cpu < length c.args.passes.now = omega (arith, c.requires.cpu, cpus.count, cpus.pairs.same_count) in
    cpus.pairs.each c.args.cpu _ _ (slice_get-get_or c.args.tokens.now c.args.cpu c.index-tokens-cpu.result has_token)
    (slice_get-get_or c.args.passes.now c.args.cpu c.index-passes-cpu.result has_pass)

pub returns : goal.returns
returns g c =
    let cpus = c.requires.cpus in
    let token = get_or c.args.tokens.now c.args.cpu c.index-tokens-cpu.result in
    let pass = get_or c.args.passes.now c.args.cpu c.index-passes-cpu.result in
    let has_token : c.args.cpu < length c.args.tokens.now = omega (arith, c.requires.cpu, cpus.count) in
    let is_its : c.execute.new.token.cpu ≡ c.args.cpu =
    cpu-left c.in_ok-command.command token c.execute.new.token pass c.execute.new.pass c.execute.result c.execute.ensures.leaves
    ∙ cpus.numbered c.args.cpu token (slice_get-get_or c.args.tokens.now c.args.cpu c.index-tokens-cpu.result has_token) in
    cpus-set c.args.monitor.now c.args.tokens.now c.args.passes.now c.args.cpu
    c.execute.new.token c.execute.new.pass cpus is_its c.execute.ensures.pair
