use Rattle.std.proofs.Common.{◌<◌, length, get_or, sym, ap, ◌∙◌, subst, arith}
use Rattle.rmm_spec.specs.CommandText.{IsCommand}
use Rattle.monitor_runs.proofs.Coming.{IsCommand-at, come-first, come-worked, come-more, come-refused}
use Rattle.monitor_runs.proofs.cpu.Cpu.work.Goals as goal

pub loop-command-init : goal.loop-command-init
loop-command-init g c = come-first c.args.monitor.now c.args.self.program.items c.args.self.token c.args.self.pass c.requires

pub execute-requires-clause-command : goal.execute-requires-clause-command
execute-requires-clause-command g c =
    let program = c.args.self.program.items in
    let place = c.loop-command.command-index in
    let item = c.command-item.result in
    let within : place < length program = omega (arith, c.loop-command-test.true, c.deref-command-items.ensures.len, c.args.self.program.ok.0) in
    let same = c.command-item.is ∙ ap (λ xs. get_or xs place item) c.deref-command-items.ensures.value in
    subst IsCommand (sym same) (IsCommand-at program place item c.requires.have_texts within)

pub execute-requires-clause-number : goal.execute-requires-clause-number
execute-requires-clause-number g c =
    omega (
      arith,
      c.loop-command.invariant.next,
      c.requires.few,
      c.loop-command-test.true,
      c.deref-command-items.ensures.len,
      c.args.self.program.ok.0,
    )

pub loop-command-preserved : goal.loop-command-preserved
loop-command-preserved g c =
    let program = c.args.self.program.items in
    let place = c.loop-command.command-index in
    let item = c.command-item.result in
    let within : place < length program = omega (arith, c.loop-command-test.true, c.deref-command-items.ensures.len, c.args.self.program.ok.0) in
    let same = c.command-item.is ∙ ap (λ xs. get_or xs place item) c.deref-command-items.ensures.value in
    come-more c.args.monitor.now c.args.self.token.cpu program place item
    c.loop-command.token c.loop-command.pass c.execute.new.token c.execute.new.pass
    c.loop-command.invariant within (sym same) c.execute.ensures.pair _ c.in-Ok.ensures.leaves

pub returns-in_default : goal.returns-in_default
returns-in_default g c =
    let program = c.args.self.program.items in
    let place = c.loop-command.command-index in
    let item = c.command-item.result in
    let within : place < length program = omega (arith, c.loop-command-test.true, c.deref-command-items.ensures.len, c.args.self.program.ok.0) in
    let same = c.command-item.is ∙ ap (λ xs. get_or xs place item) c.deref-command-items.ensures.value in
    come-refused c.args.monitor.now c.args.self.token.cpu program place item
    c.loop-command.token c.loop-command.pass c.execute.new.token c.execute.new.pass
    c.loop-command.invariant within
    (sym same) c.execute.ensures.pair _ c.in_default.ensures.leaves c.in_default.ensures.stopped c.in_default.ensures.full

pub returns : goal.returns
returns g c =
    come-worked c.args.monitor.now c.args.self.token.cpu c.args.self.program.items
    c.loop-command.command-index c.loop-command.token c.loop-command.pass
    (omega (
      arith,
      c.loop-command-test.false,
      c.loop-command.auto.command-index-end,
      c.deref-command-items.ensures.len,
      c.args.self.program.ok.0,
    ))
    c.loop-command.invariant
