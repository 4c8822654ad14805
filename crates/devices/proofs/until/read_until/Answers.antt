use Rattle.std.proofs.Common.{◌≡◌, ◌++◌, inr, rules, sym, subst}
use Rattle.std.specs.Io.KnownBytes.{IsAtEnd}
use Rattle.std.proofs.lemmas.List.{append-nil}
use Rattle.std.proofs.lemmas.Result.{err_from_is_err_and}
use Rattle.devices.proofs.ReadSoFar.{Gives-next, IsReadUpTo-next, IsReadUpTo-end, refused_or_given}
use Rattle.devices.proofs.until.read_until.Goals as goal

pub returns-in_err-count-clause-read : goal.returns-in_err-count-clause-read
returns-in_err-count-clause-read g c =
    let so_far = c.loop-count.invariant.0 in
    let step = c.read_more.ensures.gives in
    let p = err_from_is_err_and c.from_residual.result c.from_residual.ensures.1 in
    rw p.1 (
      so_far.text ++ step.0,
      (Gives-next g.S.Source.gives c.args.source.now c.loop-count.source c.read_more.new.self so_far.text step.0 so_far.given step.1.0, λ is. cc, tt),
    )

pub returns-then-count-eq0-clause-read : goal.returns-then-count-eq0-clause-read
returns-then-count-eq0-clause-read g c =
    let so_far = c.loop-count.invariant.0 in
    let step = c.in_ok-count.ensures.gives in
    let none : c.in_ok-count.count ≡ 0 = search rules in
    let ended : IsAtEnd (g.S.Source.left c.read_more.new.self) = search rules in
    let read =
    IsReadUpTo-next g.S.Source.gives g.S.Source.left g.T.Taker.has_taken c.args.source.now c.loop-count.source c.read_more.new.self c.args.taker.now
    c.loop-count.taker c.loop-count.taker step.0 _ step.1.0 step.1.1 c.in_ok-count.ensures.left
    (λ before text given. rw none (subst (g.T.Taker.has_taken c.loop-count.taker before) (sym (append-nil text)) given)) so_far in
    (read.text, (read.given, λ _. IsReadUpTo-end g.S.Source.gives g.S.Source.left g.T.Taker.has_taken _ _ _ _ ended read, read.handed))

pub returns-then-is_sated-clause-read : goal.returns-then-is_sated-clause-read
returns-then-is_sated-clause-read g c =
    let so_far = c.loop-count.invariant.0 in
    let step = c.in_ok-count.ensures.gives in
    let read =
    IsReadUpTo-next g.S.Source.gives g.S.Source.left g.T.Taker.has_taken c.args.source.now c.loop-count.source c.read_more.new.self c.args.taker.now
    c.loop-count.taker c.take.new.self step.0 _ step.1.0 step.1.1 c.in_ok-count.ensures.left c.in_ok-take.ensures.taken so_far in
    (read.text, (read.given, λ is. cc, read.handed))

pub loop-count-preserved : goal.loop-count-preserved
loop-count-preserved g c =
    let so_far = c.loop-count.invariant.0 in
    let step = c.in_ok-count.ensures.gives in (
      IsReadUpTo-next g.S.Source.gives g.S.Source.left g.T.Taker.has_taken c.args.source.now c.loop-count.source c.read_more.new.self c.args.taker.now
          c.loop-count.taker c.take.new.self step.0 _ step.1.0 step.1.1 c.in_ok-count.ensures.left c.in_ok-take.ensures.taken so_far,
      search rules,
    )

pub returns-in_err-take-clause-read : goal.returns-in_err-take-clause-read
returns-in_err-take-clause-read g c =
    let so_far = c.loop-count.invariant.0 in
    let step = c.in_ok-count.ensures.gives in
    let p = err_from_is_err_and c.from_residual-in_err-take.result c.from_residual-in_err-take.ensures.1 in
    rw p.1 (
      so_far.text ++ step.0,
      (Gives-next g.S.Source.gives c.args.source.now c.loop-count.source c.read_more.new.self so_far.text step.0 so_far.given step.1.0, λ is. cc, tt),
    )

pub returns-in_err-take-clause-refused : goal.returns-in_err-take-clause-refused
returns-in_err-take-clause-refused g c = λ _.
    let so_far = c.loop-count.invariant.0 in
    let step = c.in_ok-count.ensures.gives in
    refused_or_given g.S.Source.gives g.S.Source.refuses g.T.Taker.has_taken
    g.T.Taker.refuses c.args.source.now c.read_more.new.self c.args.taker.now (inr (record {
      text = so_far.text;
      piece = _;
      some = search rules;
      taken = c.loop-count.taker;
      given = Gives-next g.S.Source.gives c.args.source.now c.loop-count.source c.read_more.new.self so_far.text _ so_far.given
          (subst (λ p. g.S.Source.gives c.loop-count.source p c.read_more.new.self) step.1.1 step.1.0);
      handed = so_far.handed;
      refused = c.in_err-take.ensures.refused;
    }))
