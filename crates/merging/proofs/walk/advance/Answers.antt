use Rattle.merging.proofs.Common.{◌<◌, ◌≤◌, Stand, arith, happened_seen, length, subst}
use Rattle.std.proofs.Common.{get_or}
use Rattle.std.proofs.lemmas.List.{get_or_default}
use Rattle.merging.proofs.StepLaws.{stands_in-at, stands_in-advanced}
use Rattle.merging.proofs.walk.advance.Goals as goal

pub after-next-requires-clause-calls : goal.after-next-requires-clause-calls
after-next-requires-clause-calls c =
    let cpus = c.args.cpus.now in
    let at = c.from-at.result in
    let cpu = get_or cpus at c.index-cpus-at.result in
    let within : at < length cpus = omega (arith, c.from-at.ensures, c.requires.cpu, c.told-cpus) in
    let few = subst (λ (s : Stand). s.calls ≤ 2000000)
    (stands_in-at cpus at cpu within (get_or_default cpus at _ cpu within)) (c.requires.few_calls.calls at) in
    omega (arith, few)

pub after-next-requires-clause-returns : goal.after-next-requires-clause-returns
after-next-requires-clause-returns c =
    let cpus = c.args.cpus.now in
    let at = c.from-at.result in
    let cpu = get_or cpus at c.index-cpus-at.result in
    let within : at < length cpus = omega (arith, c.from-at.ensures, c.requires.cpu, c.told-cpus) in
    let few = subst (λ (s : Stand). s.returns ≤ 2000000)
    (stands_in-at cpus at cpu within (get_or_default cpus at _ cpu within)) (c.requires.few_calls.returns at) in
    omega (arith, few)

pub returns : goal.returns
returns c =
    let cpus = c.args.cpus.now in
    let at = c.from-at.result in
    let cpu = get_or cpus at c.index-cpus-at.result in
    let within : at < length cpus = omega (arith, c.from-at.ensures, c.requires.cpu, c.told-cpus) in
    stands_in-advanced cpus at cpu c.after-next.result (happened_seen c.args.slot) c.from-at.ensures within
    (get_or_default cpus at _ cpu within) c.after-next.ensures
