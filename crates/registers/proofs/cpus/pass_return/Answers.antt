-- The CPU goes on to its next call.
use Rattle.std.proofs.Common.{◌+◌, arith}
use Rattle.std.proofs.lemmas.Option.{slice_get_within}
use Rattle.registers.proofs.CpuLaws.{AreCpus-return, MatchOption-places, few_numbers}
use Rattle.registers.proofs.cpus.pass_return.Goals as goal

pub overflow_add-number : goal.overflow_add-number
overflow_add-number c =
    let few = few_numbers c.args.history.now.recorded c.well_formed-fact.ensures c.args.cpus.now c.args.at c.requires.returned.0 c.requires.returned.1
    c.requires.returned.2 in
    omega (arith, few)

pub bounds-cpus-at : goal.bounds-cpus-at
bounds-cpus-at c =
    let returns = c.requires.returned.2 in
    let within = slice_get_within c.args.cpus.now c.args.at.cpu returns.one returns.is_one in
    omega (arith, within, c.requires.cpus.size)

pub returns : goal.returns
returns c =
    AreCpus-return c.args.history.now.recorded c.well_formed-fact.ensures c.args.cpus.now c.args.at c.requires.returned.0 c.requires.returned.1
    c.args.entered c.places_of.result c.requires.cpus c.requires.returned.2 c.requires.returned.3
    (MatchOption-places c.args.history.now.recorded c.args.at.cpu (c.args.at.number + 1) c.places_of.result c.places_of.ensures.some
    c.places_of.ensures.none)
