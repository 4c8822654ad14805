use Rattle.std.proofs.Common.{◌≡◌, ◌<◌, map, sym, subst}
use Rattle.std.specs.List.{AllByRecursion}
use Rattle.rmm_spec.specs.CommandText.{IsCommand, command_text}
use Rattle.rmm_spec.specs.Scenario.{IsStatedBy, HasCommands, turn_text}
use Rattle.scenario.specs.SeenPrograms.{seen_programs}
use Rattle.scenario.specs.SeenTexts.{seen_lists, seen_texts, stated_seen}
use Rattle.scenario.proofs.Values.{AreInRange-sizes, IsStatedBy-parts, IsCommandText-all}
use Rattle.scenario.proofs.reading.scenario_of.Goals.{In-Some-3}
use Rattle.scenario.proofs.reading.scenario_of.Goals as goal

pub returns-in_default-3-clause-fault : goal.returns-in_default-3-clause-fault
returns-in_default-3-clause-fault c =
    let stated = stated_seen c.args.stated.now in
    let programs = seen_programs c.in-Some-2.programs.items in
    let texts : seen_lists c.as_slice.result.now ≡ map (map command_text) programs = rw c.in-Some-2.is at c.in_ok-programs.ensures.texts in
    let commands : AllByRecursion (AllByRecursion IsCommand) programs = rw c.in-Some-2.is at c.in_ok-programs.ensures.commands in
    let readable : HasCommands stated = rw (rw c.as_slice.ensures.value at texts) (IsCommandText-all programs commands) in
    let refused =
    rw (c.in_default-3.is, c.cpus.ensures.count, ← c.in-Some.ensures.found.programs, c.as_slice-2.ensures.value) at c.in_ok-turns.ensures.none in
    (AreInRange-sizes stated c.in-Some.sizes c.in-Some.ensures.found c.in-Some.ensures.version, readable, refused)

-- what the parts make
stated_by : (c : In-Some-3) → IsStatedBy (stated_seen c.args.stated.now) (record {
  config = c.in-Some.sizes.config;
  programs = seen_programs c.in-Some-2.programs.items;
  queue = c.in-Some.sizes.queue;
  turns = c.in-Some-3.turns.items;
  limit = c.in-Some.sizes.limit;
})
stated_by c =
    let programs = seen_programs c.in-Some-2.programs.items in
    let texts : seen_lists c.as_slice.result.now ≡ map (map command_text) programs = rw c.in-Some-2.is at c.in_ok-programs.ensures.texts in
    let commands : AllByRecursion (AllByRecursion IsCommand) programs = rw c.in-Some-2.is at c.in_ok-programs.ensures.commands in
    let turn_texts : seen_texts c.as_slice-2.result.now ≡ map turn_text c.in-Some-3.turns.items = rw c.in-Some-3.is at c.in_ok-turns.ensures.texts in
    let cpus : AllByRecursion (λ turn. turn.cpu < c.in-Some.sizes.config.cpus) c.in-Some-3.turns.items =
    rw (c.in-Some-3.is, c.cpus.ensures.count) at c.in_ok-turns.ensures.cpus in
    IsStatedBy-parts (stated_seen c.args.stated.now)
    c.in-Some.sizes programs c.in-Some-3.turns.items c.in-Some.ensures.found c.in-Some.ensures.version
    (rw c.as_slice.ensures.value at texts) commands (rw c.as_slice-2.ensures.value at turn_texts) cpus

pub new-requires : goal.new-requires
new-requires c = (stated_by c).is_scenario

pub returns-clause-scenario : goal.returns-clause-scenario
returns-clause-scenario c = subst (IsStatedBy (stated_seen c.args.stated.now)) (sym c.new.ensures) (stated_by c.before)
