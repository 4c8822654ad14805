-- Lists of texts and what they are the texts of.
use Rattle.std.proofs.Common.{◌≡◌, ◌<◌, pos, IsTrue, List, [], ◌∷◌, length, map, sum, refl, sym, ap, ◌∙◌, lit≤}
use Rattle.std.specs.List.{AllByRecursion}
use Rattle.std.proofs.lemmas.List.{length-map}
use Rattle.rmm_spec.specs.declared.command.Command.{Command}
use Rattle.rmm_spec.specs.CommandText.{IsCommand, command_text}
use Rattle.scenario.specs.declared.limits.Sizes.{Sizes}
use Rattle.rmm_spec.specs.declared.turn.Due.{Due}
use Rattle.rmm_spec.specs.declared.version.Version.{Version}
use Rattle.rmm_spec.specs.declared.version.Version.TheVariants.{One, Two, Large}
use Rattle.rmm_spec.specs.Scenario.{Stated, IsStatedBy, AreInRange, IsBetween, IsCommandText, is_numbered, turn_text, version_number}
use Rattle.rmm_spec.specs.HistoryText.{Config, IsConfig, granule_limit}
use Rattle.lemmas.proofs.Tests.{both_ways}
use Rattle.scenario.specs.Sizes.{AreSizes}

-- The texts of commands can be read.
pub IsCommandText-each : (commands : List Command) → AllByRecursion IsCommand commands → AllByRecursion IsCommandText (map command_text commands)
IsCommandText-each [] all = tt
IsCommandText-each (command ∷ commands) all = ((command, all.0, refl), IsCommandText-each commands all.1)

pub IsCommandText-all : (programs : List (List Command))
    → AllByRecursion (AllByRecursion IsCommand) programs → AllByRecursion (AllByRecursion IsCommandText) (map (map command_text) programs)
IsCommandText-all [] all = tt
IsCommandText-all (program ∷ programs) all = (IsCommandText-each program all.0, IsCommandText-all programs all.1)

-- There are as many texts as commands.
pub lengths-texts : (programs : List (List Command)) → map length (map (map command_text) programs) ≡ map length programs
lengths-texts [] = refl
lengths-texts (program ∷ programs) = λ i. length-map program command_text i ∷ lengths-texts programs i

-- A scenario's version has one of the numbers.
pub version_number-between : (version : Version) → IsTrue (is_numbered version) → IsBetween 1 2 (pos (version_number version))
version_number-between One is = (lit≤ tt, lit≤ tt)
version_number-between Two is = (lit≤ tt, lit≤ tt)
version_number-between Large is = absurd (both_ways is refl)

-- Those versions have one limit of granules.
pub numbered-limit : (version : Version) → IsTrue (is_numbered version) → granule_limit version ≡ granule_limit One
numbered-limit One is = refl
numbered-limit Two is = refl
numbered-limit Large is = absurd (both_ways is refl)

-- A scenario's machine is within the limit of scenarios.
pub granules-between : (config : Config)
    → IsConfig config → IsTrue (is_numbered config.version) → IsBetween 1 (granule_limit One) (pos config.granules)
granules-between config is numbered = (is.some_granules, rw (← numbered-limit config.version numbered) is.most_granules)

-- Numbers that are held as they are stated are in range.
pub AreInRange-sizes : (stated : Stated) (sizes : Sizes) → AreSizes stated sizes → stated.version ≡ pos (version_number sizes.config.version)
    → AreInRange stated
AreInRange-sizes stated sizes are version = record {
  granules = rw are.numbers.granules (granules-between sizes.config are.numbers.config are.numbers.numbered);
  cpus = rw are.numbers.cpus (are.numbers.config.some_cpus, are.numbers.config.most_cpus);
  programs = are.numbers.cpus ∙ ap pos (sym are.programs);
  few = are.few;
  queue = rw are.numbers.queue are.numbers.queue_within;
  limit = rw are.numbers.limit are.numbers.limit_within;
  version = rw version (version_number-between sizes.config.version are.numbers.numbered);
}

-- What is stated is the scenario of the numbers, commands and turns that are read from it.
pub IsStatedBy-parts : (stated : Stated) (sizes : Sizes) (programs : List (List Command)) (turns : List Due) → AreSizes stated sizes
    → stated.version ≡ pos (version_number sizes.config.version)
    → stated.programs ≡ map (map command_text) programs → AllByRecursion (AllByRecursion IsCommand) programs
    → stated.turns ≡ map turn_text turns → AllByRecursion (λ turn. turn.cpu < sizes.config.cpus) turns
    → IsStatedBy stated (record { config = sizes.config; programs = programs; queue = sizes.queue; turns = turns; limit = sizes.limit })
IsStatedBy-parts stated sizes programs turns are version texts commands turn_texts cpus = record {
  is_scenario = record {
    config = are.numbers.config;
    version = are.numbers.numbered;
    programs = sym (length-map programs (map command_text)) ∙ ap length (sym texts) ∙ are.programs;
    commands = commands;
    few = rw (ap (λ lists. sum (map length lists)) texts ∙ ap sum (lengths-texts programs)) at are.few;
    queue = are.numbers.queue_within;
    turns = cpus;
    limit = are.numbers.limit_within;
  };
  granules = are.numbers.granules;
  cpus = are.numbers.cpus;
  programs = texts;
  queue = are.numbers.queue;
  turns = turn_texts;
  limit = are.numbers.limit;
  version = version;
}
