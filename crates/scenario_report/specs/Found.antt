-- What is found at fault in a document.
use Rattle.std.specs.Prelude.{◌≡◌, ◌≢◌, ◌≤◌, ◌⊎◌, pos, length, map, sum}
use Rattle.toml.specs.Data.{Members}
use Rattle.rmm_spec.specs.ScenarioKeys.{States}
use Rattle.scenario.specs.declared.keys.Stated.{Stated}
use Rattle.scenario.specs.TomlDocument.{document_of, toml_kinds}
use Rattle.scenario.specs.SeenTexts.{seen_lists, stated_seen}
use Rattle.scenario_report.specs.declared.flaw.Flaw.{Flaw}
use Rattle.scenario_report.specs.declared.flaw.Flaw.TheVariants as flaw
use Rattle.scenario_report.specs.declared.numbers.Numbers.{Numbers}
use Rattle.scenario_report.specs.Flaws.{IsKeyFlaw, IsRangeFlaw, IsCommandFlaw, IsTurnFlaw}

abbrev pub numbers_of : Stated → Numbers
numbers_of stated = record { granules = stated.granules; cpus = stated.cpus; queue = stated.queue; limit = stated.limit; version = stated.version }

-- There isn't one program for each CPU, or there are too many commands.
abbrev pub IsCountFlaw : Stated → Flaw → Type 0
IsCountFlaw stated (flaw.Programs cpus programs) = (cpus ≡ stated.cpus) × (programs ≡ length stated.programs.items) × (cpus ≢ pos programs)
IsCountFlaw stated flaw.Commands = ¬ (sum (map length (seen_lists stated.programs.items)) ≤ 499999)
IsCountFlaw stated _ = ⊥

-- what is stated has this flaw
abbrev pub IsStatedFlaw : Stated → Flaw → Type 0
IsStatedFlaw stated flaw =
    IsRangeFlaw (numbers_of stated) flaw ⊎ (IsCountFlaw stated flaw
    ⊎ (IsCommandFlaw stated.programs.items flaw ⊎ IsTurnFlaw (length stated.programs.items) stated.turns.items flaw))

-- The document has this flaw, in its keys or in what it states.
abbrev pub IsFlawOf : Members → Flaw → Type 0
IsFlawOf written flaw =
    IsKeyFlaw toml_kinds (document_of written) flaw
    ⊎ ((stated : Stated) × States toml_kinds (document_of written) (stated_seen stated) × IsStatedFlaw stated flaw)
