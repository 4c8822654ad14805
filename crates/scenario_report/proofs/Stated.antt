-- What is at fault in what a document states is at fault in the document.
use Rattle.std.proofs.Common.{Option, Some, None, IfSome, inr}
use Rattle.toml.specs.Data.{Members}
use Rattle.rmm_spec.specs.ScenarioKeys.{States}
use Rattle.scenario.specs.declared.keys.Stated.{Stated}
use Rattle.scenario.specs.SeenTexts.{stated_seen}
use Rattle.scenario.specs.TomlDocument.{document_of, toml_kinds}
use Rattle.scenario_report.specs.declared.flaw.Flaw.{Flaw}
use Rattle.scenario_report.specs.Found.{IsFlawOf, IsStatedFlaw}

pub flaw_of_document : (written : Members) (stated : Stated) (found : Option Flaw) → States toml_kinds (document_of written) (stated_seen stated)
    → IfSome found (IsStatedFlaw stated) → IfSome found (IsFlawOf written)
flaw_of_document written stated None keys h = tt
flaw_of_document written stated (Some flaw) keys h = inr (stated, keys, h)
