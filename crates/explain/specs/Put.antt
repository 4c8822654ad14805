-- The step that put there the one of many which a fact names.
use Rattle.std.specs.Prelude.{◌≡◌, ℕ, false, List, min}
use Rattle.rmm_spec.specs.declared.line.Line.{Line}
use Rattle.rmm_spec.specs.declared.tag.Tag.TheVariants.{Delegated}
use Rattle.rmm_spec.specs.HistoryText.{History}
use Rattle.reasons.specs.declared.test.Test.{Test}
use Rattle.reasons.specs.declared.test.Test.TheVariants as test
use Rattle.reasons.specs.declared.test.WalkTest.{WalkTest}
use Rattle.reasons.specs.declared.explanation.Deciding.{Deciding}
use Rattle.reasons.specs.declared.explanation.Deciding.TheVariants as deciding
use Rattle.reasons.specs.declared.facts.Fact.TheVariants as fact
use Rattle.reasons.specs.declared.named_call.EarlierStep.{EarlierStep}
use Rattle.reasons.specs.declared.since.Since.TheVariants as since
use Rattle.explain.specs.declared.watch.Watch.TheVariants as watch
use Rattle.explain.specs.Watch.{IsSince}

-- what fails as long as the one that is named is there: its granule isn't delegated, or the entry is otherwise
abbrev pub IsPutTest : Deciding → Test → Type 0
IsPutTest (deciding.Condition (fact.RecLeft rd rec)) t = t ≡ test.Tagged rec Delegated
IsPutTest (deciding.Condition (fact.InUse rd ipa read)) t = (asked : WalkTest) × (t ≡ test.OfWalk rd ipa (min read.level 3) asked)
IsPutTest _ t = ⊥

-- it turned at the step
abbrev pub IsPut : History → List Line → ℕ → Deciding → EarlierStep → Type 0
IsPut history lines index decides put =
    (t : Test) × IsPutTest decides t × IsSince history lines index (watch.Condition t false) (since.Turned put)
