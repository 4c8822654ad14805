-- From the fault of a part to the fault of the whole.
use Rattle.std.proofs.Common.{◌≡◌, ◌≢◌, ℕ, Bool, true, false, if◌then◌else◌, List, Some, None, IsUtf8, refl, sym, ◌∙◌}
use Rattle.std.specs.Str.{is_utf8}
use Rattle.std.proofs.lemmas.Option.{same_Some}
use Rattle.std.proofs.lemmas.Str.{IsUtf8-from_is_utf8, is_utf8-from_IsUtf8}
use Rattle.toml.specs.Data.{Members, no_members}
use Rattle.toml.specs.Errors.{IsBlank}
use Rattle.toml.specs.Parse.{parse_document, lines}
use Rattle.scenario.specs.declared.fault.ScenarioFault.{ScenarioFault}
use Rattle.scenario.specs.declared.fault.ScenarioFault.TheVariants.{NoDocument, WrongKey, OutOfRange, NoCommand, NoTurn, NoMemory}
use Rattle.rmm_spec.specs.Scenario.{Scenario}
use Rattle.scenario.specs.ScenarioText.{document_in, StatesScenario, IsScenarioText, IsTableFault, IsFirstFault}

-- Texts are documents as the crate `toml` reads them.
pub document_in-utf8 : (bytes : List ℕ) → IsUtf8 bytes → document_in bytes ≡ parse_document bytes
document_in-utf8 bytes utf8 = rw (is_utf8-from_IsUtf8 bytes utf8) refl

pub document_in-none : (bytes : List ℕ) → (IsUtf8 bytes → parse_document bytes ≡ None) → document_in bytes ≡ None
document_in-none bytes refused = either (is_utf8 bytes) refl
  where
    either : (b : Bool) → is_utf8 bytes ≡ b → (if b then parse_document bytes else None) ≡ None
    either true utf8 = refused (IsUtf8-from_is_utf8 bytes utf8)
    either false other = refl

-- Blank bytes are the document of the empty table.
parse_document-blank : (bytes : List ℕ) → IsBlank bytes → parse_document bytes ≡ Some no_members
unfolding parse_document lines
parse_document-blank bytes blank = rw blank refl

-- Bytes whose document has a key aren't blank.
not_blank : (bytes : List ℕ) (written : Members) → parse_document bytes ≡ Some written → written ≢ no_members → ¬ IsBlank bytes
not_blank bytes written document some blank = some (same_Some _ _ (sym document ∙ parse_document-blank bytes blank))

-- Bytes state what their document's table states.
pub IsScenarioText-table : (bytes : List ℕ) (written : Members) (scenario : Scenario)
    → IsUtf8 bytes → parse_document bytes ≡ Some written → StatesScenario written scenario → IsScenarioText bytes scenario
IsScenarioText-table bytes written scenario utf8 parsed states =
    record { members = written; document = document_in-utf8 bytes utf8 ∙ parsed; states = states }

-- A fault of the table is one of the bytes that are its document.
pub IsFirstFault-table : (fault : ScenarioFault) (bytes : List ℕ) (written : Members)
    → IsUtf8 bytes → parse_document bytes ≡ Some written → IsTableFault fault written → IsFirstFault fault bytes
IsFirstFault-table NoDocument bytes written utf8 parsed has = absurd has
IsFirstFault-table WrongKey bytes written utf8 parsed has = record { members = written; document = document_in-utf8 bytes utf8 ∙ parsed; has = has }
IsFirstFault-table OutOfRange bytes written utf8 parsed has = record { members = written; document = document_in-utf8 bytes utf8 ∙ parsed; has = has }
IsFirstFault-table NoCommand bytes written utf8 parsed has = record { members = written; document = document_in-utf8 bytes utf8 ∙ parsed; has = has }
IsFirstFault-table NoTurn bytes written utf8 parsed has = record { members = written; document = document_in-utf8 bytes utf8 ∙ parsed; has = has }
IsFirstFault-table NoMemory bytes written utf8 parsed has = (utf8, not_blank bytes written parsed has)
