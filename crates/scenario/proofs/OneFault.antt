-- Bytes have one first fault.
use Rattle.std.proofs.Common.{◌≡◌, ◌≢◌, ℕ, List, Some, None, refl, sym, ◌∙◌, ◌⊎◌, inl, inr}
use Rattle.toml.specs.Data.{Members}
use Rattle.scenario.specs.declared.fault.ScenarioFault.{ScenarioFault}
use Rattle.scenario.specs.declared.fault.ScenarioFault.TheVariants.{NoDocument, WrongKey, OutOfRange, NoCommand, NoTurn, NoMemory}
use Rattle.rmm_spec.specs.Scenario.{Stated}
use Rattle.rmm_spec.specs.ScenarioKeys.{States}
use Rattle.scenario.specs.TomlDocument.{toml_kinds, document_of}
use Rattle.scenario.specs.ScenarioText.{document_in, IsValueFault, IsTableFault, IsFirstFault, HasValueFault, HasTableFault}
use Rattle.scenario.proofs.OneAnswer.{same_members, same_stated}

-- The faults of values come in this order: each is told where those before it don't apply.
one_value_fault : (f g : ScenarioFault) (stated : Stated) → f ≢ NoMemory → g ≢ NoMemory → IsValueFault f stated → IsValueFault g stated → f ≡ g
one_value_fault OutOfRange OutOfRange stated some-f some-g has-f has-g = refl
one_value_fault NoCommand NoCommand stated some-f some-g has-f has-g = refl
one_value_fault NoTurn NoTurn stated some-f some-g has-f has-g = refl
one_value_fault OutOfRange NoCommand stated some-f some-g has-f has-g = absurd (has-f has-g.0)
one_value_fault OutOfRange NoTurn stated some-f some-g has-f has-g = absurd (has-f has-g.0)
one_value_fault NoCommand OutOfRange stated some-f some-g has-f has-g = absurd (has-g has-f.0)
one_value_fault NoTurn OutOfRange stated some-f some-g has-f has-g = absurd (has-g has-f.0)
one_value_fault NoCommand NoTurn stated some-f some-g has-f has-g = absurd (has-f.1 has-g.1)
one_value_fault NoTurn NoCommand stated some-f some-g has-f has-g = absurd (has-g.1 has-f.1)
one_value_fault NoMemory g stated some-f some-g has-f has-g = absurd (some-f refl)
one_value_fault NoDocument g stated some-f some-g has-f has-g = absurd has-f
one_value_fault WrongKey g stated some-f some-g has-f has-g = absurd has-f
one_value_fault f NoMemory stated some-f some-g has-f has-g = absurd (some-g refl)
one_value_fault f NoDocument stated some-f some-g has-f has-g = absurd has-g
one_value_fault f WrongKey stated some-f some-g has-f has-g = absurd has-g

-- a fault of the keys, or one of the values
abbrev TableCases : ScenarioFault → Members → Type 0
TableCases f written = ((f ≡ WrongKey) × ((stated : Stated) → ¬ States toml_kinds (document_of written) stated)) ⊎ HasValueFault f written

table_cases : (f : ScenarioFault) (written : Members) → f ≢ NoMemory → IsTableFault f written → TableCases f written
table_cases WrongKey written some has = inl (refl, has)
table_cases OutOfRange written some has = inr has
table_cases NoCommand written some has = inr has
table_cases NoTurn written some has = inr has
table_cases NoMemory written some has = absurd (some refl)
table_cases NoDocument written some has = absurd has

one_of_cases : (f g : ScenarioFault) (written : Members) → f ≢ NoMemory → g ≢ NoMemory → TableCases f written → TableCases g written → f ≡ g
one_of_cases f g written some-f some-g (inl a) (inl b) = a.0 ∙ sym b.0
one_of_cases f g written some-f some-g (inl a) (inr b) = absurd (a.1 b.stated b.keys)
one_of_cases f g written some-f some-g (inr a) (inl b) = absurd (b.1 a.stated a.keys)
one_of_cases f g written some-f some-g (inr a) (inr b) =
    one_value_fault f g a.stated some-f some-g a.has (rw (same_stated written a.stated b.stated a.keys b.keys) b.has)

-- no document, or a fault of its table
abbrev FirstCases : ScenarioFault → List ℕ → Type 0
FirstCases f bytes = ((f ≡ NoDocument) × (document_in bytes ≡ None)) ⊎ HasTableFault f bytes

first_cases : (f : ScenarioFault) (bytes : List ℕ) → f ≢ NoMemory → IsFirstFault f bytes → FirstCases f bytes
first_cases NoDocument bytes some has = inl (refl, has)
first_cases WrongKey bytes some has = inr has
first_cases OutOfRange bytes some has = inr has
first_cases NoCommand bytes some has = inr has
first_cases NoTurn bytes some has = inr has
first_cases NoMemory bytes some has = absurd (some refl)

one_of_first : (f g : ScenarioFault) (bytes : List ℕ) → f ≢ NoMemory → g ≢ NoMemory → FirstCases f bytes → FirstCases g bytes → f ≡ g
one_of_first f g bytes some-f some-g (inl a) (inl b) = a.0 ∙ sym b.0
one_of_first f g bytes some-f some-g (inl a) (inr b) = absurd (let bad : None ≡ Some b.members = sym a.1 ∙ b.document in cc)
one_of_first f g bytes some-f some-g (inr a) (inl b) = absurd (let bad : None ≡ Some a.members = sym b.1 ∙ a.document in cc)
one_of_first f g bytes some-f some-g (inr a) (inr b) =
    let has : IsTableFault g a.members = rw (same_members bytes a.members b.members a.document b.document) b.has in
    one_of_cases f g a.members some-f some-g (table_cases f a.members some-f a.has) (table_cases g a.members some-g has)

-- Two faults but that memory was refused are the same.
pub one_fault : (f g : ScenarioFault) (bytes : List ℕ) → f ≢ NoMemory → g ≢ NoMemory → IsFirstFault f bytes → IsFirstFault g bytes → f ≡ g
one_fault f g bytes some-f some-g has-f has-g =
    one_of_first f g bytes some-f some-g (first_cases f bytes some-f has-f) (first_cases g bytes some-g has-g)
