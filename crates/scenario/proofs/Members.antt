-- The document of a scenario: what it states, that it is shallow and without dates, and how a map becomes it.
use Rattle.std.proofs.Common.{◌≡◌, ℕ, ◌≤◌, pos, true, List, [], ◌∷◌, map, Some, String, Global, Ordering, Less, Equal, Greater, string_bytes, IsUtf8, refl, ap, ◌∙◌, arith, lit≤}
use Rattle.std.specs.BTreeMap.{insert_entry}
use Rattle.std.specs.Ordering.{match_ordering}
use Rattle.std.specs.String.{string_cmp}
use Rattle.std.proofs.lemmas.Str.{is_utf8-from_IsUtf8}
use Rattle.toml.specs.Data.{string, items_depth, members_depth, items_have_valid_dates, members_have_valid_dates, Members, as_str}
use Rattle.toml.specs.Parse.{parse_document}
use Rattle.toml.specs.View.{view, items_of, members_view}
use Rattle.toml.specs.declared.value.Value.{Value}
use Rattle.rmm_spec.specs.declared.command.Command.{Command}
use Rattle.rmm_spec.specs.CommandText.{command_text}
use Rattle.rmm_spec.specs.Scenario.{Scenario, Stated, IsScenario, turn_text, version_number}
use Rattle.rmm_spec.specs.ScenarioKeys.{each_value, texts}
use Rattle.scenario.specs.ScenarioText.{StatesScenario, IsScenarioText}
use Rattle.scenario.specs.TomlDocument.{items_in, toml_kinds}
use Rattle.scenario.specs.Written.{program_data, with_member, scenario_members}

-- ---- a map

abbrev Entry : Type 0
Entry = String Global × Value

match_members : (o : Ordering) (a b c : List Entry)
    → members_view (match_ordering o a b c) ≡ match_ordering o (members_view a) (members_view b) (members_view c)
match_members Less a b c = refl
match_members Equal a b c = refl
match_members Greater a b c = refl

-- what an insert leaves of the members
pub members_view-insert_entry : (es : List Entry) (key : String Global) (value : Value)
    → members_view (insert_entry string_cmp es key value) ≡ with_member (string_bytes key) (view value) (members_view es)
members_view-insert_entry [] key value = refl
members_view-insert_entry (e ∷ es) key value = match_members (string_cmp key e.0) _ _ _ ∙ rw (members_view-insert_entry es key value)

-- ---- what is read from arrays of texts

texts-data : (xs : List (List ℕ)) → each_value as_str (items_in (items_of (map string xs))) ≡ Some xs
texts-data [] = refl
texts-data (x ∷ xs) = rw (texts-data xs)

lists_of_texts-data : (programs : List (List Command))
    → each_value (texts toml_kinds) (items_in (items_of (map program_data programs))) ≡ Some (map (map command_text) programs)
lists_of_texts-data [] = refl
lists_of_texts-data (program ∷ programs) = rw (lists_of_texts-data programs, texts-data (map command_text program))

-- ---- depth and dates

texts-depth : (xs : List (List ℕ)) → items_depth (items_of (map string xs)) ≡ 0
texts-depth [] = refl
texts-depth (x ∷ xs) = rw (texts-depth xs)

programs-depth : (programs : List (List Command)) → items_depth (items_of (map program_data programs)) ≤ 1
programs-depth [] = lit≤ tt
programs-depth (program ∷ programs) = rw (texts-depth (map command_text program)) (grind (arith, programs-depth programs))

texts-dates : (xs : List (List ℕ)) → items_have_valid_dates (items_of (map string xs)) ≡ true
texts-dates [] = refl
texts-dates (x ∷ xs) = texts-dates xs

programs-dates : (programs : List (List Command)) → items_have_valid_dates (items_of (map program_data programs)) ≡ true
programs-dates [] = refl
programs-dates (program ∷ programs) = rw (texts-dates (map command_text program), programs-dates programs)

pub scenario_members-depth : (scenario : Scenario) → members_depth (scenario_members scenario) ≤ 80
scenario_members-depth scenario =
    rw (texts-depth (map turn_text scenario.turns)) (grind (arith, programs-depth scenario.programs))

pub scenario_members-dates : (scenario : Scenario) → members_have_valid_dates (scenario_members scenario) ≡ true
scenario_members-dates scenario = rw (programs-dates scenario.programs, texts-dates (map turn_text scenario.turns))

-- ---- what the document states, and the bytes that are one

stated_of : Scenario → Stated
stated_of scenario = record {
  granules = pos scenario.config.granules;
  cpus = pos scenario.config.cpus;
  programs = map (map command_text) scenario.programs;
  queue = pos scenario.queue;
  turns = map turn_text scenario.turns;
  limit = pos scenario.limit;
  version = pos (version_number scenario.config.version);
}

pub StatesScenario-members : (scenario : Scenario) → IsScenario scenario → StatesScenario (scenario_members scenario) scenario
unfolding stated_of
StatesScenario-members scenario is = record {
  stated = stated_of scenario;
  keys = record {
    known = refl;
    granules = refl;
    cpus = refl;
    programs = lists_of_texts-data scenario.programs;
    queue = refl;
    turns = texts-data (map turn_text scenario.turns);
    limit = refl;
    version = refl;
  };
  values = record {
    is_scenario = is;
    granules = refl;
    cpus = refl;
    programs = refl;
    queue = refl;
    turns = refl;
    limit = refl;
    version = refl;
  };
}

-- Bytes that are read as the document state the scenario.
pub IsScenarioText-members : (bytes : List ℕ) (written : Members) (scenario : Scenario) → IsUtf8 bytes → parse_document bytes ≡ Some written
    → written ≡ scenario_members scenario → IsScenario scenario → IsScenarioText bytes scenario
IsScenarioText-members bytes written scenario utf8 parsed same is = record {
  members = scenario_members scenario;
  document = rw (is_utf8-from_IsUtf8 bytes utf8) (parsed ∙ ap Some same);
  states = StatesScenario-members scenario is;
}
