-- Four files, worked by the definitions: one that states a scenario, one without a key, one with a turn of no CPU, and a blank one.
use Rattle.std.proofs.Common.{◌≡◌, ℕ, pos, List, [], ◌∷◌, codes, Some, None, refl, ◌∙◌, arith, lit<, lit≤}
use Rattle.toml.specs.Data.{Members, no_members, member, no_items, item, integer, string, array}
use Rattle.toml.specs.Errors.{IsBlank}
use Rattle.toml.specs.Parse.{parse_document}
use Rattle.toml.proofs.OnLiterals.{toml_on_literals}
use Rattle.rmm_spec.specs.declared.command.Command.{Command}
use Rattle.rmm_spec.specs.declared.function_id.FunctionId.TheVariants.{GranuleDelegate}
use Rattle.rmm_spec.specs.CommandText.{IsCommand, command_parts, command_text}
use Rattle.rmm_spec.specs.Function.{number_of, word_count}
use Rattle.rmm_spec.specs.Text.{numeral, decimal, word, fixed_hex}
use Rattle.scenario.specs.declared.fault.ScenarioFault.TheVariants.{WrongKey, NoTurn, NoMemory}
use Rattle.rmm_spec.specs.declared.turn.Will.TheVariants.{Go, Stop}
use Rattle.rmm_spec.specs.declared.version.Version.TheVariants.{One}
use Rattle.rmm_spec.specs.Scenario.{Stated, Scenario, IsScenario, IsTurnText, AreInRange, turn_text}
use Rattle.rmm_spec.specs.ScenarioKeys.{States}
use Rattle.scenario.specs.TomlDocument.{toml_kinds, document_of}
use Rattle.scenario.specs.ScenarioText.{document_in, IsScenarioText, IsFirstFault}
use Rattle.scenario.proofs.Faults.{document_in-utf8}
use Rattle.scenario.proofs.TurnTexts.{BeginsWith-turn}

-- ---- a scenario

abbrev stopping_text : List ℕ
stopping_text = codes "granules = 4\ncpus = 2\nprograms = [['c4000151 1000'], []]\nturns = ['1', '0 stop']\n"

abbrev stopping_members : Members
stopping_members =
    member (codes "cpus") (integer (pos 2))
    (member (codes "granules") (integer (pos 4))
    (member (codes "programs") (array (item (array (item (string (codes "c4000151 1000")) no_items)) (item (array no_items) no_items)))
    (member (codes "turns") (array (item (string (codes "1")) (item (string (codes "0 stop")) no_items))) no_members)))

abbrev stopping_stated : Stated
stopping_stated = record {
  granules = pos 4;
  cpus = pos 2;
  programs = (codes "c4000151 1000" ∷ []) ∷ [] ∷ [];
  queue = pos 4096;
  turns = codes "1" ∷ codes "0 stop" ∷ [];
  limit = pos 1000000;
  version = pos 1;
}

abbrev delegate : Command
delegate = record { function = GranuleDelegate; words = record { items = 0x1000 ∷ [] } }

abbrev stopping : Scenario
stopping = record {
  config = record { granules = 4; cpus = 2; version = One };
  programs = (delegate ∷ []) ∷ [] ∷ [];
  queue = 4096;
  turns = record { cpu = 1; will = Go } ∷ record { cpu = 0; will = Stop } ∷ [];
  limit = 1000000;
}

parse_document-stopping : parse_document stopping_text ≡ Some stopping_members
unfolding toml_on_literals
parse_document-stopping = refl

document_in-stopping : document_in stopping_text ≡ Some stopping_members
unfolding lib.Utf8.encode
document_in-stopping = document_in-utf8 stopping_text (stopping_text, (refl, refl)) ∙ parse_document-stopping

States-stopping : States toml_kinds (document_of stopping_members) stopping_stated
States-stopping = record { known = refl; granules = refl; cpus = refl; programs = refl; queue = refl; turns = refl; limit = refl; version = refl }

IsCommand-delegate : IsCommand delegate
unfolding word_count
IsCommand-delegate = record { counted = refl; words = (lit< tt, tt) }

command_text-delegate : command_text delegate ≡ codes "c4000151 1000"
unfolding command_parts fixed_hex word numeral number_of
command_text-delegate = refl

turn_texts-stopping : (turn_text (record { cpu = 1; will = Go }) ≡ codes "1") × (turn_text (record { cpu = 0; will = Stop }) ≡ codes "0 stop")
unfolding decimal numeral
turn_texts-stopping = (refl, refl)

IsScenario-stopping : IsScenario stopping
IsScenario-stopping = record {
  config = record { some_granules = lit≤ tt; most_granules = lit≤ tt; some_cpus = lit≤ tt; most_cpus = lit≤ tt };
  version = refl;
  programs = refl;
  commands = ((IsCommand-delegate, tt), (tt, tt));
  few = lit≤ tt;
  queue = (lit≤ tt, lit≤ tt);
  turns = (lit< tt, (lit< tt, tt));
  limit = (lit≤ tt, lit≤ tt);
}

-- A CPU calls, and the other one stops.
pub IsScenarioText-stopping : IsScenarioText stopping_text stopping
IsScenarioText-stopping = record {
  members = stopping_members;
  document = document_in-stopping;
  states = record {
    stated = stopping_stated;
    keys = States-stopping;
    values = record {
      is_scenario = IsScenario-stopping;
      granules = refl;
      cpus = refl;
      programs = rw command_text-delegate refl;
      queue = refl;
      turns = rw (turn_texts-stopping.0, turn_texts-stopping.1) refl;
      limit = refl;
      version = refl;
    };
  };
}

-- ---- a key that is missing

abbrev no_cpus_text : List ℕ
no_cpus_text = codes "granules = 4097\nprograms = []\n"

abbrev no_cpus_members : Members
no_cpus_members = member (codes "granules") (integer (pos 4097)) (member (codes "programs") (array no_items) no_members)

parse_document-no_cpus : parse_document no_cpus_text ≡ Some no_cpus_members
unfolding toml_on_literals
parse_document-no_cpus = refl

document_in-no_cpus : document_in no_cpus_text ≡ Some no_cpus_members
unfolding lib.Utf8.encode
document_in-no_cpus = document_in-utf8 no_cpus_text (no_cpus_text, (refl, refl)) ∙ parse_document-no_cpus

-- That the key `cpus` is missing is told before the number that is out of range.
pub IsFirstFault-no_cpus : IsFirstFault WrongKey no_cpus_text
IsFirstFault-no_cpus = record {
  members = no_cpus_members;
  document = document_in-no_cpus;
  has = λ stated keys. absurd (let missing : None ≡ Some stated.cpus = keys.cpus in cc);
}

-- ---- a turn of a CPU that isn't there

abbrev third_cpu_text : List ℕ
third_cpu_text = codes "granules = 4\ncpus = 2\nprograms = [[], []]\nturns = ['2']\n"

abbrev third_cpu_members : Members
third_cpu_members =
    member (codes "cpus") (integer (pos 2))
    (member (codes "granules") (integer (pos 4))
    (member (codes "programs") (array (item (array no_items) (item (array no_items) no_items)))
    (member (codes "turns") (array (item (string (codes "2")) no_items)) no_members)))

abbrev third_cpu_stated : Stated
third_cpu_stated = record {
  granules = pos 4;
  cpus = pos 2;
  programs = [] ∷ [] ∷ [];
  queue = pos 4096;
  turns = codes "2" ∷ [];
  limit = pos 1000000;
  version = pos 1;
}

parse_document-third_cpu : parse_document third_cpu_text ≡ Some third_cpu_members
unfolding toml_on_literals
parse_document-third_cpu = refl

document_in-third_cpu : document_in third_cpu_text ≡ Some third_cpu_members
unfolding lib.Utf8.encode
document_in-third_cpu = document_in-utf8 third_cpu_text (third_cpu_text, (refl, refl)) ∙ parse_document-third_cpu

not_turn : ¬ IsTurnText 2 (codes "2")
not_turn (turn, low, same) = let begun = BeginsWith-turn (codes "2") turn (omega arith) same in omega (arith, begun.digit)

AreInRange-third_cpu : AreInRange third_cpu_stated
AreInRange-third_cpu = record {
  granules = (lit≤ tt, lit≤ tt);
  cpus = (lit≤ tt, lit≤ tt);
  programs = refl;
  few = lit≤ tt;
  queue = (lit≤ tt, lit≤ tt);
  limit = (lit≤ tt, lit≤ tt);
  version = (lit≤ tt, lit≤ tt);
}

-- The turn of CPU 2 can't be read where there are two.
pub IsFirstFault-third_cpu : IsFirstFault NoTurn third_cpu_text
IsFirstFault-third_cpu = record {
  members = third_cpu_members;
  document = document_in-third_cpu;
  has = record {
    stated = third_cpu_stated;
    keys = record { known = refl; granules = refl; cpus = refl; programs = refl; queue = refl; turns = refl; limit = refl; version = refl };
    has = (AreInRange-third_cpu, (tt, (tt, tt)), λ all. not_turn all.0);
  };
}

-- ---- white space and a comment

IsBlank-comment : IsBlank (codes " \n# no keys\n")
unfolding toml_on_literals
IsBlank-comment = refl

-- Nobody is told of memory that was refused to it.
pub not_memory-comment : ¬ IsFirstFault NoMemory (codes " \n# no keys\n")
not_memory-comment (utf8, some) = some IsBlank-comment
