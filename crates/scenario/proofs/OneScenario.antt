-- Bytes state one scenario at most.
use Rattle.std.proofs.Common.{◌≡◌, ◌<◌, ◌≤◌, ℕ, pos, ◌+◌, List, [], ◌∷◌, get_or, map, refl, sym, ap, ◌∙◌, arith}
use Rattle.std.specs.List.{AllByRecursion}
use Rattle.toml.specs.Data.{Members}
use Rattle.rmm_spec.specs.declared.command.Command.{Command}
use Rattle.rmm_spec.specs.CommandText.{IsCommand, command_parts, command_text}
use Rattle.rmm_spec.specs.Text.{parts_of}
use Rattle.spec_lemmas.proofs.Texts.{parts_of-line_text, command_parts-are_parts, command_parts-some, command_parts-injective}
use Rattle.rmm_spec.specs.declared.turn.Due.{Due}
use Rattle.rmm_spec.specs.declared.turn.Will.{Will}
use Rattle.rmm_spec.specs.declared.turn.Will.TheVariants.{Go, GiveUp, Stop}
use Rattle.rmm_spec.specs.declared.version.Version.{Version}
use Rattle.rmm_spec.specs.declared.version.Version.TheVariants.{One, Two, Large}
use Rattle.rmm_spec.specs.Scenario.{Stated, Scenario, IsStatedBy, turn_text, version_number, will_text}
use Rattle.scenario.specs.ScenarioText.{IsScenarioText, StatesScenario}
use Rattle.scenario.proofs.OneAnswer.{same_members, same_stated}
use Rattle.scenario.proofs.TurnTexts.{turn_text-digit}
use Rattle.lemmas.proofs.Tests.{keys_apart}

-- Values that each have a text of their own are told by their texts.
map-injective : {X Y : Type 0} (f : X → Y) (P : X → Type 0) → ((x y : X) → P x → P y → f x ≡ f y → x ≡ y)
    → (xs ys : List X) → AllByRecursion P xs → AllByRecursion P ys → map f xs ≡ map f ys → xs ≡ ys
map-injective f P apart [] [] all-x all-y same = refl
map-injective f P apart [] (y ∷ ys) all-x all-y same = absurd (cc)
map-injective f P apart (x ∷ xs) [] all-x all-y same = absurd (cc)
map-injective f P apart (x ∷ xs) (y ∷ ys) all-x all-y same =
    let heads : f x ≡ f y = cc in
    let tails : map f xs ≡ map f ys = cc in
    let first : x ≡ y = apart x y all-x.0 all-y.0 heads in
    let rest : xs ≡ ys = map-injective f P apart xs ys all-x.1 all-y.1 tails in
    cc

pos-injective : (m n : ℕ) → pos m ≡ pos n → m ≡ n
pos-injective m n same = cc

parts_of-command : (c : Command) → parts_of (command_text c) ≡ command_parts c
parts_of-command c = parts_of-line_text (command_parts c) (command_parts-some c) (command_parts-are_parts c)

command_text-injective : (c d : Command) → IsCommand c → IsCommand d → command_text c ≡ command_text d → c ≡ d
command_text-injective c d is-c is-d same = command_parts-injective c d (sym (parts_of-command c) ∙ ap parts_of same ∙ parts_of-command d)

will_text-injective : (v w : Will) → will_text v ≡ will_text w → v ≡ w
will_text-injective Go Go same = refl
will_text-injective GiveUp GiveUp same = refl
will_text-injective Stop Stop same = refl
will_text-injective Go GiveUp same = absurd (cc)
will_text-injective Go Stop same = absurd (cc)
will_text-injective GiveUp Go same = absurd (cc)
will_text-injective GiveUp Stop same = absurd (keys_apart 103 115 refl (ap (λ text. get_or text 1 0) same))
will_text-injective Stop Go same = absurd (cc)
will_text-injective Stop GiveUp same = absurd (keys_apart 115 103 refl (ap (λ text. get_or text 1 0) same))

turn_text-injective : (cpus : ℕ) → cpus ≤ 8 → (s t : Due) → s.cpu < cpus → t.cpu < cpus → turn_text s ≡ turn_text t → s ≡ t
turn_text-injective cpus few s t low-s low-t same =
    let texts : (s.cpu + 48) ∷ will_text s.will ≡ (t.cpu + 48) ∷ will_text t.will =
    sym (turn_text-digit s (omega arith)) ∙ same ∙ turn_text-digit t (omega arith) in
    let digits : s.cpu + 48 ≡ t.cpu + 48 = cc in
    let cpu : s.cpu ≡ t.cpu = omega arith in
    let will : s.will ≡ t.will = will_text-injective s.will t.will (cc) in
    λ i. record { cpu = cpu i; will = will i }

same_cpus : (stated : Stated) (s t : Scenario) → IsStatedBy stated s → IsStatedBy stated t → s.config.cpus ≡ t.config.cpus
same_cpus stated s t by-s by-t = pos-injective _ _ (sym by-s.cpus ∙ by-t.cpus)

version_number-injective : (v w : Version) → version_number v ≡ version_number w → v ≡ w
version_number-injective One One same = refl
version_number-injective One Two same = absurd (omega (arith, same))
version_number-injective Two One same = absurd (omega (arith, same))
version_number-injective Two Two same = refl
version_number-injective One Large same = absurd (omega (arith, same))
version_number-injective Two Large same = absurd (omega (arith, same))
version_number-injective Large One same = absurd (omega (arith, same))
version_number-injective Large Two same = absurd (omega (arith, same))
version_number-injective Large Large same = refl

same_version : (stated : Stated) (s t : Scenario) → IsStatedBy stated s → IsStatedBy stated t → s.config.version ≡ t.config.version
same_version stated s t by-s by-t = version_number-injective _ _ (pos-injective _ _ (sym by-s.version ∙ by-t.version))

same_turns : (stated : Stated) (s t : Scenario) → IsStatedBy stated s → IsStatedBy stated t → s.turns ≡ t.turns
same_turns stated s t by-s by-t =
    map-injective turn_text (λ turn. turn.cpu < s.config.cpus) (turn_text-injective s.config.cpus by-s.is_scenario.config.most_cpus) s.turns t.turns
    by-s.is_scenario.turns (rw (same_cpus stated s t by-s by-t) by-t.is_scenario.turns) (sym by-s.turns ∙ by-t.turns)

same_programs : (stated : Stated) (s t : Scenario) → IsStatedBy stated s → IsStatedBy stated t → s.programs ≡ t.programs
same_programs stated s t by-s by-t =
    map-injective (map command_text) (AllByRecursion IsCommand)
    (λ xs ys all-x all-y same. map-injective command_text IsCommand command_text-injective xs ys all-x all-y same) s.programs t.programs
    by-s.is_scenario.commands by-t.is_scenario.commands (sym by-s.programs ∙ by-t.programs)

-- What is stated is one scenario.
same_scenario : (stated : Stated) (s t : Scenario) → IsStatedBy stated s → IsStatedBy stated t → s ≡ t
same_scenario stated s t by-s by-t = λ i. record {
  config = record {
    granules = pos-injective _ _ (sym by-s.granules ∙ by-t.granules) i;
    cpus = same_cpus stated s t by-s by-t i;
    version = same_version stated s t by-s by-t i;
  };
  programs = same_programs stated s t by-s by-t i;
  queue = pos-injective _ _ (sym by-s.queue ∙ by-t.queue) i;
  turns = same_turns stated s t by-s by-t i;
  limit = pos-injective _ _ (sym by-s.limit ∙ by-t.limit) i;
}

one_of_table : (written : Members) (s t : Scenario) → StatesScenario written s → StatesScenario written t → s ≡ t
one_of_table written s t of-s of-t =
    same_scenario of-s.stated s t of-s.values (rw (same_stated written of-s.stated of-t.stated of-s.keys of-t.keys) of-t.values)

-- Bytes state one scenario at most.
pub one_scenario : (bytes : List ℕ) (s t : Scenario) → IsScenarioText bytes s → IsScenarioText bytes t → s ≡ t
one_scenario bytes s t text-s text-t =
    one_of_table text-s.members s t text-s.states
    (rw (same_members bytes text-s.members text-t.members text-s.document text-t.document) text-t.states)
