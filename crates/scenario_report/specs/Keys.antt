-- The keys of a scenario: what each is called, whether it has to be there, and what it may hold.
use Rattle.std.specs.Prelude.{ℕ, Bool, true, false, not, ◌&&◌, List, codes, is_some}
use Rattle.rmm_spec.specs.declared.version.Version.TheVariants.{One}
use Rattle.rmm_spec.specs.HistoryText.{granule_limit}
use Rattle.rmm_spec.specs.ScenarioKeys.{Document, Kinds, is_key, texts, lists_of_texts}
use Rattle.scenario_report.specs.declared.key.Key.{Key}
use Rattle.scenario_report.specs.declared.key.Key.TheVariants as key
use Rattle.scenario_report.specs.declared.key.Number.{Number}
use Rattle.scenario_report.specs.declared.key.Number.TheVariants as number

abbrev pub number_name : Number → List ℕ
number_name number.Granules = codes "granules"
number_name number.Cpus = codes "cpus"
number_name number.Queue = codes "queue"
number_name number.Limit = codes "limit"
number_name number.Version = codes "version"

abbrev pub key_name : Key → List ℕ
key_name (key.Number n) = number_name n
key_name key.Programs = codes "programs"
key_name key.Turns = codes "turns"

abbrev pub most : Number → ℕ
most number.Granules = granule_limit One
most number.Cpus = 8
most number.Queue = 65536
most number.Limit = 10000000
most number.Version = 2

abbrev pub is_needed : Key → Bool
is_needed (key.Number number.Granules) = true
is_needed (key.Number number.Cpus) = true
is_needed key.Programs = true
is_needed _ = false

-- the value is of the kind that the key holds
abbrev pub fits : {Value : Type 0} → Kinds Value → Key → Value → Bool
fits kinds (key.Number n) value = is_some (kinds.whole value)
fits kinds key.Programs value = is_some (lists_of_texts kinds value)
fits kinds key.Turns value = is_some (texts kinds value)

-- Something stands at the key, and a scenario doesn't have it.
abbrev pub is_unknown : {Value : Type 0} → List ℕ → Document Value → Bool
is_unknown key document = is_some (document.value_at key) && not (is_key key)
