-- The parts of a history's lines.
use Rattle.std.specs.Prelude.{◌≡◌, ℕ, ◌<◌, List}
use Rattle.rmm_spec.specs.HistoryText.{Config, IsConfig, IsEvent, config_parts, event_parts}
use Rattle.rmm_spec.specs.declared.event.Event.{Event}
use Rattle.rmm_spec.specs.declared.event.Event.TheVariants.{Called, Returned}

-- the parts are those of the header of such machines
pub record IsHeaderOf (parts : List (List ℕ)) (config : Config) : Type 0 where
  pub is_config : IsConfig config
  pub spelled : parts ≡ config_parts config

abbrev pub IsNoHeader : List (List ℕ) → Type 0
IsNoHeader parts = (config : Config) → IsHeaderOf parts config → ⊥

-- the number of an event's call
abbrev pub call_number : Event → ℕ
call_number (Called cpu number command) = number
call_number (Returned cpu number given) = number

-- the parts are those of the event, on a machine of so many CPUs
pub record IsEventOf (cpus : ℕ) (parts : List (List ℕ)) (event : Event) : Type 0 where
  pub is_event : IsEvent cpus event
  pub spelled : parts ≡ event_parts event

-- no event that a history has room for has these parts
abbrev pub IsNoEvent : ℕ → List (List ℕ) → Type 0
IsNoEvent cpus parts = (event : Event) → call_number event < 1000000 → IsEventOf cpus parts event → ⊥
