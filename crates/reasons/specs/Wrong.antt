-- Which part of a line is wrong.
use Rattle.std.specs.Prelude.{◌≡◌, ◌↔◌, ◌⊎◌, ℕ, ◌<◌, ◌≤◌, List, ◌∷◌, ◌++◌, length, take, slice_get, Some, MatchOption}
use Rattle.rmm_spec.specs.declared.command.Command.{Command}
use Rattle.rmm_spec.specs.declared.event.Event.{Event}
use Rattle.rmm_spec.specs.declared.event.Event.TheVariants.{Called, Returned}
use Rattle.rmm_spec.specs.declared.line.Line.{Line}
use Rattle.rmm_spec.specs.CertificateText.{IsLine, line_parts}
use Rattle.rmm_spec.specs.CommandText.{IsCommand, command_parts}
use Rattle.rmm_spec.specs.HistoryText.{Config, IsConfig, IsEvent, config_parts, event_parts}
use Rattle.reasons.specs.declared.wrong_part.WrongPart.{WrongPart}
use Rattle.reasons.specs.Wanted.{CanStand, MayEnd}

-- the number of an event's call
abbrev pub call_number : Event → ℕ
call_number (Called cpu number command) = number
call_number (Returned cpu number given) = number

-- the parts are those of the header of such machines
abbrev pub IsHeaderOf : List (List ℕ) → Config → Type 0
IsHeaderOf parts config = IsConfig config × (parts ≡ config_parts config)

-- a history's first line
abbrev pub IsHeader : List (List ℕ) → Type 0
IsHeader parts = (config : Config) × IsConfig config × (parts ≡ config_parts config)

-- a later one, for a machine of so many CPUs
abbrev pub IsEventLine : ℕ → List (List ℕ) → Type 0
IsEventLine cpus parts = (event : Event) × IsEvent cpus event × (call_number event < 1000000) × (parts ≡ event_parts event)

-- a line of a certificate
abbrev pub IsCertificateLine : List (List ℕ) → Type 0
IsCertificateLine parts = (line : Line) × IsLine line × (parts ≡ line_parts line)

-- a command by itself
abbrev pub IsCommandLine : List (List ℕ) → Type 0
IsCommandLine parts = (command : Command) × IsCommand command × (parts ≡ command_parts command)

-- The part of that index is the first wrong one in the line: the parts before it are a front of some line of the kind, what is wanted
-- there is exactly what a line of the kind has behind them, and this line has none of that.
pub record IsWrong (IsOfKind : List (List ℕ) → Type 0) (parts : List (List ℕ)) (wrong : WrongPart) : Type 0 where
  pub within : wrong.index ≤ length parts
  pub front : (wrong.index ≡ 0) ⊎ ((more : List (List ℕ)) × IsOfKind (take wrong.index parts ++ more))
  pub possible : (part : List ℕ) → CanStand wrong.wanted part ↔ ((more : List (List ℕ)) × IsOfKind (take wrong.index parts ++ part ∷ more))
  pub ends : MayEnd wrong.wanted ↔ IsOfKind (take wrong.index parts)
  pub here : MatchOption wrong.part ((length parts ≡ wrong.index) × ¬ MayEnd wrong.wanted)
      (λ part. (slice_get parts wrong.index ≡ Some part.now) × ¬ CanStand wrong.wanted part.now)
