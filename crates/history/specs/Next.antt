-- When an event can be recorded next, in two halves.
use Rattle.std.specs.Prelude.{◌≡◌, ℕ, ◌+◌, ◌<◌, List, ◌++◌, [], ◌∷◌, length}
use Rattle.rmm_spec.specs.declared.event.Event.{Event}
use Rattle.rmm_spec.specs.declared.event.Event.TheVariants.{Called, Returned}
use Rattle.rmm_spec.specs.CommandText.{IsCommand, IsReply}
use Rattle.rmm_spec.specs.HistoryText.{History, CanFollow, IsRecord, cpu_of, event_parts, subhistory_of}
use Rattle.history.specs.Spelling.{IsEventOf}

-- what is given has a text
abbrev pub HasText : Event → Type 0
HasText (Called cpu number command) = IsCommand command
HasText (Returned cpu number given) = IsReply given

-- the CPU is there, and its record goes on
abbrev pub Continues : History → Event → Type 0
Continues history event = (cpu_of event < history.config.cpus) × IsRecord (subhistory_of (cpu_of event) (history.events ++ event ∷ []))

-- the line after a history's is that of an event which may follow
pub record HasNext (history : History) (line : List (List ℕ)) : Type 0 where
  pub event : Event
  pub can_follow : CanFollow history event
  pub room : length history.events + 1 < 1000000
  pub spelled : event_parts event ≡ line

-- the event that the line spells was recorded
pub record HasRecorded (old new : History) (line : List (List ℕ)) : Type 0 where
  pub event : Event
  pub is_event : IsEventOf old.config.cpus line event
  pub recorded : new ≡ record old { events = old.events ++ event ∷ [] }
