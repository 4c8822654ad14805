-- What the entries of a history and their words stand for.
use Rattle.std.specs.Prelude.{⊤, ◌≡◌, ℕ, ◌+◌, ◌*◌, ◌/◌, ◌≤◌, min, List, [], ◌∷◌, ◌++◌, length, take, drop}
use Rattle.std.specs.List.{AllByRecursion}
use Rattle.arrayvec.specs.ArrayVec.{ArrayVec}
use Rattle.rmm_spec.specs.declared.event.Event.{Event}
use Rattle.rmm_spec.specs.declared.event.Event.TheVariants as event
use Rattle.rmm_spec.specs.declared.reply.Reply.TheVariants as reply
use Rattle.rmm_spec.specs.Cell.{put}
use Rattle.rmi_view.specs.Seen as replied
use Rattle.history.specs.Spelling.{call_number}
use Rattle.history.specs.declared.entry.Entry.{Entry}
use Rattle.history.specs.declared.entry.Entry.TheVariants as stored
use Rattle.history.specs.declared.entry.Stretch.{Stretch}

-- room by the entries and the words that still fit
abbrev pub room_of : ℕ → ℕ → ℕ
room_of entries words = min entries (words / 10)

abbrev pub words_at : List ℕ → Stretch → ArrayVec ℕ
words_at words place = record { items = take place.count (drop place.first words) }

abbrev pub stretch : ℕ → ℕ → Stretch
stretch first count = record { first = first; count = count }

-- the event of an entry, of the call with that number, whose words stand among all words
abbrev pub event_of : List ℕ → ℕ → Entry → Event
event_of words number (stored.Called cpu function count first) =
    event.Called cpu number (record { function = function; words = words_at words (stretch first count) })
event_of words number (stored.Answered cpu count first) = event.Returned cpu number (reply.Ok (words_at words (stretch first count)))
event_of words number (stored.Refused cpu status index) = event.Returned cpu number (reply.Err status index)
event_of words number (stored.Misplaced cpu) = event.Returned cpu number reply.Misplaced

abbrev pub entry_cpu : Entry → ℕ
entry_cpu (stored.Called cpu function count first) = cpu
entry_cpu (stored.Answered cpu count first) = cpu
entry_cpu (stored.Refused cpu status index) = cpu
entry_cpu (stored.Misplaced cpu) = cpu

-- The events of entries, where each CPU had so many before. A call has two, so that half of their count is the number.
abbrev pub events_after : (ℕ → ℕ) → List ℕ → List Entry → List Event
events_after had words [] = []
events_after had words (entry ∷ entries) =
    event_of words (had (entry_cpu entry) / 2) entry ∷ events_after (put had (entry_cpu entry) (had (entry_cpu entry) + 1)) words entries

abbrev pub events_in : List ℕ → List Entry → List Event
events_in words entries = events_after (λ cpu. 0) words entries

-- of so many words, the stretch has at most ten
abbrev pub HasWithin : ℕ → Stretch → Type 0
HasWithin size place = (place.first + place.count ≤ size) × (place.count ≤ 10)

-- the words of an entry are among so many
abbrev pub HasWords : ℕ → Entry → Type 0
HasWords size (stored.Called cpu function count first) = HasWithin size (stretch first count)
HasWords size (stored.Answered cpu count first) = HasWithin size (stretch first count)
HasWords size (stored.Refused cpu status index) = ⊤
HasWords size (stored.Misplaced cpu) = ⊤

-- Each entry has its words, and there are no more words than entries may have.
pub record IsHeld (words : List ℕ) (entries : List Entry) : Type 0 where
  pub each : AllByRecursion (HasWords (length words)) entries
  pub few_words : length words ≤ 10 * length entries

-- The words after an event was entered are the old ones and at most ten more, and the entry is the event's.
pub record IsEntered (old new : List ℕ) (event : Event) (entered : Entry) : Type 0 where
  pub more : List ℕ
  pub appended : new ≡ old ++ more
  pub few : length more ≤ 10
  pub has_words : HasWords (length new) entered
  pub is_event : event_of new (call_number event) entered ≡ event

-- the event was stored at the end
pub record HasStored (old_words : List ℕ) (old_entries : List Entry) (words : List ℕ) (entries : List Entry) (event : Event) : Type 0 where
  pub entry : Entry
  pub is_entered : IsEntered old_words words event entry
  pub is_last : entries ≡ old_entries ++ entry ∷ []

-- an event with no more words than an entry has
abbrev pub HasFewWords : Event → Type 0
HasFewWords (event.Called cpu number command) = length command.words.items ≤ 10
HasFewWords (event.Returned cpu number given) = replied.HasFewWords given
