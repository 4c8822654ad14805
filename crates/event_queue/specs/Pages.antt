-- The pages of passes, and what a step of a pass tells of its page.
use Rattle.std.specs.Prelude.{◌≡◌, ℕ, suc, ◌+◌, ◌<◌, Bool, true, false, List, [], ◌∷◌, ◌++◌, Some}
use mathlib.Core.List.{IsPrefix}
use Rattle.rmm_spec.specs.declared.event.Event.{Event}
use Rattle.rmm_spec.specs.declared.reply.Reply.{Reply}
use Rattle.rmm_spec.specs.HistoryText.{IsEvent, IsRecord, cpu_of, subhistory_of, start, stand_from}
use Rattle.rmm_spec.specs.Run.{JournalEntry}
use Rattle.event_queue.specs.Records.{MayBeQueued}
use Rattle.event_queue.specs.Stages.{Stage, Idle, Open, Committed, stage_after, entry_at}

-- who has a page
pub data Holder : Type 0 where
  Cpu : ℕ → Holder
  Scribe : Holder
  Nobody : Holder

-- What a pass knows: its CPU's events, or all that were drained, and a beginning of those, as the scribe has told; how many CPUs
-- there are, and how many of them have a page, on the scribe's alone; how many calls its CPU has committed, and how far the last
-- one is; and the journal's commits, where it keeps them.
pub record Page : Type 0 where
  pub holder : Holder
  pub cpus : ℕ
  pub seated : ℕ
  pub events : List Event
  pub seen : List Event
  pub commits : ℕ
  pub stage : Stage
  pub keeps : Bool
  pub entries : List JournalEntry

-- of no use
abbrev pub nobody_page : Page
nobody_page = record { holder = Nobody; cpus = 0; seated = 0; events = []; seen = []; commits = 0; stage = Idle; keeps = false; entries = [] }

-- a CPU's, before its first call
abbrev pub cpu_page : ℕ → ℕ → Page
cpu_page cpus cpu = record nobody_page { holder = Cpu cpu; cpus = cpus }

-- the journal's
abbrev pub journal_page : List JournalEntry → Page
journal_page entries = record nobody_page { keeps = true; entries = entries }

-- the scribe's before any event, with the journal's, where so many CPUs are counted and so many of them have a page
abbrev pub scribe_page : ℕ → ℕ → Page
scribe_page cpus seated = record (journal_page []) { holder = Scribe; cpus = cpus; seated = seated }

abbrev pub opening_page : Page
opening_page = scribe_page 0 0

-- what the scribe tells of its own
abbrev pub note_of : Page → Page
note_of page = record nobody_page { seen = page.events }

-- the journal's commits leave a page, and come to one
abbrev pub without_journal : Page → Page
without_journal page = record page { keeps = false; entries = [] }

abbrev pub with_journal : Page → Page → Page
with_journal page journal = record page { keeps = true; entries = journal.entries }

-- a CPU that has the journal's commits commits its open call, and gives them away
abbrev pub committed : Reply → Page → Page
committed reply page = record (without_journal page) { commits = page.commits + 1; stage = Committed reply }

abbrev pub entered : ℕ → Reply → Page → Page
entered cpu reply page = journal_page (page.entries ++ entry_at page.stage cpu reply)

-- a CPU's, with one event more
abbrev pub recorded : Page → Event → Page
recorded page event = record page { events = page.events ++ event ∷ []; stage = stage_after event }

-- the CPU's part of what was drained begins its own list
abbrev pub BeginsWithDrained : Page → List Event → Type 0
BeginsWithDrained page queued = (cpu : ℕ) → page.holder ≡ Cpu cpu → IsPrefix (subhistory_of cpu page.seen) page.events

-- what a CPU knows of the events in the queue
abbrev pub MayFindQueued : Page → List Event → Type 0
MayFindQueued page queued = (cpu : ℕ) → page.holder ≡ Cpu cpu → MayBeQueued page.cpus cpu page.events page.seen queued

-- the event was the oldest in the queue, and goes to the end of what was drained
pub record IsDrained (page : Page) (event : Event) (new : Page) : Type 0 where
  pub drained : new ≡ record page { events = page.events ++ event ∷ [] }
  pub is_event : IsEvent page.cpus event
  pub record_goes_on : IsRecord (subhistory_of (cpu_of event) (page.events ++ event ∷ []))

-- where so many calls were made, the last of them is this far, and so many are committed
abbrev pub IsStage : Stage → ℕ → ℕ → Bool → Type 0
IsStage Idle commits next is_open = (commits ≡ next) × (is_open ≡ false)
IsStage (Open command) commits next is_open = (suc commits ≡ next) × (is_open ≡ true)
IsStage (Committed given) commits next is_open = (commits ≡ next) × (is_open ≡ true)

-- the page of a CPU whose events lead to where it stands
pub record IsSeated (page : Page) (cpu next : ℕ) (is_open : Bool) : Type 0 where
  pub holder : page.holder ≡ Cpu cpu
  pub within : cpu < page.cpus
  pub stand : stand_from start page.events ≡ Some (record { next = next; is_open = is_open })
  pub stage : IsStage page.stage page.commits next is_open
