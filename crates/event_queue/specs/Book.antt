-- The rule of the queue, over what it holds and the pages of all passes.
use Rattle.std.specs.Prelude.{⊤, ◌≡◌, ℕ, suc, ◌<◌, ◌≤◌, true, List, [], ◌++◌}
use mathlib.Core.List.{IsPrefix}
use mathlib.Core.Option.{some}
use lib.ListN.{get_elem?}
use Rattle.rmm_spec.specs.declared.event.Event.{Event}
use Rattle.rmm_spec.specs.HistoryText.{subhistory_of}
use Rattle.rmm_spec.specs.Linearization.{IsCalled}
use Rattle.rmm_spec.specs.Run.{JournalEntry}
use Rattle.world_laws.proofs.Recorded.{AreRecorded, HasCommitted}
use Rattle.event_queue.specs.Numbered.{count_of, numbered}
use Rattle.event_queue.specs.Pages.{Page, Cpu, Scribe}
use Rattle.event_queue.specs.Records.{AreRecords}
use Rattle.event_queue.specs.Stages.{Stage, Idle, Open, Committed}

-- what no pass knows whole: how many CPUs there are, the first so many of which have a page, where each one's page and the
-- scribe's stand, and the events that were drained
pub record Ledger : Type 0 where
  pub cpus : ℕ
  pub seated : ℕ
  pub seat : ℕ → ℕ
  pub desk : ℕ
  pub drained : List Event

-- where the page stands that keeps the journal, and the journal's commits
pub record Shelf : Type 0 where
  pub place : ℕ
  pub entries : List JournalEntry

-- how far a CPU with so many commits is with its last call: an open one is among the events, and a committed one in the journal
abbrev pub IsAt : Stage → ℕ → ℕ → List JournalEntry → List Event → Type 0
IsAt Idle cpu commits entries all = ⊤
IsAt (Open command) cpu commits entries all = (place : ℕ) × IsCalled all place cpu commits command
IsAt (Committed given) cpu commits entries all = (number : ℕ) × (suc number ≡ commits) × HasCommitted (numbered entries) cpu number given

-- the one page of a CPU has the CPU's part of all events, and counts its commits
abbrev pub IsCpuPage : Ledger → List JournalEntry → List Event → ℕ → ℕ → Page → Type 0
IsCpuPage ledger entries all cpu place page =
    (cpu < ledger.seated) × (ledger.seat cpu ≡ place) × (page.cpus ≡ ledger.cpus) × (page.events ≡ subhistory_of cpu all)
    × (count_of cpu entries ≡ page.commits) × IsAt page.stage cpu page.commits entries all

-- the scribe's one page has the events that were drained
abbrev pub IsScribePage : Ledger → ℕ → Page → Type 0
IsScribePage ledger place page =
    (ledger.desk ≡ place) × (page.cpus ≡ ledger.cpus) × (page.seated ≡ ledger.seated) × (page.events ≡ ledger.drained)

-- A page is its CPU's, or the scribe's, and may be the one that keeps the journal. What the scribe has told is a beginning of what
-- was drained.
abbrev pub IsPage : Ledger → Shelf → List Event → ℕ → Page → Type 0
IsPage ledger shelf all place page =
    ((cpu : ℕ) → page.holder ≡ Cpu cpu → IsCpuPage ledger shelf.entries all cpu place page)
    × (page.holder ≡ Scribe → IsScribePage ledger place page)
    × (page.keeps ≡ true → (shelf.place ≡ place) × (page.entries ≡ shelf.entries))
    × IsPrefix page.seen ledger.drained

-- The events drained so far and those in the queue are records, and each CPU's part is its own page's list. The journal's commits
-- are those of their calls, and keep real time.
pub record IsKept (ledger : Ledger) (shelf : Shelf) (all : List Event) (pages : List Page) : Type 0 where
  pub are_records : AreRecords ledger.cpus all
  pub unseated : (cpu : ℕ) → ledger.seated ≤ cpu → subhistory_of cpu all ≡ []
  pub ordered : AreRecorded (numbered shelf.entries) all
  pub each : (place : ℕ) (page : Page) → get_elem? pages place ≡ some page → IsPage ledger shelf all place page

abbrev pub IsRecorded : List Event → List Page → Type 0
IsRecorded queued pages = (ledger : Ledger) × (shelf : Shelf) × IsKept ledger shelf (ledger.drained ++ queued) pages
