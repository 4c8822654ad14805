-- What a change makes of what one CPU holds: its cells, the side table and its place. It is what the same change makes of a
-- whole, on the cells that are held. This project's own.
use Rattle.std.specs.Prelude.{◌≡◌, ℕ, ◌*◌, ◌^◌, ◌<◌, ◌≤◌, Bool, true, false, not, ◌&&◌, ◌==◌, nat_lt, nat_le, IsTrue, List, [], ◌∷◌, length, map, Option, Some, None, is_some, Result, Ok, Err}
use Rattle.std.specs.List.{AllByRecursion}
use Rattle.rmm_spec.specs.HistoryText.{Config, granule_limit}
use Rattle.rmm_spec.specs.declared.version.Version.TheVariants.{Large}
use Rattle.rmm_spec.specs.declared.accepted.Accepted.{Accepted}
use Rattle.rmm_spec.specs.declared.accepted.Accepted.TheVariants.{Done, Reaches}
use Rattle.rmm_spec.specs.declared.accepted.Stretch.{Stretch}
use Rattle.rmm_spec.specs.declared.change.Change.{Change}
use Rattle.rmm_spec.specs.declared.change.Change.TheVariants.{Unchanged, Retagged, RealmMade, RecMade, RecordsChanged, TableMade, TableDestroyed, EntriesChanged}
use Rattle.rmm_spec.specs.declared.change.RealmChange.{RealmChange}
use Rattle.rmm_spec.specs.declared.change.RealmUpdate.{RealmUpdate}
use Rattle.rmm_spec.specs.declared.change.RealmUpdate.TheVariants as realm_update
use Rattle.rmm_spec.specs.declared.change.RecChange.{RecChange}
use Rattle.rmm_spec.specs.declared.change.RecUpdate.{RecUpdate}
use Rattle.rmm_spec.specs.declared.change.RecUpdate.TheVariants.{Entered, Exited, RequestMoved}
use Rattle.rmm_spec.specs.declared.command.Command.{Command}
use Rattle.rmm_spec.specs.declared.refusal.Refusal.{Refusal}
use Rattle.rmm_spec.specs.declared.reply.Reply.{Reply}
use Rattle.rmm_spec.specs.declared.reply.Reply.TheVariants as reply
use Rattle.rmm_spec.specs.Call.{call_of}
use Rattle.rmm_spec.specs.Flat.{flat_state}
use Rattle.rmm_spec.specs.Rows.{ok, reply_of}
use Rattle.rmm_spec.specs.Step.{outcome}
use Rattle.rmm_spec.specs.Step.Ripas.{IsReached}
use Rattle.rmm_spec.specs.State.{RecRecord}
use Rattle.rmm_spec.specs.Lookup.{is_granule, is_hash}
use Rattle.rmm_spec.specs.declared.change.TagChange.{TagChange}
use Rattle.rmm_spec.specs.Step.Terms.{is_space}
use Rattle.rmm_spec.specs.Walk.{table_size}
use Rattle.world_laws.specs.SeenState.{table_placed}
use Rattle.world_laws.specs.TableCells.{holds_change}
use Rattle.rmm_spec.specs.Cell.{Cell, Rd, Rec}
use Rattle.rmm_spec.specs.Shape.{Side, CpuPlace, Outside, Inside, IsWellShaped}
use Rattle.rmm_spec.specs.Local.{HeldCell, Hold, Agrees, LocalStep}
use Rattle.world_laws.specs.Replaced.{held_at, replaced_all}
use Rattle.rmm_laws.specs.Whole.{side_changed}
use Rattle.granule_cells.specs.Changes.{cells_made, fits_entries, granules_changed, is_plain, table_found}
use Rattle.command_core.specs.Seen.{is_held, known_cell}

-- ---- cells

-- the granule of the table whose entries the change changes, where it is held
abbrev pub table_touched : List HeldCell → Change → Option ℕ
table_touched held change = table_found (table_placed held) change

-- the granules whose cells the change changes
abbrev pub granules_touched : List HeldCell → Change → List ℕ
granules_touched held change = granules_changed (table_touched held change) change

-- the cells that it puts in, each in the place of the one that is held at its granule
unfoldable pub new_cells : List HeldCell → Change → List HeldCell
new_cells held change =
    map (λ g. held_at g (cells_made (known_cell held) (table_touched held change) change g)) (granules_touched held change)

-- ---- the place

-- a CPU that enters a REC is inside of it, and one that leaves is outside
abbrev pub place_with_rec : CpuPlace → ℕ → RecUpdate → Cell → CpuPlace
place_with_rec place address (Entered cpu) (Rec rec) = Inside address rec.owner
place_with_rec place address Exited cell = Outside
place_with_rec place address update cell = place

abbrev pub place_with_rec_change : List HeldCell → CpuPlace → Option RecChange → CpuPlace
place_with_rec_change held place None = place
place_with_rec_change held place (Some change) = place_with_rec place change.rec change.update (known_cell held change.rec)

unfoldable pub new_place : List HeldCell → CpuPlace → Change → CpuPlace
new_place held place (RecordsChanged realm rec) = place_with_rec_change held place rec
new_place held place (EntriesChanged rd level entries page realm rec) = place_with_rec_change held place rec
new_place held place change = place

-- ---- what is held

abbrev pub hold_of : List HeldCell → Side → CpuPlace → Hold
hold_of cells side place = record { cells = cells; side = side; place = place }

abbrev pub hold_changed : Hold → Change → Hold
hold_changed hold change = record {
  cells = replaced_all hold.cells (new_cells hold.cells change);
  side = side_changed (known_cell hold.cells) hold.side change;
  place = new_place hold.cells hold.place change;
}

-- ---- what a change requires of what is held

-- the REC is entered on this CPU, or is the one that it is inside of
abbrev pub IsOnCpu : ℕ → CpuPlace → ℕ → RecUpdate → Type 0
IsOnCpu cpu place rec (Entered on) = on ≡ cpu
IsOnCpu cpu place rec Exited = (rd : ℕ) × (place ≡ Inside rec rd)
IsOnCpu cpu place rec update = Unit {0}

abbrev pub RunsHere : ℕ → CpuPlace → Change → Type 0
RunsHere cpu place (RecordsChanged realm (Some change)) = IsOnCpu cpu place change.rec change.update
RunsHere cpu place _ = Unit {0}

-- what a change of tables changes is held
abbrev pub HoldsTables : List HeldCell → Change → Type 0
HoldsTables held (TableMade rd level number rtt entry) = IsTrue (holds_change held (TableMade rd level number rtt entry))
HoldsTables held (TableDestroyed rd level number rtt entry) = IsTrue (holds_change held (TableDestroyed rd level number rtt entry))
HoldsTables held (EntriesChanged rd level entries page realm rec) = IsTrue (holds_change held (EntriesChanged rd level entries page realm rec))
HoldsTables held _ = Unit {0}

-- each granule whose cell is changed is held
abbrev pub AreHeld : List HeldCell → Change → Type 0
AreHeld held change = AllByRecursion (λ g. IsTrue (is_held g held)) (granules_touched held change)

-- and the REC that is entered or left is this CPU's
pub record CanChange (cpu : ℕ) (hold : Hold) (change : Change) : Type 0 where
  pub held : AreHeld hold.cells change
  pub tables : HoldsTables hold.cells change
  pub here : RunsHere cpu hold.place change

-- what is answered is a refusal, or a change that can be made of what is held
abbrev pub CanAnswer : ℕ → Hold → Result Accepted Refusal → Type 0
CanAnswer cpu hold (Err refusal) = Unit {0}
CanAnswer cpu hold (Ok (Done words change)) = CanChange cpu hold change
CanAnswer cpu hold (Ok (Reaches stretch)) = ⊥

-- ---- what a change requires of the records that are held, and of the side table

-- a realm whose next REC has that index
abbrev pub counts_in : ℕ → Cell → Bool
counts_in mpidr (Rd realm) = mpidr == realm.next_index && nat_lt mpidr 8
counts_in mpidr _ = false

-- a realm's measurements are extended within what they have
abbrev pub is_realm_update : RealmUpdate → Bool
is_realm_update (realm_update.MeasurementExtended index size values) =
    nat_le 1 index && nat_le index 4 && nat_le size 0x40 && length values == 8
is_realm_update (realm_update.PageMeasured ipa flags digest) = length digest == 4
is_realm_update (realm_update.RecCounted mpidr flags) = false
is_realm_update _ = true

abbrev pub fits_realm : RealmUpdate → Cell → Bool
fits_realm update (Rd realm) = is_realm_update update
fits_realm update _ = false

-- a request can be moved where there is one
abbrev pub is_rec_update : RecRecord → RecUpdate → Bool
is_rec_update rec (RequestMoved base) = is_some rec.request
is_rec_update rec _ = true

abbrev pub fits_rec : RecUpdate → Cell → Bool
fits_rec update (Rec rec) = is_rec_update rec update
fits_rec update _ = false

abbrev pub fits_realm_change : List HeldCell → Option RealmChange → Bool
fits_realm_change held None = true
fits_realm_change held (Some change) = fits_realm change.update (known_cell held change.rd)

abbrev pub fits_rec_change : List HeldCell → Option RecChange → Bool
fits_rec_change held None = true
fits_rec_change held (Some change) = fits_rec change.update (known_cell held change.rec)

abbrev pub fits_page : Option TagChange → Bool
fits_page None = true
fits_page (Some change) = is_plain change.tag

-- what a change makes keeps what its type keeps: a REC's two others are two, and a table is of a level below a root's
abbrev pub HasOwnShape : Change → Type 0
HasOwnShape (RecMade rd rec mpidr flags aux0 aux1) = (aux0 == aux1) ≡ false
HasOwnShape (TableMade rd level number rtt entry) = (0 < level) × (level ≤ 3)
HasOwnShape _ = Unit {0}

-- so does what is done by what is accepted
abbrev pub AcceptsOwnShape : Accepted → Type 0
AcceptsOwnShape (Done words change) = HasOwnShape change
AcceptsOwnShape (Reaches stretch) = Unit {0}

abbrev pub AnswersOwnShape : Result Accepted Refusal → Type 0
AnswersOwnShape (Ok accepted) = AcceptsOwnShape accepted
AnswersOwnShape (Err refusal) = Unit {0}

-- the records are what the change updates
abbrev pub fits_cells : List HeldCell → Change → Bool
fits_cells held (Retagged change) = is_plain change.tag
fits_cells held (RealmMade rd root width level vmid algo) = is_space width level && is_hash algo
fits_cells held (RecMade rd rec mpidr flags aux0 aux1) = counts_in mpidr (known_cell held rd) && not (aux0 == aux1)
fits_cells held (RecordsChanged realm rec) = fits_realm_change held realm && fits_rec_change held rec
fits_cells held (TableMade rd level number rtt entry) =
    holds_change held (TableMade rd level number rtt entry) && nat_lt (number * table_size level) (2 ^ 64) && (nat_lt 0 level && nat_le level 3)
fits_cells held (TableDestroyed rd level number rtt entry) = holds_change held (TableDestroyed rd level number rtt entry)
fits_cells held (EntriesChanged rd level entries page realm rec) =
    holds_change held (EntriesChanged rd level entries page realm rec) && fits_page page && fits_entries entries
    && fits_realm_change held realm && fits_rec_change held rec
fits_cells held _ = true

-- a REC that is made is counted at a granule's address, and no realm has more RECs than there are granules
abbrev pub can_count : ℕ → Side → Change → Bool
can_count granules side (RecMade rd rec mpidr flags aux0 aux1) = is_granule granules rd && nat_le (side.rec_counts rd) granules
can_count granules side _ = true

unfoldable pub can_make : Config → List HeldCell → Side → Change → Bool
can_make config held side change = fits_cells held change && can_count config.granules side change

-- the change fits, and its REC can be counted on a machine of any version
pub record CanMake (hold : Hold) (change : Change) : Type 0 where
  pub fits : IsTrue (fits_cells hold.cells change)
  pub counts : IsTrue (can_count (granule_limit Large) hold.side change)

-- ---- decisions

-- the reply, with that change of what is held, is a local step
abbrev pub Decides : Config → ℕ → Command → Hold → Reply → Change → Type 0
Decides config cpu command hold given change = LocalStep config cpu command given hold (hold_changed hold change)

-- and so is what is answered
abbrev pub Answers : Config → ℕ → Command → Hold → Result Accepted Refusal → Type 0
Answers config cpu command hold (Err refusal) = Decides config cpu command hold (reply_of refusal) Unchanged
Answers config cpu command hold (Ok (Done words change)) = Decides config cpu command hold (reply.Ok words) change
Answers config cpu command hold (Ok (Reaches stretch)) = ⊥

-- of a stretch, no end is allowed that is above the one in the reply
pub record IsFurthest (config : Config) (cpu : ℕ) (command : Command) (hold : Hold) (given : Reply) : Type 0 where
  pub right : (cells : ℕ → Cell) (places : ℕ → CpuPlace) (stretch : Stretch) (top : ℕ)
      → IsWellShaped config hold.side places cells → Agrees cells hold.cells → places cpu ≡ hold.place
      → outcome (flat_state config cells) cpu (call_of command) ≡ Ok (Reaches stretch) → IsReached (flat_state config cells) stretch top
      → (chosen : ℕ) × (given ≡ ok (chosen ∷ [])) × (top ≤ chosen)

abbrev pub given_of : Result Accepted Refusal → Reply
given_of (Err refusal) = reply_of refusal
given_of (Ok (Done words change)) = reply.Ok words
given_of (Ok (Reaches stretch)) = reply.Misplaced

-- what is answered can be made, and is a local step, as far as it may go
pub record IsAnswer (config : Config) (cpu : ℕ) (command : Command) (hold : Hold) (answer : Result Accepted Refusal) : Type 0 where
  pub can : CanAnswer cpu hold answer
  pub is_local : Answers config cpu command hold answer
  pub is_furthest : IsFurthest config cpu command hold (given_of answer)

-- where it is no refusal, its change can be made of the records
abbrev pub CanMakeAnswer : Hold → Result Accepted Refusal → Type 0
CanMakeAnswer hold (Ok (Done words change)) = CanMake hold change
CanMakeAnswer hold _ = Unit {0}
