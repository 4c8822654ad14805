-- The order in which locks are taken: first the granules that a command names, upwards by address, then what those name in
-- turn, downwards from realm to root, from table to table, and to data and auxiliary granules. This project's own.
use Rattle.std.specs.Prelude.{◌≡◌, ℕ, suc, ◌<◌, ◌≤◌, Bool, false, ◌||◌, ◌==◌, ◌⊎◌, IsTrue, List, [], ◌∷◌, Contains, length, Option, Some, None}
use Rattle.std.specs.List.{list_any}
use Rattle.rmm_spec.specs.HistoryText.{Config}
use Rattle.rmm_spec.specs.declared.call.Call.{Call}
use Rattle.rmm_spec.specs.declared.call.Call.TheVariants.{RecEnter}
use Rattle.rmm_spec.specs.declared.entry.Entry.{Entry}
use Rattle.rmm_spec.specs.declared.entry.Entry.TheVariants.{Assigned, Table}
use Rattle.rmm_spec.specs.declared.tag.Tag.TheVariants as tag
use Rattle.rmm_spec.specs.State.{RecRecord}
use Rattle.rmm_spec.specs.Lookup.{is_granule}
use Rattle.rmm_spec.specs.Rows.{Needed}
use Rattle.rmm_spec.specs.Step.Terms.{needed, named}
use Rattle.rmm_spec.specs.Cell.{Cell, Rd, Rec, Rtt, tag_of, is_data}
use Rattle.rmm_spec.specs.Shape.{CpuPlace, Outside, Inside}
use Rattle.rmm_spec.specs.Local.{HeldCell}

-- ---- what a command names

-- an Enter that has learnt its REC's realm names that too
abbrev pub needs_outside : Option ℕ → Call → List Needed
needs_outside None call = named call
needs_outside (Some rd) (RecEnter rec) = needed rd tag.Rd ∷ named (RecEnter rec)
needs_outside (Some rd) call = named call

-- The granules that a command names, each with the tag that it needs there. Inside a REC they are that REC and its realm.
abbrev pub needs : CpuPlace → Option ℕ → Call → List Needed
needs Outside learnt call = needs_outside learnt call
needs (Inside rec rd) learnt call = needed rec tag.Rec ∷ needed rd tag.Rd ∷ []

abbrev pub is_named : List Needed → ℕ → Bool
is_named names granule = list_any (λ (n : Needed). n.granule == granule) names

-- ---- what a cell names as a part of it

-- an entry leads to the table below, or to a page of the protected half
abbrev pub leads_to : ℕ → Entry → Bool
leads_to granule (Table below) = below == granule
leads_to granule (Assigned ripas page) = page == granule
leads_to granule _ = false

-- whether a realm has it for its root, a table for a child table or a data granule, a REC for one of its two others
abbrev pub names_part : Cell → ℕ → Bool
names_part (Rd realm) granule = realm.root == granule
names_part (Rec rec) granule = rec.aux0 == granule || rec.aux1 == granule
names_part (Rtt table) granule = list_any (leads_to granule) table.entries
names_part _ granule = false

-- how deep a table is, counted from 1, and 0 for what is no table
abbrev pub depth : Cell → ℕ
depth (Rtt table) = suc table.place.level
depth _ = 0

-- ---- rising takes

-- a granule that is held and not named: a table, or an auxiliary granule of a REC that is held
pub record IsStray (held : List HeldCell) (h : HeldCell) : Type 0 where
  pub is_part : (0 < depth h.cell)
      ⊎ ((r : HeldCell) × (rec : RecRecord) × Contains held r × (r.cell ≡ Rec rec) × IsTrue (names_part (Rec rec) h.granule))

-- only named granules are held, and the next is a named one above them all
pub record IsNextNamed (names : List Needed) (held : List HeldCell) (granule : ℕ) : Type 0 where
  pub next_named : IsTrue (is_named names granule)
  pub all_named : (h : HeldCell) → Contains held h → IsTrue (is_named names h.granule)
  pub above : (h : HeldCell) → Contains held h → h.granule < granule

-- the next is a part of what is held: of the deepest table, where a table is held
pub record IsNextPart (held : List HeldCell) (granule : ℕ) : Type 0 where
  pub by : HeldCell
  pub is_held : Contains held by
  pub is_part : IsTrue (names_part by.cell granule)
  pub deepest : (h : HeldCell) → Contains held h → depth h.cell ≤ depth by.cell

-- A granule may be waited for by a CPU that holds these cells for a command that names these granules. Where each CPU that
-- waits does so at a rising take, no CPUs wait in a circle. That what is held and not named is a stray of these two kinds
-- alone is needed for that: CPUs that hold auxiliary granules of other RECs could wait for one another.
pub record IsRisingTake (config : Config) (names : List Needed) (held : List HeldCell) (granule : ℕ) : Type 0 where
  pub is_lock : IsTrue (is_granule config.granules granule)
  pub is_new : (h : HeldCell) → Contains held h → h.granule ≡ granule → ⊥
  pub room : length held ≤ 5
  pub no_data : (h : HeldCell) → Contains held h → is_data h.cell ≡ false
  pub tags : (h : HeldCell) (n : Needed) → Contains held h → Contains names n → n.granule ≡ h.granule → tag_of h.cell ≡ n.tag
  pub strays : (h : HeldCell) → Contains held h → is_named names h.granule ≡ false → IsStray held h
  pub upwards : IsNextNamed names held granule ⊎ IsNextPart held granule
