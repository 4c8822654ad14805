-- What a change makes of what is held is what it makes of each whole that agrees: so what all of them answer is a local step.
use Rattle.command_core.proofs.Common.{◌&&◌, ◌∙◌, ◌∷◌, ◌≡◌, Accepted, Bool, Change, Command, Config, Done, Err, HeldCell, Hold, Inside, IsAnswer, IsTrue, List, None, Ok, Option, Outside, Reaches, Rec, Refusal, Result, Some, [], and_parts, ap, call_of, false, false≢true, flat_state, granules_held, if◌then◌else◌, is_held, is_some, new_cells, refl, subst, sym, table_placed, true, ℕ}
use Rattle.std.proofs.Common.{◌-◌, ◌/◌}
use Rattle.std.specs.Prelude.{Contains}
use Rattle.std.specs.List.{AllByRecursion}
use Rattle.std.proofs.lemmas.List.Elements.{All-contains, All-from_recursion}
use Rattle.rmm_spec.specs.declared.change.RecChange.{RecChange}
use Rattle.rmm_spec.specs.declared.accepted.Stretch.{Stretch}
use Rattle.rmm_spec.specs.declared.change.Change.TheVariants.{RealmDestroyed, RecDestroyed, RecordsChanged, TableMade, TableDestroyed, EntriesChanged}
use Rattle.rmm_spec.specs.declared.change.RecUpdate.{RecUpdate}
use Rattle.rmm_spec.specs.declared.change.RecUpdate.TheVariants as update
use Rattle.rmm_spec.specs.Rows.{Row, decided, ok, done, reply_of}
use Rattle.rmm_spec.specs.Step.{Step, outcome}
use Rattle.rmm_spec.specs.Cell.{Cell, put, tables_of}
use Rattle.rmm_spec.specs.Flat.{table_granule}
use Rattle.rmm_spec.specs.declared.reply.Reply.{Reply}
use Rattle.rmm_spec.specs.Shape.{IsWellShaped, CpuPlace}
use Rattle.rmm_spec.specs.Local.{LocalStep, put_all}
use Rattle.world_laws.proofs.Locals.{unchanged-is_local, step-is_local}
use Rattle.spec_lemmas.proofs.Maps.{put-same}
use Rattle.world_laws.proofs.Refusals.{Step-refused}
use Rattle.rmm_laws.specs.Whole.{IsShaped, cells_changed, side_changed, side_without_vmid, side_without_rec, places_changed, places_of_rec, places_with_rec_change, table_changed, whole_changed}
use Rattle.granule_cells.specs.Changes.{cells_made, table_found}
use Rattle.granule_cells.specs.MadeLaws.{cells_made-changed}
use Rattle.rmm_laws.proofs.Accepted.{done-keeps_shape}
use Rattle.rmm_laws.proofs.Cells.{cell-rec}
use Rattle.command_core.specs.Seen.{known_cell}
use Rattle.command_core.specs.Changed.{place_with_rec, place_with_rec_change, new_place, hold_changed, table_touched, HoldsTables, IsOnCpu, CanChange, CanAnswer, Answers, IsFurthest, given_of}
use Rattle.world_laws.specs.TableCells.{is_moved, holds_page, holds_realm, holds_rec, holds_change}
use Rattle.world_laws.proofs.Wholes.{held-contains}
use Rattle.world_laws.proofs.Tables.{placed-found}
use Rattle.command_core.proofs.Stored.{made-put, new-held}
use Rattle.command_core.proofs.Wholes.{Whole, state, walk_whole, same_at}
use Rattle.lemmas.proofs.Options.{value_there}

-- ---- cells

-- the table that is changed lies where the whole has it
touched-found : (config : Config) (cpu : ℕ) (hold : Hold) (w : Whole config cpu hold) (change : Change) → CanChange cpu hold change
    → table_found (table_granule config.granules (tables_of w.cells)) change ≡ table_touched hold.cells change
unfolding holds_change flat_state
touched-found config cpu hold w change can = by change can.tables
  where
    placed : (rd level number : ℕ) → is_some (table_placed hold.cells rd level number) ≡ true
        → table_granule config.granules (tables_of w.cells) rd level number ≡ table_placed hold.cells rd level number
    placed rd level number there =
        let at = value_there (table_placed hold.cells rd level number) there in
        placed-found (walk_whole config cpu hold w) rd level number at.0 at.1 ∙ sym at.1

    by : (c : Change) → HoldsTables hold.cells c → table_found (table_granule config.granules (tables_of w.cells)) c ≡ table_touched hold.cells c
    by (TableMade rd level number rtt entry) holds =
        placed rd (level - 1) (number / 512)
        (and_parts (is_held rtt hold.cells) (is_some (table_placed hold.cells rd (level - 1) (number / 512))) holds).1
    by (TableDestroyed rd level number rtt entry) holds =
        placed rd (level - 1) (number / 512)
        (and_parts (is_held rtt hold.cells) (is_some (table_placed hold.cells rd (level - 1) (number / 512))) holds).1
    by (EntriesChanged rd level entries page realm rec) holds =
        placed rd level (table_changed entries)
        (and_parts (holds_page hold.cells page && holds_realm hold.cells realm && holds_rec hold.cells rec)
        (is_some (table_placed hold.cells rd level (table_changed entries))) holds).1
    by _ holds = refl

cells-changed : (config : Config) (cpu : ℕ) (hold : Hold) (w : Whole config cpu hold) (change : Change) → CanChange cpu hold change
    → cells_changed config w.cells change ≡ put_all w.cells (new_cells hold.cells change)
unfolding new_cells
cells-changed config cpu hold w change can =
    sym (cells_made-changed config w.cells change)
    ∙ ap (λ at. cells_made w.cells at change) (touched-found config cpu hold w change can)
    ∙ made-put (λ g. IsTrue (is_held g hold.cells)) w.cells (known_cell hold.cells) (table_touched hold.cells change) change can.held
    (λ g has. same_at config cpu hold w g has)

-- ---- beside the cells

side-changed : (config : Config) (cpu : ℕ) (hold : Hold) (w : Whole config cpu hold) (change : Change) → CanChange cpu hold change
    → side_changed w.cells hold.side change ≡ side_changed (known_cell hold.cells) hold.side change
unfolding side_changed
side-changed config cpu hold w (RealmDestroyed rd root) fits =
    ap (λ c. side_without_vmid hold.side c) (same_at config cpu hold w rd fits.held.0)
side-changed config cpu hold w (RecDestroyed rec aux0 aux1) fits =
    ap (λ c. side_without_rec hold.side c) (same_at config cpu hold w rec fits.held.0)
side-changed config cpu hold w _ fits = refl

-- a place that is put in where it was
same_place : (config : Config) (cpu : ℕ) (hold : Hold) (w : Whole config cpu hold) → w.places ≡ put w.places cpu hold.place
same_place config cpu hold w = sym (put-same w.places cpu hold.place w.placed)

place-rec : (config : Config) (cpu : ℕ) (hold : Hold) (w : Whole config cpu hold) (address : ℕ) (u : RecUpdate) (c : Cell) → w.cells address ≡ c
    → IsOnCpu cpu hold.place address u → places_of_rec w.places address u c ≡ put w.places cpu (place_with_rec hold.place address u c)
place-rec config cpu hold w address (update.Entered on) (Rec rec) is here = ap (λ x. put w.places x (Inside address rec.owner)) here
place-rec config cpu hold w address (update.Entered on) _ is here = same_place config cpu hold w
place-rec config cpu hold w address update.Exited c is here =
    let runs = (w.shaped.recs.inside cpu address here.0).0 (w.placed ∙ here.1) in
    let cell : c ≡ Rec runs.it = sym is ∙ cell-rec (w.cells address) runs.it runs.is_rec in
    subst (λ x. places_of_rec w.places address update.Exited x ≡ put w.places cpu Outside) (sym cell)
    (rw (runs.is_on) refl)
place-rec config cpu hold w address _ c is here = same_place config cpu hold w

-- a request that is moved on leaves the CPU where it is
moved-here : (cpu : ℕ) (place : CpuPlace) (rec : ℕ) (u : RecUpdate) → is_moved u ≡ true → IsOnCpu cpu place rec u
moved-here cpu place rec (update.RequestMoved base) moved = tt
moved-here cpu place rec _ moved = absurd (false≢true moved)

places-changed : (config : Config) (cpu : ℕ) (hold : Hold) (w : Whole config cpu hold) (change : Change) → CanChange cpu hold change
    → places_changed w.cells w.places change ≡ put w.places cpu (new_place hold.cells hold.place change)
unfolding places_changed new_place holds_change
places-changed config cpu hold w (RecordsChanged realm None) fits = same_place config cpu hold w
places-changed config cpu hold w (RecordsChanged None (Some rec)) fits =
    let same = same_at config cpu hold w rec.rec fits.held.0 in
    subst (λ c. places_of_rec w.places rec.rec rec.update (w.cells rec.rec) ≡ put w.places cpu (place_with_rec hold.place rec.rec rec.update c)) same
    (place-rec config cpu hold w rec.rec rec.update (w.cells rec.rec) refl fits.here)
places-changed config cpu hold w (RecordsChanged (Some realm) (Some rec)) fits =
    let same = same_at config cpu hold w rec.rec fits.held.1.0 in
    subst (λ c. places_of_rec w.places rec.rec rec.update (w.cells rec.rec) ≡ put w.places cpu (place_with_rec hold.place rec.rec rec.update c)) same
    (place-rec config cpu hold w rec.rec rec.update (w.cells rec.rec) refl fits.here)
places-changed config cpu hold w (EntriesChanged rd level entries page realm rec) fits =
    by rec (and_parts (holds_page hold.cells page && holds_realm hold.cells realm && holds_rec hold.cells rec)
    (is_some (table_placed hold.cells rd level (table_changed entries))) fits.tables).0
  where
    by : (r : Option RecChange) → (holds_page hold.cells page && holds_realm hold.cells realm && holds_rec hold.cells r) ≡ true
        → places_with_rec_change w.cells w.places r ≡ put w.places cpu (place_with_rec_change hold.cells hold.place r)
    by None holds = same_place config cpu hold w
    by (Some change) holds =
        let of_rec = (and_parts (holds_page hold.cells page && holds_realm hold.cells realm) (holds_rec hold.cells (Some change)) holds).1 in
        let parts = and_parts (is_held change.rec hold.cells) (is_moved change.update) of_rec in
        let same = same_at config cpu hold w change.rec parts.0 in
        subst (λ c. places_of_rec w.places change.rec change.update (w.cells change.rec)
        ≡ put w.places cpu (place_with_rec hold.place change.rec change.update c)) same
        (place-rec config cpu hold w change.rec change.update (w.cells change.rec) refl (moved-here cpu hold.place change.rec change.update parts.1))
places-changed config cpu hold w _ fits = same_place config cpu hold w

-- ---- answers

-- what the rows refuse needs nothing of what is held
pub can-done : (cpu : ℕ) (hold : Hold) (change : Change) (words : List ℕ) (rows : List Row)
    → CanChange cpu hold change → CanAnswer cpu hold (decided rows (done words change))
can-done cpu hold change words [] can = can
can-done cpu hold change words (first ∷ rows) can = by first.holds (can-done cpu hold change words rows can)
  where
    by : (b : Bool) → CanAnswer cpu hold (decided rows (done words change))
        → CanAnswer cpu hold (if b then decided rows (done words change) else Err first.otherwise)
    by true later = later
    by false later = tt

-- ---- local steps

-- each cell that is put in has its place
all_held : (hold : Hold) (changes : List HeldCell) → AllByRecursion (λ (h : HeldCell). IsTrue (is_held h.granule hold.cells)) changes
    → (h : HeldCell) → Contains changes h → Contains (granules_held hold.cells) h.granule
all_held hold changes each h has =
    held-contains hold.cells h.granule
    (All-contains (λ (x : HeldCell). IsTrue (is_held x.granule hold.cells)) changes h
    (All-from_recursion (λ (x : HeldCell). IsTrue (is_held x.granule hold.cells)) changes each) has)

-- what every whole that agrees may do, with a change that can be made of what is held, is a local step
pub change-local : (config : Config) (cpu : ℕ) (command : Command) (given : Reply) (hold : Hold) (change : Change) → CanChange cpu hold change
    → ((w : Whole config cpu hold)
    → IsShaped config (whole_changed config (record { cells = w.cells; side = hold.side; places = w.places }) change)
    × Step (state config cpu hold w) cpu command given (flat_state config (cells_changed config w.cells change)))
    → LocalStep config cpu command given hold (hold_changed hold change)
change-local config cpu command given hold change can each =
    step-is_local config cpu command given hold (new_cells hold.cells change)
    (side_changed (known_cell hold.cells) hold.side change) (new_place hold.cells hold.place change)
    (all_held hold (new_cells hold.cells change) (new-held hold.cells change can.held))
    (λ cells places shaped agrees placed.
    let w : Whole config cpu hold = record { cells = cells; places = places; shaped = shaped; agrees = agrees; placed = placed } in
    let kept = each w in
    let of_cells = cells-changed config cpu hold w change can in (
      subst (λ whole. Step (flat_state config cells) cpu command given (flat_state config whole)) of_cells kept.1,
      subst (λ whole. IsWellShaped config (side_changed (known_cell hold.cells) hold.side change)
          (put places cpu (new_place hold.cells hold.place change)) whole) of_cells
          (subst (λ p. IsWellShaped config (side_changed (known_cell hold.cells) hold.side change) p (cells_changed config cells change))
          (places-changed config cpu hold w change can)
          (subst (λ side. IsWellShaped config side (places_changed cells places change) (cells_changed config cells change))
          (side-changed config cpu hold w change can) kept.0)),
    ))

-- what every whole that agrees answers is a local step
pub answers-local : (config : Config) (cpu : ℕ) (command : Command) (hold : Hold) (answer : Result Accepted Refusal) → CanAnswer cpu hold answer
    → ((w : Whole config cpu hold) → outcome (state config cpu hold w) cpu (call_of command) ≡ answer)
    → Answers config cpu command hold answer
unfolding new_cells new_place side_changed
answers-local config cpu command hold (Err refusal) can each =
    unchanged-is_local config cpu command (reply_of refusal) hold
    (λ cells places shaped agrees placed.
    Step-refused (flat_state config cells) cpu command refusal
    (each (record { cells = cells; places = places; shaped = shaped; agrees = agrees; placed = placed })))
answers-local config cpu command hold (Ok (Done words change)) can each =
    change-local config cpu command (ok words.items) hold change can
    (λ w. done-keeps_shape config (record { cells = w.cells; side = hold.side; places = w.places }) cpu command words.items change w.shaped (each w))
answers-local config cpu command hold (Ok (Reaches stretch)) can each = absurd can

-- where each whole answers so, none leads to a stretch
each-furthest : (config : Config) (cpu : ℕ) (command : Command) (hold : Hold) (answer : Result Accepted Refusal) → CanAnswer cpu hold answer
    → ((w : Whole config cpu hold) → outcome (state config cpu hold w) cpu (call_of command) ≡ answer)
    → IsFurthest config cpu command hold (given_of answer)
each-furthest config cpu command hold answer can each = record {
  right = λ cells places stretch top shaped agrees placed leads reached.
      let w : Whole config cpu hold = record { cells = cells; places = places; shaped = shaped; agrees = agrees; placed = placed } in
      absurd (unled answer can stretch (sym (each w) ∙ leads));
}
  where
    unled : (a : Result Accepted Refusal) → CanAnswer cpu hold a → (stretch : Stretch) → a ≡ Ok (Reaches stretch) → ⊥
    unled (Ok (Reaches other)) can stretch same = can
    unled _ can stretch same = cc

pub is_answer : (config : Config) (cpu : ℕ) (command : Command) (hold : Hold) (answer : Result Accepted Refusal) → CanAnswer cpu hold answer
    → ((w : Whole config cpu hold) → outcome (state config cpu hold w) cpu (call_of command) ≡ answer)
    → IsAnswer config cpu command hold answer
is_answer config cpu command hold answer can each = record {
  can = can;
  is_local = answers-local config cpu command hold answer can each;
  is_furthest = each-furthest config cpu command hold answer can each;
}
