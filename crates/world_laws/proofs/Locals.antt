-- From steps on wholes to local steps on whatever is held: of a step that changes nothing, and of one that changes one held cell.
use Rattle.std.proofs.Common.{◌≡◌, ℕ, Bool, true, false, ◌==◌, if◌then◌else◌, List, [], ◌∷◌, refl, sym, ap, ◌∙◌, subst, eqb-true}
use Rattle.std.specs.Prelude.{Contains}
use Rattle.std.proofs.lemmas.List.Elements.{All-contains, All-from_recursion}
use Rattle.rmm_spec.specs.HistoryText.{Config}
use Rattle.rmm_spec.specs.declared.command.Command.{Command}
use Rattle.rmm_spec.specs.declared.reply.Reply.{Reply}
use Rattle.rmm_spec.specs.Step.{Step}
use Rattle.rmm_spec.specs.Cell.{Cell, put}
use Rattle.rmm_spec.specs.Flat.{flat_state}
use Rattle.rmm_spec.specs.Shape.{Side, CpuPlace, IsWellShaped}
use Rattle.rmm_spec.specs.Local.{HeldCell, Hold, granules_held, Agrees, put_all, LocalStep}
use Rattle.world_laws.specs.Replaced.{replaced_cells, replaced, replaced_all}
use Rattle.spec_lemmas.proofs.Maps.{put-same}
use Rattle.spec_lemmas.proofs.Members.{Contains-nil, Contains-other}
use Rattle.lemmas.proofs.Tests.{keys_apart}
use Rattle.lemmas.proofs.Members.{Contains-head, Contains-tail}

pub put_all-agrees : (held : List HeldCell) (cells : ℕ → Cell) → Agrees cells held → put_all cells held ≡ cells
put_all-agrees [] cells agrees = refl
put_all-agrees (h ∷ held) cells agrees =
    ap (λ whole. put_all whole held) (put-same cells h.granule h.cell agrees.0) ∙ put_all-agrees held cells agrees.1

-- a cell that is held is the whole's
pub agrees-at : (cells : ℕ → Cell) (held : List HeldCell) (h : HeldCell) → Agrees cells held → Contains held h → cells h.granule ≡ h.cell
agrees-at cells held h agrees has =
    All-contains (λ (x : HeldCell). cells x.granule ≡ x.cell) held h
    (All-from_recursion (λ (x : HeldCell). cells x.granule ≡ x.cell) held agrees) has

-- a step of every whole that agrees, which changes nothing, is a local step
pub unchanged-is_local : (config : Config) (cpu : ℕ) (command : Command) (given : Reply) (hold : Hold)
    → ((cells : ℕ → Cell) (places : ℕ → CpuPlace) → IsWellShaped config hold.side places cells → Agrees cells hold.cells → places cpu ≡ hold.place
    → Step (flat_state config cells) cpu command given (flat_state config cells))
    → LocalStep config cpu command given hold hold
unchanged-is_local config cpu command given hold steps = record {
  same = refl;
  right = λ cells places shaped agrees place.
      let kept = put_all-agrees hold.cells cells agrees in
      let kept_places = put-same places cpu hold.place place in (
        subst (λ whole. Step (flat_state config cells) cpu command given (flat_state config whole))
            (sym kept) (steps cells places shaped agrees place),
        subst (λ whole. IsWellShaped config hold.side (put places cpu hold.place) whole) (sym kept)
            (subst (λ p. IsWellShaped config hold.side p cells) (sym kept_places) shaped),
      );
}

-- ---- one cell

pub granules_held-replaced_cells : (held : List HeldCell) (granule : ℕ) (cell : Cell)
    → granules_held (replaced_cells held granule cell) ≡ granules_held held
granules_held-replaced_cells [] granule cell = refl
granules_held-replaced_cells (h ∷ held) granule cell = ap (λ rest. h.granule ∷ rest) (granules_held-replaced_cells held granule cell)

-- the whole with the new cell, as it stands when the rest is put in
changed_at : (cells : ℕ → Cell) (granule : ℕ) (cell : Cell) (h : HeldCell) → cells h.granule ≡ h.cell
    → put cells granule cell h.granule ≡ (if h.granule == granule then cell else h.cell)
changed_at cells granule cell h is = by (h.granule == granule)
  where
    by : (b : Bool) → (if b then cell else cells h.granule) ≡ (if b then cell else h.cell)
    by true = refl
    by false = is

put_all-changed : (held : List HeldCell) (cells : ℕ → Cell) (granule : ℕ) (cell : Cell) → Agrees cells held
    → put_all (put cells granule cell) (replaced_cells held granule cell) ≡ put cells granule cell
put_all-changed [] cells granule cell agrees = refl
put_all-changed (h ∷ held) cells granule cell agrees =
    ap (λ whole. put_all whole (replaced_cells held granule cell))
    (put-same (put cells granule cell) h.granule (if h.granule == granule then cell else h.cell) (changed_at cells granule cell h agrees.0))
    ∙ put_all-changed held cells granule cell agrees.1

put_all-replaced : (held : List HeldCell) (cells : ℕ → Cell) (granule : ℕ) (cell : Cell) → Agrees cells held
    → Contains (granules_held held) granule → put_all cells (replaced_cells held granule cell) ≡ put cells granule cell
put_all-replaced [] cells granule cell agrees has = absurd (Contains-nil granule has)
put_all-replaced (h ∷ held) cells granule cell agrees has = by (h.granule == granule) refl (put_all-replaced held cells granule cell agrees.1)
  where
    tail : (h.granule == granule) ≡ false → Contains (h.granule ∷ granules_held held) granule → Contains (granules_held held) granule
    tail apart in_all = Contains-other h.granule (granules_held held) granule (keys_apart h.granule granule apart) in_all

    by : (b : Bool) → (h.granule == granule) ≡ b
        → (Contains (granules_held held) granule → put_all cells (replaced_cells held granule cell) ≡ put cells granule cell)
        → put_all (put cells h.granule (if b then cell else h.cell)) (replaced_cells held granule cell) ≡ put cells granule cell
    by true same rest =
        ap (λ g. put_all (put cells g cell) (replaced_cells held granule cell)) (eqb-true h.granule granule same)
        ∙ put_all-changed held cells granule cell agrees.1
    by false apart rest =
        ap (λ whole. put_all whole (replaced_cells held granule cell)) (put-same cells h.granule h.cell agrees.0) ∙ rest (tail apart has)

-- a step of every whole that agrees, which changes one held cell, is a local step on whatever else is held
pub one_cell-is_local : (config : Config) (cpu : ℕ) (command : Command) (given : Reply) (hold : Hold) (granule : ℕ) (cell : Cell)
    → Contains (granules_held hold.cells) granule
    → ((cells : ℕ → Cell) (places : ℕ → CpuPlace) → IsWellShaped config hold.side places cells → Agrees cells hold.cells → places cpu ≡ hold.place
    → Step (flat_state config cells) cpu command given (flat_state config (put cells granule cell))
    × IsWellShaped config hold.side places (put cells granule cell))
    → LocalStep config cpu command given hold (replaced hold granule cell)
one_cell-is_local config cpu command given hold granule cell has steps = record {
  same = granules_held-replaced_cells hold.cells granule cell;
  right = λ cells places shaped agrees place.
      let put_in = put_all-replaced hold.cells cells granule cell agrees has in
      let kept_places = put-same places cpu hold.place place in
      let step = steps cells places shaped agrees place in (
        subst (λ whole. Step (flat_state config cells) cpu command given (flat_state config whole)) (sym put_in) step.0,
        subst (λ whole. IsWellShaped config hold.side (put places cpu hold.place) whole) (sym put_in)
            (subst (λ p. IsWellShaped config hold.side p (put cells granule cell)) (sym kept_places) step.1),
      );
}

-- ---- any cells

put-twice : (cells : ℕ → Cell) (key : ℕ) (first second : Cell) → put (put cells key first) key second ≡ put cells key second
put-twice cells key first second = λ i other. by (other == key) (cells other) i
  where
    by : (b : Bool) (c : Cell) → (if b then second else (if b then first else c)) ≡ (if b then second else c)
    by true c = refl
    by false c = refl

-- puts at two places commute
put-swap : (cells : ℕ → Cell) (key other : ℕ) (first second : Cell) → (other ≡ key → ⊥)
    → put (put cells key first) other second ≡ put (put cells other second) key first
put-swap cells key other first second apart = λ i address. by address (address == other) (address == key) refl refl i
  where
    by : (address : ℕ) (a b : Bool) → (address == other) ≡ a → (address == key) ≡ b
        → (if a then second else (if b then first else cells address)) ≡ (if b then first else (if a then second else cells address))
    by address true true is_other is_key = absurd (apart (sym (eqb-true address other is_other) ∙ eqb-true address key is_key))
    by address true false is_other is_key = refl
    by address false true is_other is_key = refl
    by address false false is_other is_key = refl

-- what is put in over doesn't matter
put_all-over : (held : List HeldCell) (cells : ℕ → Cell) (granule : ℕ) (cell : Cell) → Contains (granules_held held) granule
    → put_all (put cells granule cell) held ≡ put_all cells held
put_all-over [] cells granule cell has = absurd (Contains-nil granule has)
put_all-over (h ∷ held) cells granule cell has =
    by (h.granule == granule) refl (put_all-over held (put cells h.granule h.cell) granule cell)
  where
    by : (b : Bool) → (h.granule == granule) ≡ b
        → (Contains (granules_held held) granule
        → put_all (put (put cells h.granule h.cell) granule cell) held ≡ put_all (put cells h.granule h.cell) held)
        → put_all (put (put cells granule cell) h.granule h.cell) held ≡ put_all (put cells h.granule h.cell) held
    by true same rest =
        ap (λ whole. put_all whole held)
        (subst (λ g. put (put cells g cell) h.granule h.cell ≡ put cells h.granule h.cell)
        (eqb-true h.granule granule same) (put-twice cells h.granule cell h.cell))
    by false apart rest =
        ap (λ whole. put_all whole held) (put-swap cells granule h.granule cell h.cell (keys_apart h.granule granule apart))
        ∙ rest (Contains-other h.granule (granules_held held) granule (keys_apart h.granule granule apart) has)

pub granules_held-replaced_all : (changes held : List HeldCell) → granules_held (replaced_all held changes) ≡ granules_held held
granules_held-replaced_all [] held = refl
granules_held-replaced_all (h ∷ changes) held =
    granules_held-replaced_all changes (replaced_cells held h.granule h.cell) ∙ granules_held-replaced_cells held h.granule h.cell

Agrees-replaced_cells : (held : List HeldCell) (cells : ℕ → Cell) (granule : ℕ) (cell : Cell) → Agrees cells held
    → Agrees (put cells granule cell) (replaced_cells held granule cell)
Agrees-replaced_cells [] cells granule cell agrees = tt
Agrees-replaced_cells (h ∷ held) cells granule cell agrees =
    (changed_at cells granule cell h agrees.0, Agrees-replaced_cells held cells granule cell agrees.1)

-- the held cells with the changes make the whole with the changes
put_all-replaced_all : (changes held : List HeldCell) (cells : ℕ → Cell) → Agrees cells held
    → ((h : HeldCell) → Contains changes h → Contains (granules_held held) h.granule)
    → put_all cells (replaced_all held changes) ≡ put_all cells changes
put_all-replaced_all [] held cells agrees within = put_all-agrees held cells agrees
put_all-replaced_all (h ∷ changes) held cells agrees within =
    let now = replaced_cells held h.granule h.cell in
    let granules : granules_held (replaced_all now changes) ≡ granules_held held =
    granules_held-replaced_all changes now ∙ granules_held-replaced_cells held h.granule h.cell in
    let there = subst (λ gs. Contains gs h.granule) (sym granules) (within h (Contains-head h changes)) in
    sym (put_all-over (replaced_all now changes) cells h.granule h.cell there)
    ∙ put_all-replaced_all changes now (put cells h.granule h.cell) (Agrees-replaced_cells held cells h.granule h.cell agrees)
    (λ x has. subst (λ gs. Contains gs x.granule)
    (sym (granules_held-replaced_cells held h.granule h.cell)) (within x (Contains-tail h changes x has)))

-- a step of every whole that agrees, which changes held cells alone, is a local step on whatever else is held
pub step-is_local : (config : Config) (cpu : ℕ) (command : Command) (given : Reply)
    (old : Hold) (changes : List HeldCell) (side : Side) (place : CpuPlace)
    → ((h : HeldCell) → Contains changes h → Contains (granules_held old.cells) h.granule)
    → ((cells : ℕ → Cell) (places : ℕ → CpuPlace) → IsWellShaped config old.side places cells → Agrees cells old.cells → places cpu ≡ old.place
    → Step (flat_state config cells) cpu command given (flat_state config (put_all cells changes))
    × IsWellShaped config side (put places cpu place) (put_all cells changes))
    → LocalStep config cpu command given old (record { cells = replaced_all old.cells changes; side = side; place = place })
step-is_local config cpu command given old changes side place within steps = record {
  same = granules_held-replaced_all changes old.cells;
  right = λ cells places shaped agrees placed.
      let put_in = put_all-replaced_all changes old.cells cells agrees within in
      let step = steps cells places shaped agrees placed in (
        subst (λ whole. Step (flat_state config cells) cpu command given (flat_state config whole)) (sym put_in) step.0,
        subst (λ whole. IsWellShaped config side (put places cpu place) whole) (sym put_in) step.1,
      );
}
