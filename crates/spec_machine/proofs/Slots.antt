-- Slots and the RECs beside them: the cells that they stand for, read and changed.
use Rattle.spec_machine.proofs.Common.{◌*◌, ◌++◌, ◌<◌, ◌==◌, ◌∙◌, ◌∷◌, ◌≡◌, ◌≤◌, AreHoused, Bool, HeldCells, HousedRec, List, None, RealmRecord, Slot, TableRecord, [], ap, arith, cases_lt, eqb-true, false, inl, inr, length, map, none-some, refl, replicate, seen, slice_index_or, suc, sym, true, zero, ℕ}
use Rattle.std.proofs.Common.{◌≢◌, ◌⊎◌, slice_set}
use Rattle.std.specs.List.{sum_by}
use Rattle.std.proofs.lemmas.Bool.{eqb-false}
use Rattle.std.proofs.lemmas.List.{get_or_default, get_or-map, get_or-set_other, get_or-set_same, get_or_append_left, length-append, length-map, length-set, map-append, map-set, set-get_or, set-set}
use Rattle.std.proofs.lemmas.List.Folds.{sum_by-replicate}
use Rattle.std.proofs.lemmas.List.Sums.{sum_by-append, sum_by-le, sum_by-set}
use Rattle.std.proofs.Math.Seq.{get_or-append_seam}
use Rattle.rmm_spec.specs.Cell as spec
use Rattle.rmm_spec.specs.State.{RecRecord}
use Rattle.spec_machine.specs.declared.slot.Slot.TheVariants.{Undelegated, Rd, Rec, Rtt}
use Rattle.spec_machine.specs.Held.{cell_at, cells_held, changed_in, held_in, housed_at, nowhere, number_at, number_of, one_of, recs_in, with_cell, AreKept}
use Rattle.spec_machine.proofs.Kept.{read-more}
use Rattle.lemmas.proofs.Elements.{map-copies}

-- ---- one slot

-- a slot that has a number is a REC's
pub seen-number : (recs : List HousedRec) (s : Slot) (number : ℕ) → number_of s ≡ suc number → seen recs s ≡ spec.Rec (housed_at recs number).rec
seen-number recs (Rec n) number is = ap (λ k. spec.Rec (housed_at recs k).rec) (let same : n ≡ number = omega (arith, is) in same)
seen-number recs _ number is = absurd (omega (arith, is))

-- and one that has none stands for the same cell whichever RECs there are
pub seen-plain : (recs others : List HousedRec) (s : Slot) → number_of s ≡ 0 → seen others s ≡ seen recs s
seen-plain recs others (Rec n) is = absurd (omega (arith, is))
seen-plain recs others _ is = refl

-- so a slot stands for the same cell where its REC is the same
seen-same : (recs others : List HousedRec) (s : Slot) → ((number : ℕ) → number_of s ≡ suc number → housed_at others number ≡ housed_at recs number)
    → seen others s ≡ seen recs s
seen-same recs others (Rec n) same = ap (λ (r : HousedRec). spec.Rec r.rec) (same n refl)
seen-same recs others _ same = refl

-- a cell that isn't a REC's is that of a slot without a number
pub plain-number : (recs : List HousedRec) (s : Slot) → ((rec : RecRecord) → seen recs s ≡ spec.Rec rec → ⊥) → number_of s ≡ 0
plain-number recs (Rec n) none = absurd (none (housed_at recs n).rec refl)
plain-number recs _ none = refl

pub not_rec-number : (s : Slot) → ((number : ℕ) → s ≡ Rec number → ⊥) → number_of s ≡ 0
not_rec-number (Rec n) none = absurd (none n refl)
not_rec-number _ none = refl

-- what has nothing of a kind has none to be read
pub not_realm : (recs : List HousedRec) (s : Slot) → ((r : RealmRecord) → s ≡ Rd r → ⊥) → spec.realm_in (seen recs s) ≡ None
not_realm recs (Rd r) none = absurd (none r refl)
not_realm recs _ none = refl

pub not_rec : (recs : List HousedRec) (s : Slot) → ((number : ℕ) → s ≡ Rec number → ⊥) → spec.rec_in (seen recs s) ≡ None
not_rec recs (Rec n) none = absurd (none n refl)
not_rec recs _ none = refl

pub not_table : (recs : List HousedRec) (s : Slot) → ((t : TableRecord) → s ≡ Rtt t → ⊥) → spec.table_in (seen recs s) ≡ None
not_table recs (Rtt t) none = absurd (none t refl)
not_table recs _ none = refl

one_of-le : (n : ℕ) → one_of n ≤ 1
one_of-le zero = omega arith
one_of-le (suc n) = omega arith

-- ---- lists of slots

-- the number that stands at a place once another slot is put in one
number-set : (slots : List Slot) (place : ℕ) (s : Slot) (other : ℕ) → place < length slots
    → ((other ≡ place) × (number_at (slice_set slots place s) other ≡ number_of s))
    ⊎ ((other ≢ place) × (number_at (slice_set slots place s) other ≡ number_at slots other))
number-set slots place s other within = by (other == place) refl
  where
    by : (b : Bool) → (other == place) ≡ b → ((other ≡ place) × (number_at (slice_set slots place s) other ≡ number_of s))
        ⊎ ((other ≢ place) × (number_at (slice_set slots place s) other ≡ number_at slots other))
    by true same =
        let here = eqb-true other place same in
        inl (here, ap (number_at (slice_set slots place s)) here ∙ ap number_of (get_or-set_same slots place s Undelegated within))
    by false apart =
        let elsewhere = eqb-false other place apart in
        inr (elsewhere, ap number_of (get_or-set_other slots place other s Undelegated elsewhere))

-- what has a number is within the list
pub number-within : (slots : List Slot) (place number : ℕ) → number_at slots place ≡ suc number → place < length slots
number-within [] place number is = absurd (omega (arith, is))
number-within (s ∷ slots) zero number is = omega arith
number-within (s ∷ slots) (suc place) number is = omega (arith, number-within slots place number is)

pub length-held : (slots : List Slot) (recs : List HousedRec) → length (cells_held slots recs) ≡ length slots
unfolding cells_held
length-held slots recs = length-map slots (seen recs)

-- A list that is opened at one of its places.
pub record IsOpened (slots : List Slot) (recs : List HousedRec) (room rec_room place : ℕ) (held : HeldCells) : Type 0 where
  pub are : AreKept slots recs room rec_room
  pub is : held_in slots recs room ≡ held
  pub within : place < length held.items

-- the place is one of the slots
pub in_slots : {slots : List Slot} {recs : List HousedRec} {room rec_room place : ℕ} {held : HeldCells} → IsOpened slots recs room rec_room place held
    → place < length slots
in_slots {slots = slots} {recs = recs} o = omega (arith, o.within, ap (λ (h : HeldCells). length h.items) o.is, length-held slots recs)

-- what its slot stands for is the cell there
pub slot-cell : {slots : List Slot} {recs : List HousedRec} {room rec_room place : ℕ} {held : HeldCells}
    → IsOpened slots recs room rec_room place held
    → (read : Slot) → read ≡ slice_index_or slots place read → seen recs read ≡ cell_at held place
unfolding cells_held
slot-cell {slots = slots} {recs = recs} {place = place} o read is_read =
    ap (seen recs) is_read ∙ sym (get_or-map (seen recs) slots place read spec.Undelegated (in_slots o))
    ∙ ap (λ (h : HeldCells). cell_at h place) o.is

-- and has its number
pub slot-number : (slots : List Slot) (place : ℕ) (read : Slot)
    → place < length slots → read ≡ slice_index_or slots place read → number_of read ≡ number_at slots place
slot-number [] place read within is = absurd (omega (arith, within))
slot-number (s ∷ slots) zero read within is = ap number_of is
slot-number (s ∷ slots) (suc place) read within is = slot-number slots place read (omega (arith, within)) is

-- a slot of a REC has its number, and the REC stands beside
pub rec-number : {slots : List Slot} {recs : List HousedRec} {room rec_room place : ℕ} {held : HeldCells}
    → IsOpened slots recs room rec_room place held
    → (number : ℕ) (read : Slot) → read ≡ slice_index_or slots place read → read ≡ Rec number → number_at slots place ≡ suc number
rec-number {slots = slots} {place = place} o number read is_read is = sym (slot-number slots place read (in_slots o) is_read) ∙ ap number_of is

pub rec-below : {slots : List Slot} {recs : List HousedRec} {room rec_room place : ℕ} {held : HeldCells}
    → IsOpened slots recs room rec_room place held
    → (number : ℕ) (read : Slot) → read ≡ slice_index_or slots place read → read ≡ Rec number → number < length recs
rec-below {place = place} o number read is_read is = (o.are.housed.numbered place number (rec-number o number read is_read is)).0

pub rec-read : (recs : List HousedRec) (number : ℕ) (read : HousedRec)
    → number < length recs → read ≡ slice_index_or recs number read → read ≡ housed_at recs number
rec-read recs number read below is = is ∙ get_or_default recs number read nowhere below

-- ---- a slot that is changed where it stands

-- and keeps its number
pub housed-set : (slots : List Slot) (recs : List HousedRec) (place : ℕ) (s : Slot) → AreHoused slots recs → place < length slots
    → number_of s ≡ number_at slots place → AreHoused (slice_set slots place s) recs
housed-set slots recs place s are within same = record {
  numbered = λ other number is. are.numbered other number (sym (kept other) ∙ is);
  at_home = λ number below. kept (housed_at recs number).home ∙ are.at_home number below;
  counted = omega (arith, are.counted, sum_by-set recs_in slots place s Undelegated within, ap one_of same);
}
  where
    kept : (other : ℕ) → number_at (slice_set slots place s) other ≡ number_at slots other
    kept other = elim (number-set slots place s other within) [
      | inl here ↦ here.1 ∙ (same ∙ ap (number_at slots) (sym here.0))
      | inr apart ↦ apart.1
    ]

pub kept-set : {slots : List Slot} {recs : List HousedRec} {room rec_room place : ℕ} {held : HeldCells} → IsOpened slots recs room rec_room place held
    → (read s : Slot) → read ≡ slice_index_or slots place read → number_of s ≡ number_of read → AreKept (slice_set slots place s) recs room rec_room
kept-set {slots = slots} {recs = recs} {place = place} o read s is_read same = record {
  housed = housed-set slots recs place s o.are.housed (in_slots o) (same ∙ slot-number slots place read (in_slots o) is_read);
  rooms = o.are.rooms;
}

-- so is the cell that it stands for
pub held-set : {slots : List Slot} {recs : List HousedRec} {room rec_room place : ℕ} {held : HeldCells} → IsOpened slots recs room rec_room place held
    → (read s : Slot) (change : spec.Cell → spec.Cell) → read ≡ slice_index_or slots place read → seen recs s ≡ change (seen recs read)
    → held_in (slice_set slots place s) recs room ≡ changed_in held place change
unfolding cells_held
held-set {slots = slots} {recs = recs} {room = room} {place = place} {held = held} o read s change is_read after =
    let to : seen recs s ≡ change (cell_at held place) = after ∙ ap change (slot-cell o read is_read) in
    (λ i. record { items = map-set (seen recs) slots place s i; room = room }) ∙ (λ i. with_cell (o.is i) place (to i))

-- ---- further slots

pub held-more : (slots : List Slot) (recs : List HousedRec) (n : ℕ)
    → cells_held (slots ++ replicate n Undelegated) recs ≡ cells_held slots recs ++ replicate n spec.Undelegated
unfolding cells_held
held-more slots recs n =
    map-append (seen recs) slots (replicate n Undelegated) ∙ ap (λ ys. map (seen recs) slots ++ ys) (map-copies (seen recs) n Undelegated)

pub housed-more : (slots : List Slot) (recs : List HousedRec) (n : ℕ) → AreHoused slots recs → AreHoused (slots ++ replicate n Undelegated) recs
housed-more slots recs n are = record {
  numbered = λ place number is. are.numbered place number (sym (kept place) ∙ is);
  at_home = λ number below. kept (housed_at recs number).home ∙ are.at_home number below;
  counted = omega (arith, are.counted, sum_by-append recs_in slots (replicate n Undelegated), sum_by-replicate recs_in n Undelegated);
}
  where
    kept : (place : ℕ) → number_at (slots ++ replicate n Undelegated) place ≡ number_at slots place
    kept place = ap number_of (read-more slots n place Undelegated)

pub housed-none : AreHoused [] []
housed-none = record {
  numbered = λ place number is. absurd (omega (arith, is));
  at_home = λ number below. absurd (omega (arith, below));
  counted = refl;
}

-- ---- RECs that are made

-- where a slot has no REC, there are fewer RECs than slots
pub fewer-recs : (slots : List Slot) (recs : List HousedRec) (place : ℕ) → AreHoused slots recs → place < length slots → number_at slots place ≡ 0
    → length recs < length slots
fewer-recs slots recs place are within none =
    let full = slice_set slots place (Rec 0) in
    let most : sum_by recs_in full ≤ length full * 1 = sum_by-le recs_in 1 full (λ k d below. one_of-le _) in
    omega (arith, are.counted, most, length-set slots place (Rec 0), sum_by-set recs_in slots place (Rec 0) Undelegated within, ap one_of none)

-- where slots stand for the same cells but for one place, what is put in that place is put in the same
put-agree : (slots others : List Slot) (recs new : List HousedRec) (place : ℕ) (cell : spec.Cell) → length others ≡ length slots
    → ((other : ℕ) → other ≢ place → seen new (slice_index_or others other Undelegated) ≡ seen recs (slice_index_or slots other Undelegated))
    → slice_set (cells_held others new) place cell ≡ slice_set (cells_held slots recs) place cell
unfolding cells_held
put-agree [] [] recs new place cell size same = refl
put-agree [] (o ∷ others) recs new place cell size same = absurd (omega (arith, size))
put-agree (s ∷ slots) [] recs new place cell size same = absurd (omega (arith, size))
put-agree (s ∷ slots) (o ∷ others) recs new zero cell size same =
    ap (λ cells. cell ∷ cells) (all slots others (omega (arith, size)) (λ other. same (suc other) (λ here. omega (arith, here))))
  where
    all : (slots others : List Slot) → length others ≡ length slots
        → ((other : ℕ) → seen new (slice_index_or others other Undelegated) ≡ seen recs (slice_index_or slots other Undelegated))
        → map (seen new) others ≡ map (seen recs) slots
    all [] [] size same = refl
    all [] (o ∷ others) size same = absurd (omega (arith, size))
    all (s ∷ slots) [] size same = absurd (omega (arith, size))
    all (s ∷ slots) (o ∷ others) size same = λ i. same 0 i ∷ all slots others (omega (arith, size)) (λ other. same (suc other)) i
put-agree (s ∷ slots) (o ∷ others) recs new (suc place) cell size same =
    let first = same 0 (λ here. omega (arith, here)) in
    let rest =
    put-agree slots others recs new place cell (omega (arith, size)) (λ other apart. same (suc other) (λ here. apart (omega (arith, here)))) in
    λ i. first i ∷ rest i

-- the same where only the RECs of other slots stay
put-kept : (slots : List Slot) (recs new : List HousedRec) (place : ℕ) (cell : spec.Cell)
    → ((other number : ℕ) → other ≢ place → number_at slots other ≡ suc number → housed_at new number ≡ housed_at recs number)
    → slice_set (cells_held slots new) place cell ≡ slice_set (cells_held slots recs) place cell
put-kept slots recs new place cell same =
    put-agree slots slots recs new place cell refl (λ other apart.
    seen-same recs new (slice_index_or slots other Undelegated) (λ number is. same other number apart is))

module _ (slots : List Slot) (recs : List HousedRec) (place number : ℕ) (rec : HousedRec) (are : AreHoused slots recs) (within : place < length slots)
    (none : number_at slots place ≡ 0) (home : rec.home ≡ place) (next : number ≡ length recs) where
  -- a REC with the next number is that one, and the others are as they were
  made-same : (n : ℕ) → n < length recs → housed_at (recs ++ rec ∷ []) n ≡ housed_at recs n
  made-same n below = get_or_append_left recs (rec ∷ []) nowhere n below

  made-last : (n : ℕ) → n ≡ length recs → housed_at (recs ++ rec ∷ []) n ≡ rec
  made-last n at = ap (housed_at (recs ++ rec ∷ [])) at ∙ get_or-append_seam recs rec [] nowhere

  pub housed-made : AreHoused (slice_set slots place (Rec number)) (recs ++ rec ∷ [])
  housed-made = record {
    numbered = λ other n is. elim (number-set slots place (Rec number) other within) [
      | inl here ↦
          let at : n ≡ length recs = omega (arith, is, here.1, next) in
          (omega (arith, at, length-append recs (rec ∷ [])), ap (λ (r : HousedRec). r.home) (made-last n at) ∙ (home ∙ sym here.0))
      | inr apart ↦
          let old = are.numbered other n (sym apart.1 ∙ is) in
          (omega (arith, old.0, length-append recs (rec ∷ [])), ap (λ (r : HousedRec). r.home) (made-same n old.0) ∙ old.1)
    ];
    at_home = λ n below. elim (cases_lt n (length recs)) [
      | inl old ↦ kept n old
      | inr from ↦
          let at : n ≡ length recs = omega (arith, below, from, length-append recs (rec ∷ [])) in
          let there : (housed_at (recs ++ rec ∷ []) n).home ≡ place = ap (λ (r : HousedRec). r.home) (made-last n at) ∙ home in
          ap (number_at (slice_set slots place (Rec number))) there
          ∙ (ap number_of (get_or-set_same slots place (Rec number) Undelegated within) ∙ ap suc (next ∙ sym at))
    ];
    counted =
        omega (arith, are.counted, length-append recs (rec ∷ []), sum_by-set recs_in slots place (Rec number) Undelegated within, ap one_of none);
  }
    where
      kept : (n : ℕ) → n < length recs → number_at (slice_set slots place (Rec number)) (housed_at (recs ++ rec ∷ []) n).home ≡ suc n
      kept n old =
          let own = are.at_home n old in
          ap (λ (r : HousedRec). number_at (slice_set slots place (Rec number)) r.home) (made-same n old)
          ∙ elim (number-set slots place (Rec number) (housed_at recs n).home within) [
            | inl here ↦ absurd (omega (arith, own, ap (number_at slots) here.0, none))
            | inr apart ↦ apart.1 ∙ own
          ]

  -- and it lies at the place
  pub held-made : (room : ℕ) (held : HeldCells) → held_in slots recs room ≡ held
      → held_in (slice_set slots place (Rec number)) (recs ++ rec ∷ []) room ≡ with_cell held place (spec.Rec rec.rec)
  unfolding cells_held
  held-made room held is =
      let new = recs ++ rec ∷ [] in
      let cell : seen new (Rec number) ≡ spec.Rec rec.rec = ap (λ (r : HousedRec). spec.Rec r.rec) (made-last number next) in
      let items = map-set (seen new) slots place (Rec number)
      ∙ (ap (slice_set (map (seen new) slots) place) cell
      ∙ put-kept slots recs new place (spec.Rec rec.rec) (λ other n apart at. made-same n (are.numbered other n at).0)) in
      (λ i. record { items = items i; room = room }) ∙ (λ i. with_cell (is i) place (spec.Rec rec.rec))

-- ---- places without a REC

-- the cells are as many once one is taken out, its place is the host's, and whatever is put in then is put in as it was before
pub vacated-length : (held : HeldCells) (place : ℕ) → length (with_cell held place spec.Undelegated).items ≡ length held.items
vacated-length held place = length-set held.items place spec.Undelegated

pub vacated-cell : (held : HeldCells) (place : ℕ) → place < length held.items
    → cell_at (with_cell held place spec.Undelegated) place ≡ spec.Undelegated
vacated-cell held place within = get_or-set_same held.items place spec.Undelegated spec.Undelegated within

pub put-vacated : (held : HeldCells) (place : ℕ) (cell : spec.Cell)
    → with_cell (with_cell held place spec.Undelegated) place cell ≡ with_cell held place cell
put-vacated held place cell = λ i. record { items = set-set held.items place spec.Undelegated cell i; room = held.room }

-- the slot of a place without a REC has no number
pub no_rec-number : {slots : List Slot} {recs : List HousedRec} {room rec_room place : ℕ} {held : HeldCells}
    → IsOpened slots recs room rec_room place held
    → spec.rec_in (cell_at held place) ≡ None → number_at slots place ≡ 0
no_rec-number {slots = slots} {recs = recs} {place = place} o none =
    let read = slice_index_or slots place Undelegated in
    let at = slot-cell o read (get_or_default slots place Undelegated read (in_slots o)) in
    plain-number recs read (λ rec here. none-some rec (sym none ∙ ap spec.rec_in (sym at ∙ here)))

-- ---- a REC that is changed where it stands

module _ (slots : List Slot) (recs : List HousedRec) (place number : ℕ) (rec : HousedRec) (are : AreHoused slots recs)
    (at : number_at slots place ≡ suc number) where
  below : number < length recs
  below = (are.numbered place number at).0

  changed-other : (n : ℕ) → n ≢ number → housed_at (slice_set recs number rec) n ≡ housed_at recs n
  changed-other n apart = get_or-set_other recs number n rec nowhere apart

  changed-here : housed_at (slice_set recs number rec) number ≡ rec
  changed-here = get_or-set_same recs number rec nowhere below

  pub housed-changed : rec.home ≡ (housed_at recs number).home → AreHoused slots (slice_set recs number rec)
  housed-changed same = record {
    numbered = λ other n is.
        let old = are.numbered other n is in
        (omega (arith, old.0, length-set recs number rec), home n ∙ old.1);
    at_home = λ n within. ap (number_at slots) (home n) ∙ are.at_home n (omega (arith, within, length-set recs number rec));
    counted = omega (arith, are.counted, length-set recs number rec);
  }
    where
      by : (n : ℕ) (b : Bool) → (n == number) ≡ b → (housed_at (slice_set recs number rec) n).home ≡ (housed_at recs n).home
      by n true is =
          let here = eqb-true n number is in
          ap (λ k. (housed_at (slice_set recs number rec) k).home) here
          ∙ (ap (λ (r : HousedRec). r.home) changed-here ∙ (same ∙ ap (λ k. (housed_at recs k).home) (sym here)))
      by n false is = ap (λ (r : HousedRec). r.home) (changed-other n (eqb-false n number is))

      home : (n : ℕ) → (housed_at (slice_set recs number rec) n).home ≡ (housed_at recs n).home
      home n = by n (n == number) refl

  -- no other slot has the REC
  others-kept : (other n : ℕ) → other ≢ place → number_at slots other ≡ suc n → housed_at (slice_set recs number rec) n ≡ housed_at recs n
  others-kept other n apart is =
      changed-other n (λ here. apart (sym (are.numbered other n is).1 ∙ (ap (λ k. (housed_at recs k).home) here ∙ (are.numbered place number at).1)))

  pub held-rec : (room : ℕ) (held : HeldCells) (change : spec.Cell → spec.Cell) → held_in slots recs room ≡ held
      → spec.Rec rec.rec ≡ change (spec.Rec (housed_at recs number).rec)
      → held_in slots (slice_set recs number rec) room ≡ changed_in held place change
  unfolding cells_held
  held-rec room held change is after =
      let new = slice_set recs number rec in
      let within = number-within slots place number at in
      let read = slice_index_or slots place Undelegated in
      let was : spec.Rec (housed_at recs number).rec ≡ cell_at held place =
      sym (seen-number recs read number at)
      ∙ (sym (get_or-map (seen recs) slots place Undelegated spec.Undelegated within) ∙ ap (λ (h : HeldCells). cell_at h place) is) in
      let cell : slice_index_or (map (seen new) slots) place spec.Undelegated ≡ change (cell_at held place) =
      get_or-map (seen new) slots place Undelegated spec.Undelegated within
      ∙ (seen-number new read number at ∙ (ap (λ (r : HousedRec). spec.Rec r.rec) changed-here ∙ (after ∙ ap change was))) in
      let items = sym (set-get_or (map (seen new) slots) place spec.Undelegated)
      ∙ (ap (slice_set (map (seen new) slots) place) cell ∙ put-kept slots recs new place (change (cell_at held place)) others-kept) in
      (λ i. record { items = items i; room = room }) ∙ (λ i. with_cell (is i) place (change (cell_at held place)))

-- ---- a REC that goes: the last one gets its number

-- a REC's home is one of the slots
pub home-within : (slots : List Slot) (recs : List HousedRec) (number home : ℕ) → AreHoused slots recs → number < length recs
    → (housed_at recs number).home ≡ home → home < length slots
home-within slots recs number home are below is = number-within slots home number (ap (number_at slots) (sym is) ∙ are.at_home number below)

module _ (slots : List Slot) (recs new : List HousedRec) (place number last home : ℕ) (are : AreHoused slots recs)
    (at : number_at slots place ≡ suc number) (count : suc last ≡ length recs) (is_home : (housed_at recs last).home ≡ home)
    (fewer : suc (length new) ≡ length recs) (moved : number < last → housed_at new number ≡ housed_at recs last)
    (stay : (n : ℕ) → n ≢ number → n < last → housed_at new n ≡ housed_at recs n) where
  own : (number < length recs) × ((housed_at recs number).home ≡ place)
  own = are.numbered place number at

  last-number : number_at slots home ≡ suc last
  last-number = ap (number_at slots) (sym is_home) ∙ are.at_home last (omega (arith, count))

  home-slots : home < length slots
  home-slots = number-within slots home last last-number

  place-within : place < length slots
  place-within = number-within slots place number at

  -- where the last one has another home, it isn't the one that goes
  goes-first : (home ≡ place → ⊥) → number < last
  goes-first apart = elim (cases_lt number last) [
    | inl less ↦ less
    | inr from ↦
        let same : last ≡ number = omega (arith, from, count, own.0) in
        absurd (apart (sym is_home ∙ (ap (λ k. (housed_at recs k).home) same ∙ own.1)))
  ]

  abbrev first : List Slot
  first = slice_set slots home (Rec number)

  abbrev left : List Slot
  left = slice_set first place Undelegated

  within-first : place < length first
  within-first = omega (arith, place-within, length-set slots home (Rec number))

  -- what the slots have then: the place has none, the last one's home the number, and the others what they had
  data IsLeft (other : ℕ) : Type 0 where
    vacant : other ≡ place → number_at left other ≡ 0 → IsLeft other
    taken : other ≢ place → other ≡ home → number_at left other ≡ suc number → IsLeft other
    kept : other ≢ place → other ≢ home → number_at left other ≡ number_at slots other → IsLeft other

  is_left : (other : ℕ) → IsLeft other
  is_left other = elim (number-set first place Undelegated other within-first) [
    | inl here ↦ vacant here.0 here.1
    | inr apart ↦ elim (number-set slots home (Rec number) other home-slots) [
      | inl there ↦ taken apart.0 there.0 (apart.1 ∙ there.1)
      | inr elsewhere ↦ kept apart.0 elsewhere.0 (apart.1 ∙ elsewhere.1)
    ]
  ]

  -- a slot that kept its number has one of the RECs that stay
  stays : (other n : ℕ) → other ≢ place → other ≢ home → number_at slots other ≡ suc n → (n ≢ number) × (n < last)
  stays other n apart elsewhere is =
      let old = are.numbered other n is in
      let differs : n ≢ number = λ same. apart (sym old.1 ∙ (ap (λ k. (housed_at recs k).home) same ∙ own.1)) in
      let not_last : n ≢ last = λ same. elsewhere (sym old.1 ∙ (ap (λ k. (housed_at recs k).home) same ∙ is_home)) in
      (differs, omega (arith, old.0, count, not_last))

  pub housed-removed : AreHoused left new
  housed-removed = record {
    numbered = λ other n is. elim (is_left other) [
      | vacant here none ↦ absurd (omega (arith, is, none))
      | taken apart there has ↦
          let less = goes-first (λ same. apart (there ∙ same)) in
          let same : n ≡ number = omega (arith, is, has) in (
            omega (arith, same, less, fewer, count),
            ap (λ k. (housed_at new k).home) same ∙ (ap (λ (r : HousedRec). r.home) (moved less) ∙ (is_home ∙ sym there)),
          )
      | kept apart elsewhere has ↦
          let old = sym has ∙ is in
          let one = stays other n apart elsewhere old in
          (omega (arith, one.1, fewer, count), ap (λ (r : HousedRec). r.home) (stay n one.0 one.1) ∙ (are.numbered other n old).1)
    ];
    at_home = λ n within. by n (n == number) refl (omega (arith, within, fewer, count));
    counted = omega (
      arith,
      are.counted,
      fewer,
      sum_by-set recs_in slots home (Rec number) Undelegated home-slots,
      sum_by-set recs_in first place Undelegated Undelegated within-first,
      ap one_of last-number,
      ap one_of first-number,
    );
  }
    where
      -- the place has a REC's number until it is vacated
      first-number : number_at first place ≡ suc number
      first-number = elim (number-set slots home (Rec number) place home-slots) [ inl there ↦ there.1 | inr elsewhere ↦ elsewhere.1 ∙ at ]

      by : (n : ℕ) (b : Bool) → (n == number) ≡ b → n < last → number_at left (housed_at new n).home ≡ suc n
      by n true is less =
          let same = eqb-true n number is in
          let there : (housed_at new n).home ≡ home =
          ap (λ k. (housed_at new k).home) same ∙ (ap (λ (r : HousedRec). r.home) (moved (omega (arith, same, less))) ∙ is_home) in
          ap (number_at left) there ∙ elim (is_left home) [
            | vacant here none ↦ absurd (omega (arith, last-number, ap (number_at slots) here, at, same, less))
            | taken apart here has ↦ has ∙ ap suc (sym same)
            | kept apart elsewhere has ↦ absurd (elsewhere refl)
          ]
      by n false is less =
          let differs = eqb-false n number is in
          let own_number = are.at_home n (omega (arith, less, count)) in
          ap (λ (r : HousedRec). number_at left r.home) (stay n differs less) ∙ elim (is_left (housed_at recs n).home) [
            | vacant here none ↦ absurd (differs (let same : n ≡ number = omega (arith, own_number, ap (number_at slots) here, at) in same))
            | taken apart there has ↦ absurd (omega (arith, own_number, ap (number_at slots) there, last-number, less))
            | kept apart elsewhere has ↦ has ∙ own_number
          ]

  -- the other cells stay
  others-stay : (other : ℕ) → other ≢ place → seen new (slice_index_or left other Undelegated) ≡ seen recs (slice_index_or slots other Undelegated)
  others-stay other apart =
      ap (seen new) (get_or-set_other first place other Undelegated Undelegated apart) ∙ by (other == home) refl
    where
      by : (b : Bool) → (other == home) ≡ b → seen new (slice_index_or first other Undelegated) ≡ seen recs (slice_index_or slots other Undelegated)
      by true is =
          let there = eqb-true other home is in
          let less = goes-first (λ same. apart (there ∙ same)) in
          ap (λ k. seen new (slice_index_or first k Undelegated)) there
          ∙ (ap (seen new) (get_or-set_same slots home (Rec number) Undelegated home-slots)
          ∙ (ap (λ (r : HousedRec). spec.Rec r.rec) (moved less)
          ∙ sym (seen-number recs (slice_index_or slots other Undelegated) last (ap (number_at slots) there ∙ last-number))))
      by false is =
          let elsewhere = eqb-false other home is in
          ap (seen new) (get_or-set_other slots home other (Rec number) Undelegated elsewhere)
          ∙ seen-same recs new (slice_index_or slots other Undelegated)
          (λ n has. let one = stays other n apart elsewhere has in stay n one.0 one.1)

  pub held-removed : (room : ℕ) (held : HeldCells) → held_in slots recs room ≡ held → held_in left new room ≡ with_cell held place spec.Undelegated
  unfolding cells_held
  held-removed room held is =
      let at_place : cell_at (held_in left new room) place ≡ spec.Undelegated =
      get_or-map (seen new) left place Undelegated spec.Undelegated (omega (arith, within-first, length-set first place Undelegated))
      ∙ ap (seen new) (get_or-set_same first place Undelegated Undelegated within-first) in
      let items = sym (set-get_or (map (seen new) left) place spec.Undelegated)
      ∙ (ap (slice_set (map (seen new) left) place) at_place
      ∙ put-agree slots left recs new place spec.Undelegated (length-set first place Undelegated ∙ length-set slots home (Rec number)) others-stay) in
      (λ i. record { items = items i; room = room }) ∙ (λ i. with_cell (is i) place spec.Undelegated)
