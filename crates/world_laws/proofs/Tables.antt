-- What a held table tells of entries and walks is what each whole has that agrees with it.
use Rattle.world_laws.proofs.Common.{◌-◌, ◌/◌, ◌<◌, ◌==◌, ◌∙◌, ◌≡◌, ◌≤◌, ◌⊎◌, Bool, Cell, Config, Entry, HeldCell, HoldsTable, IsTrue, List, None, Option, Side, Some, State, Table, ap, arith, entry_at, entry_for, entry_number, false, false≢true, flat_state, if◌then◌else◌, inl, inr, is_some, is_table, reach, reach-le, refl, seen_state, subst, suc, sym, table_held, table_number, table_number-entry, table_placed, tables_of, true, ℕ}
use Rattle.std.proofs.Common.{zero, ◌+◌, ◌*◌, ◌%◌, slice_get, nat_lt}
use Rattle.std.specs.Option.{option_and_then}
use Rattle.std.proofs.lemmas.Bool.{cases_order}
use Rattle.std.proofs.lemmas.Bool.Decides.{nat_tests}
use Rattle.rmm_spec.specs.declared.entry.Entry.TheVariants.{Unassigned}
use Rattle.rmm_spec.specs.State.{RealmRecord}
use Rattle.rmm_spec.specs.TableCells.{leaf_of}
use Rattle.rmm_spec.specs.Walk.{linked_entry}
use Rattle.rmm_spec.specs.Sound.{IsSound}
use Rattle.rmm_spec.specs.Flat.{table_granule}
use Rattle.spec_lemmas.proofs.WalkLaws.{table_number-suc, reach-covers}
use Rattle.rmm_laws.proofs.Entries.{entry-leaf, entry-link}
use Rattle.rmm_laws.proofs.Finds.{holds-found}
use Rattle.rmm_laws.proofs.ShapeTies.{entry_leaf-some, leaf-found, link_or_leaf, entry_there, number-again, at_place, IsTied-shaped}
use Rattle.world_laws.specs.SeenState.{entry_in, entry_held, link_of, table_seen, leaf_seen}
use Rattle.world_laws.proofs.Found.{placed-holds}
use Rattle.world_laws.proofs.Wholes.{Whole, state, sound, whole_table}
use Rattle.lemmas.proofs.Tests.{both_ways}
use Rattle.lemmas.proofs.Options.{value_there}

-- ---- tables

-- the held table of a place is the whole's
pub whole_holds : {config : Config} {side : Side} {held : List HeldCell} (w : Whole config side held) (g rd level number : ℕ)
    → HoldsTable (table_held held) g rd level number → HoldsTable (tables_of w.cells) g rd level number
whole_holds {config} {side} {held} w g rd level number holds = record {
  table = holds.table;
  is_held = whole_table w g holds.table holds.is_held;
  is_realm = holds.is_realm;
  is_level = holds.is_level;
  is_number = holds.is_number;
}

-- a table of the whole is found at its place
pub whole_found : {config : Config} {side : Side} {held : List HeldCell} (w : Whole config side held) (g rd level number : ℕ)
    → HoldsTable (tables_of w.cells) g rd level number → table_granule config.granules (tables_of w.cells) rd level number ≡ Some g
whole_found {config} {side} {held} w g rd level number holds =
    holds-found config.granules (tables_of w.cells) g rd level number (IsTied-shaped config side w.places w.cells w.shaped).tables.found holds

-- and found at its place
pub placed-found : {config : Config} {side : Side} {held : List HeldCell} (w : Whole config side held) (rd level number g : ℕ)
    → table_placed held rd level number ≡ Some g → (state w).table rd level number ≡ Some g
unfolding flat_state
placed-found {config} {side} {held} w rd level number g is =
    whole_found w g rd level number (whole_holds w g rd level number (placed-holds held rd level number g is))

-- ---- entries

-- an entry of a table of the whole is the flat state's
entry-whole : {config : Config} {side : Side} {held : List HeldCell} (w : Whole config side held) (g rd level number : ℕ) (e : Entry)
    → (holds : HoldsTable (tables_of w.cells) g rd level (number / 512)) → slice_get holds.table.entries (number % 512) ≡ Some e
    → entry_at (state w) rd level number ≡ e
unfolding flat_state
entry-whole {config} {side} {held} w g rd level number e holds at = elim (link_or_leaf e) [
  | inl link ↦ entry-link (state w) (sound w) rd level number link.0 (whole_found w link.0 rd (suc level) number
      (subst (λ n. HoldsTable (tables_of w.cells) link.0 rd (suc level) n) (number-again number)
      (at_place (λ a b c. HoldsTable (tables_of w.cells) link.0 a (suc b) (512 * c + number % 512)) holds
      (w.shaped.tables.links g (number % 512) link.0 holds.table holds.is_held (at ∙ ap Some link.1))))) ∙ sym link.1
  | inr leaf ↦ entry-leaf (state w) (sound w) rd level number e
      (leaf-found config.granules (tables_of w.cells) rd level number g holds.table (whole_found w g rd level (number / 512) holds) holds.is_held
      ∙ entry_leaf-some holds.table.entries (number % 512) e at leaf)
]

-- what an entry links to, and its leaf, are the entry
linked-own : (e : Entry) → linked_entry (link_of e) (if is_table e then None else Some e) ≡ e
linked-own (Unassigned ripas) = refl
linked-own _ = refl

-- so is an entry that is no link by itself
unlinked-own : (e : Entry) → is_table e ≡ false → linked_entry None (if is_table e then None else Some e) ≡ e
unlinked-own (Table granule) leaf = absurd (false≢true (sym leaf))
unlinked-own _ leaf = refl

-- below a table that is held stands what it links to
table-below : (held : List HeldCell) (rd level number : ℕ) (e : Entry) → entry_held held rd level number ≡ Some e
    → table_seen held rd (level + 1) number ≡ link_of e
unfolding table_seen
table-below held rd level number e is =
    let below : (level + 1 == 0) ≡ false = grind (arith, nat_tests) in
    let above : level + 1 - 1 ≡ level = omega arith in
    rw (below, above, is) refl

-- an entry of a held table is that of the state that the cells tell of
pub entry-seen : (config : Config) (held : List HeldCell) (rd level number : ℕ) (e : Entry) → entry_held held rd level number ≡ Some e
    → (nat_lt level 3 ≡ false → is_table e ≡ false) → entry_at (seen_state config held) rd level number ≡ e
unfolding entry_at seen_state leaf_seen
entry-seen config held rd level number e is last = by (nat_lt level 3) refl
  where
    by : (b : Bool) → nat_lt level 3 ≡ b
        → linked_entry (if b then table_seen held rd (level + 1) number else None) (option_and_then leaf_of (entry_held held rd level number)) ≡ e
    by true less =
        (λ i. linked_entry (table-below held rd level number e is i) (option_and_then leaf_of (is i))) ∙ linked-own e
    by false end = ap (λ (o : Option Entry). linked_entry None (option_and_then leaf_of o)) is ∙ unlinked-own e (last end)

-- no link stands at the last level
last-unlinked : {config : Config} {side : Side} {held : List HeldCell} (w : Whole config side held) (g i rd level number : ℕ) (e : Entry)
    → (holds : HoldsTable (tables_of w.cells) g rd level number)
    → slice_get holds.table.entries i ≡ Some e → nat_lt level 3 ≡ false → is_table e ≡ false
last-unlinked {config} {side} {held} w g i rd level number (Table child) holds at end =
    let owner = w.shaped.tables.placed g holds.table holds.is_held in
    let less : holds.table.place.level < 3 = w.shaped.tables.kinds g i holds.table owner.0 (Table child) holds.is_held owner.1 at in
    let same = holds.is_level in
    let below : level < 3 = omega (arith, less, same) in
    let test : nat_lt level 3 ≡ true = grind (arith, nat_tests, below) in
    absurd (false≢true (sym end ∙ test))
last-unlinked {config} {side} {held} w g i rd level number (Unassigned ripas) holds at end = refl
last-unlinked {config} {side} {held} w g i rd level number _ holds at end = refl

-- the entry of a held table, as it is told and as the whole has it
pub record HeldEntry (config : Config) (cells : ℕ → Cell) (held : List HeldCell) (rd level number : ℕ) : Type 0 where
  pub entry : Entry
  pub found : entry_held held rd level number ≡ Some entry
  pub whole : entry_at (flat_state config cells) rd level number ≡ entry
  pub seen : entry_at (seen_state config held) rd level number ≡ entry

-- each held table has it
pub entry-there : {config : Config} {side : Side} {held : List HeldCell} (w : Whole config side held) (g rd level number : ℕ)
    → table_placed held rd level (number / 512) ≡ Some g → HeldEntry config w.cells held rd level number
unfolding entry_held whole_holds
entry-there {config} {side} {held} w g rd level number is =
    let here = placed-holds held rd level (number / 512) g is in
    let holds = whole_holds w g rd level (number / 512) here in
    let low : number % 512 < 512 = omega arith in
    let e = entry_there here.table.entries (number % 512) (w.shaped.tables.whole g here.table holds.is_held) low in
    let found : entry_held held rd level number ≡ Some e.0 =
    ap (option_and_then (λ (granule : ℕ). entry_in (number % 512) (table_held held granule))) is
    ∙ (ap (entry_in (number % 512)) here.is_held ∙ e.1) in
    record {
      entry = e.0;
      found = found;
      whole = entry-whole w g rd level number e.0 holds e.1;
      seen = entry-seen config held rd level number e.0 found (last-unlinked w g (number % 512) rd level (number / 512) e.0 holds e.1);
    }

-- an entry whose table is held is told as the whole has it
pub entry-same : {config : Config} {side : Side} {held : List HeldCell} (w : Whole config side held) (g rd level number : ℕ)
    → table_placed held rd level (number / 512) ≡ Some g
    → entry_at (state w) rd level number ≡ entry_at (seen_state config held) rd level number
entry-same {config} {side} {held} w g rd level number is = let e = entry-there w g rd level number is in e.whole ∙ sym e.seen

-- ---- walks

-- a table that covers an address stands, over others, below one of a higher level that does
climb : (s : State) → IsSound s → (rd ipa level : ℕ) (r : RealmRecord) → s.realm rd ≡ Some r → r.start_level ≤ level
    → (k deep : ℕ) → deep ≡ suc (k + level) → IsTrue (is_some (s.table rd deep (table_number deep ipa)))
    → IsTrue (is_some (s.table rd (suc level) (table_number (suc level) ipa)))
climb s ok rd ipa level r realm under zero deep same there =
    let first : deep ≡ suc level = omega (arith, same) in
    subst (λ d. IsTrue (is_some (s.table rd d (table_number d ipa)))) first there
climb s ok rd ipa level r realm under (suc k) deep same there =
    let up = suc (k + level) in
    let t = value_there (s.table rd deep (table_number deep ipa)) there in
    let owner = ok.tables.owned rd deep (table_number deep ipa) t.0 t.1 in
    let down : deep ≡ suc up = omega (arith, same) in
    let last : up ≤ 3 = omega (arith, owner.2.last, same) in
    let at : s.table rd (suc up) (table_number (suc up) ipa) ≡ Some t.0 = subst (λ d. s.table rd d (table_number d ipa) ≡ Some t.0) down t.1 in
    let above = ok.tables.below rd up (table_number (suc up) ipa) t.0 r at realm (omega arith) in
    let number : table_number (suc up) ipa / 512 ≡ table_number up ipa =
    ap (λ n. n / 512) (table_number-suc up ipa) ∙ sym (table_number-entry up ipa last) in
    climb s ok rd ipa level r realm under k up refl (subst (λ n. IsTrue (is_some (s.table rd up n))) number above)

-- the walk ends at a table that covers the address, where its level is the last or its entry no link
pub reach-end : (s : State) → IsSound s → (rd ipa level max g : ℕ) → s.table rd level (table_number level ipa) ≡ Some g → level ≤ max
    → (level ≡ max) ⊎ (is_table (entry_for s rd level ipa) ≡ false) → reach s rd ipa max ≡ level
reach-end s ok rd ipa level max g found within ends =
    let reached = reach-covers s rd ipa level max (ap is_some found) within in
    let most = reach-le s rd ipa max in
    elim ends [
      | inl last ↦ omega (arith, last, reached.0, most)
      | inr unlinked ↦ by (cases_order level (reach s rd ipa max)) unlinked reached
    ]
  where
    by : (level ≡ reach s rd ipa max) ⊎ ((level < reach s rd ipa max) ⊎ (reach s rd ipa max < level)) → is_table (entry_for s rd level ipa) ≡ false
        → (level ≤ reach s rd ipa max) × (is_some (s.table rd (reach s rd ipa max) (table_number (reach s rd ipa max) ipa)) ≡ true)
        → reach s rd ipa max ≡ level
    by (inl same) unlinked reached = sym same
    by (inr (inr more)) unlinked reached = absurd (omega (arith, more, reached.0))
    by (inr (inl less)) unlinked reached =
        let deep = reach s rd ipa max in
        let owner = ok.tables.owned rd level (table_number level ipa) g found in
        let counted : deep ≡ suc ((deep - suc level) + level) = omega (arith, less) in
        let below = climb s ok rd ipa level owner.0 owner.1 owner.2.below_root (deep - suc level) deep counted reached.1 in
        let child = value_there (s.table rd (suc level) (table_number (suc level) ipa)) below in
        let link = entry-link s ok rd level (entry_number level ipa) child.0
        (subst (λ n. s.table rd (suc level) n ≡ Some child.0) (table_number-suc level ipa) child.1) in
        both_ways (ap is_table link) unlinked
