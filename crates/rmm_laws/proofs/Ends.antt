-- What a command that walks finds at the end of its walk.
use Rattle.rmm_laws.proofs.SoundCommon.{◌*◌, ◌+◌, ◌-◌, ◌/◌, ◌<◌, ◌∙◌, ◌≡◌, ◌≤◌, Entry, IsLeafOf, IsSound, IsTrue, Rd, RealmRecord, Ripas, State, Unassigned, UnassignedNs, and_parts, ap, arith, entry_at, eq-eqb, eqb-true, false, has_tag, is_table, nat_lt, realm_at, refl, subst, suc, sym, zero, ℕ}
use Rattle.std.proofs.Common.{◌%◌, ◌^◌, not, nat_le}
use Rattle.std.proofs.lemmas.Bool.{not-true, ltb-true, ltb-false, leb-true}
use Rattle.std.proofs.lemmas.Nat.{div-mul-add}
use Rattle.rmm_spec.specs.declared.accepted.Stretch.{Stretch}
use Rattle.rmm_spec.specs.declared.accepted.StretchUse.{StretchUse}
use Rattle.rmm_spec.specs.declared.accepted.StretchUse.TheVariants.{Init, Requested}
use Rattle.rmm_spec.specs.Walk.{entry_size, table_size, entry_number, table_number, full, half, is_multiple, is_assigned, reach, walk}
use Rattle.rmm_spec.specs.Step.Terms.{is_page}
use Rattle.rmm_spec.specs.Step.Table.{entry_after_table}
use Rattle.rmm_spec.specs.Step.Ripas.{can_be_set, IsReached}
use Rattle.rmm_spec.specs.Applicable.{IsVacant, CanReplace, CanSetRipas}
use Rattle.spec_lemmas.proofs.WalkLaws.{table_size-entries, table_number-suc}
use Rattle.rmm_laws.proofs.Cases.{choice}
use Rattle.rmm_laws.proofs.Spaces.{entry_size-pos, unscaled_le}
use Rattle.rmm_laws.proofs.Walked.{IsWalked, walked, space_there, start_above, entry_starts, entry_begins, table_number-entry}

-- ---- pages

-- what is known of a walk's end is known of the entry of the last level, where the walk ends there
pub at_end : (Has : Entry → Type 0) (s : State) (rd ipa : ℕ)
    → reach s rd ipa 3 ≡ 3 → Has (walk s rd ipa 3).entry → Has (entry_at s rd 3 (entry_number 3 ipa))
at_end Has s rd ipa at has = subst (λ l. Has (entry_at s rd l (entry_number l ipa))) at has

-- a page's entry that is no link may be replaced by one that fits
pub page_replaced : (s : State) (rd ipa : ℕ) (entry : Entry) → IsWalked s rd ipa (reach s rd ipa 3) → reach s rd ipa 3 ≡ 3
    → is_table (entry_at s rd 3 (entry_number 3 ipa)) ≡ false
    → IsLeafOf entry (realm_at s rd) 3 (entry_number 3 ipa) → CanReplace s rd 3 (entry_number 3 ipa) entry
page_replaced s rd ipa entry end at leaf kind = record {
  table = (subst (IsWalked s rd ipa) at end).table;
  leaf = leaf;
  kind = kind;
}

-- a page's entry begins in the protected half, as the page does
pub page_protected : (s : State) (rd ipa : ℕ) → ipa < half (realm_at s rd) → entry_number 3 ipa * entry_size 3 < half (realm_at s rd)
page_protected s rd ipa below = omega (arith, entry_starts 3 ipa)

-- a page begins at its address
page_begins : (ipa : ℕ) → IsTrue (is_page ipa) → entry_number 3 ipa * entry_size 3 ≡ ipa
unfolding entry_size
page_begins ipa aligned = entry_begins 3 ipa aligned

-- a page's entry begins in the upper half, as the page does
pub page_unprotected : (s : State) (rd ipa : ℕ) → IsTrue (is_page ipa) → IsTrue (nat_le (half (realm_at s rd)) ipa)
    → half (realm_at s rd) ≤ entry_number 3 ipa * entry_size 3
page_unprotected s rd ipa aligned above =
    let from : half (realm_at s rd) ≤ ipa = leb-true (half (realm_at s rd)) ipa above in omega (arith, page_begins ipa aligned)

-- a walk to the last level for any address of the realm
pub walked_whole : (s : State) (rd ipa : ℕ) → IsSound s → IsTrue (has_tag s rd Rd) → ipa < full (realm_at s rd) → IsWalked s rd ipa (reach s rd ipa 3)
walked_whole s rd ipa sound tag below =
    let start = start_above (realm_at s rd) (space_there s rd sound tag) in
    walked s rd ipa 3 sound tag below (omega arith) (omega arith)

-- ---- tables

-- a table's number is that of the entry above it
pub table_number-above : (level ipa : ℕ) → 0 < level → table_number level ipa ≡ entry_number (level - 1) ipa
table_number-above level ipa below_root =
    let up : suc (level - 1) ≡ level = omega arith in
    ap (λ l. table_number l ipa) (sym up) ∙ table_number-suc (level - 1) ipa

-- what a table leaves behind keeps no table in use, and fits its half
pub after_table_fits : (r : RealmRecord) (ipa level number : ℕ) (ripas : Ripas) → number * entry_size level ≡ ipa
    → IsVacant (entry_after_table r ipa ripas) × IsLeafOf (entry_after_table r ipa ripas) r level number
after_table_fits r ipa level number ripas begins =
    choice (λ e. IsVacant e × IsLeafOf e r level number) _ (nat_lt ipa (half r)) (Unassigned ripas) UnassignedNs refl
    (λ lower. (tt, rw begins (ltb-true ipa (half r) lower)))
    (λ upper. (tt, rw begins (ltb-false ipa (half r) upper)))

-- ---- stretches

-- what may get another RIPAS is no link
settable_leaf : (purpose : StretchUse) (e : Entry) → IsTrue (can_be_set purpose e) → is_table e ≡ false
settable_leaf Init e can = not-true _ (and_parts (not (is_table e)) (not (is_assigned e)) can).0
settable_leaf (Requested rec ripas) e can = not-true _ can

-- the number of the entry that begins so many entries on
number_after : (level base count : ℕ)
    → IsTrue (is_multiple base (entry_size level)) → entry_number level (base + count * entry_size level) ≡ entry_number level base + count
unfolding entry_number
number_after level base count multiple =
    let size : ℕ = entry_size level in
    let q : ℕ = base / size in
    let begins : q * size ≡ base = entry_begins level base multiple in
    let top : base + count * size ≡ (q + count) * size + 0 = omega arith in
    ap (λ n. n / size) top ∙ div-mul-add (q + count) size 0 (let pos : 1 ≤ size = entry_size-pos level in omega arith)

-- a table ends so many entries on
table_end : (table level : ℕ) → level ≤ 3 → (table + 1) * table_size level ≡ (table + 1) * 512 * entry_size level
table_end table level last = let size : table_size level ≡ 512 * entry_size level = table_size-entries level last in rw size (omega arith)

-- entries are whole pages
entry_pages : (level : ℕ) → level ≤ 3 → (pages : ℕ) × (entry_size level ≡ pages * 4096)
unfolding entry_size
entry_pages zero last = (2 ^ 27, refl)
entry_pages (suc zero) last = (2 ^ 18, refl)
entry_pages (suc (suc zero)) last = (2 ^ 9, refl)
entry_pages (suc (suc (suc zero))) last = (1, refl)
entry_pages (suc (suc (suc (suc level)))) last = absurd (omega arith)

-- so many pages on from a page is a page
pages_on : (base count : ℕ) → base % 4096 ≡ 0 → (base + count * 4096) % 4096 ≡ 0
pages_on base count aligned = omega arith

-- an end that is reached from a page is a page
pub reached_page : (s : State) (stretch : Stretch) (end : ℕ)
    → stretch.level ≤ 3 → IsTrue (is_page stretch.base) → IsReached s stretch end → IsTrue (is_page end)
reached_page s stretch end last aligned reached =
    let pages = entry_pages stretch.level last in
    let whole : reached.count * (pages.0 * 4096) ≡ (reached.count * pages.0) * 4096 = omega arith in
    let on : end ≡ stretch.base + (reached.count * pages.0) * 4096 =
    reached.is_end ∙ ap (λ size. stretch.base + reached.count * size) pages.1 ∙ ap (λ n. stretch.base + n) whole in
    eq-eqb (end % 4096) 0 (ap (λ n. n % 4096) on ∙ pages_on stretch.base (reached.count * pages.0) (eqb-true (stretch.base % 4096) 0 aligned))

-- an end that is reached bounds entries of one table that may all be set
pub stretch_can_be_set : (s : State) (stretch : Stretch) (end : ℕ) → IsWalked s stretch.rd stretch.base stretch.level
    → IsTrue (is_multiple stretch.base (entry_size stretch.level)) → end ≤ half (realm_at s stretch.rd) → IsReached s stretch end
    → CanSetRipas s stretch.rd stretch.level (entry_number stretch.level stretch.base) (entry_number stretch.level end)
stretch_can_be_set s stretch end walk_end multiple bound reached =
    let level : ℕ = stretch.level in
    let size : ℕ = entry_size level in
    let first : ℕ = entry_number level stretch.base in
    let last_is : entry_number level end ≡ first + reached.count =
    ap (entry_number level) reached.is_end ∙ number_after level stretch.base reached.count multiple in
    let begins : first * size ≡ stretch.base = entry_begins level stretch.base multiple in
    let ends : (first + reached.count) * size ≡ end = omega (arith, reached.is_end) in
    let table : table_number level stretch.base ≡ first / 512 = table_number-entry level stretch.base walk_end.last in
    let table_ends : end ≤ (first / 512 + 1) * 512 * size =
    subst (λ n. end ≤ n) (ap (λ n. (n + 1) * table_size level) table ∙ table_end (first / 512) level walk_end.last) reached.in_table in
    record {
      some = rw last_is (omega (arith, reached.some));
      table = walk_end.table;
      one_table = rw last_is (unscaled_le (first + reached.count) ((first / 512 + 1) * 512) size (rw ends table_ends) (entry_size-pos level));
      protected = rw last_is (rw ends bound);
      leaves = λ number from below.
          let within : number - first < reached.count = (let up_to : number < first + reached.count = rw last_is at below in omega arith) in
          let is : first + (number - first) ≡ number = omega arith in
          settable_leaf stretch.purpose _
          (subst (λ n. IsTrue (can_be_set stretch.purpose (entry_at s stretch.rd level n))) is (reached.each (number - first) within));
    }
