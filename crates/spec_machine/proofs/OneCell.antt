-- What is read of one granule is what the flat state tells of it.
use Rattle.spec_machine.proofs.Common.{◌*◌, ◌++◌, ◌+◌, ◌/◌, ◌<◌, ◌==◌, ◌∙◌, ◌∷◌, ◌≡◌, Bool, CellList, Config, IsTrue, List, Option, State, TableRecord, [], ap, arith, cells_of, false, flat_state, if◌then◌else◌, is_granule, length, nat_lt, place_in, refl, slice_get, suc, true, zero, ℕ}
use Rattle.std.proofs.lemmas.Bool.{ltb-false, ltb-true}
use Rattle.std.proofs.lemmas.List.{length-append}
use denote.Enum.Bare.{sameb}
use Rattle.rmm_spec.specs.contracts.tag.Tag.{the_type}
use Rattle.rmm_spec.specs.declared.tag.Tag.{Tag}
use Rattle.rmm_spec.specs.Lookup.{has_tag, tag_number}
use Rattle.rmm_spec.specs.TableCells.{table_in}
use Rattle.rmm_spec.specs.Cell as spec
use Rattle.spec_lemmas.proofs.TagLaws.{sameb-tag_number}
use Rattle.lemmas.proofs.Tests.{both_ways}
use Rattle.rtt_table.specs.Plain.{cells_from, table_or_none}
use Rattle.rtt_table.specs.PlainLaws.{table_in-no_granule, table_in-cells_from}
use Rattle.spec_machine.specs.Whole.{placed_at, table_numbered, tables_in, values_below}
use Rattle.spec_machine.proofs.Kept.{granule_placed, place-granule}
use Rattle.lemmas.proofs.Elements.{slice_get-push}
use Rattle.spec_lemmas.proofs.Lookups.{granule-within}

-- a granule's tag
pub has_tag-read : (config : Config) (cells : ℕ → spec.Cell) (address : ℕ) (read tag : Tag) → IsTrue (is_granule config.granules address)
    → read ≡ spec.tag_of (cells address) → sameb the_type read tag ≡ has_tag (flat_state config cells) address tag
unfolding flat_state has_tag
has_tag-read config cells address read tag granule is =
    sameb-tag_number read tag ∙ ap (λ t. tag_number t == tag_number tag) is ∙ rw granule refl

-- what is no granule has no tag
pub has_tag-none : (s : State) (address : ℕ) (tag : Tag) → is_granule s.config.granules address ≡ false → false ≡ has_tag s address tag
unfolding has_tag
has_tag-none s address tag none = rw none refl

-- ---- tables

length-values : {A : Type 0} → (n : ℕ) (f : ℕ → A) → length (values_below n f) ≡ n
length-values zero f = refl
length-values (suc n) f = omega (arith, length-append (values_below n f) (f n ∷ []), length-values n f)

get-front : {A : Type 0} → (xs ys : List A) (i : ℕ) → i < length xs → slice_get (xs ++ ys) i ≡ slice_get xs i
get-front [] ys i within = absurd (omega (arith, within))
get-front (x ∷ xs) ys zero within = refl
get-front (x ∷ xs) ys (suc i) within = get-front xs ys i (omega (arith, within))

-- a table of the list is that of its number
table_or_none-values : (n : ℕ) (f : ℕ → Option TableRecord) (i : ℕ) → i < n → table_or_none (slice_get (values_below n f) i) ≡ f i
table_or_none-values zero f i below = absurd (omega (arith, below))
table_or_none-values (suc n) f i below = by (nat_lt i n) refl (table_or_none-values n f i)
  where
    by : (b : Bool) → nat_lt i n ≡ b → (i < n → table_or_none (slice_get (values_below n f) i) ≡ f i)
        → table_or_none (slice_get (values_below n f ++ f n ∷ []) i) ≡ f i
    by true less before =
        ap table_or_none (get-front (values_below n f) (f n ∷ []) i (omega (arith, ltb-true i n less, length-values n f)))
        ∙ before (ltb-true i n less)
    by false least before =
        let last : i ≡ length (values_below n f) = omega (arith, ltb-false i n least, below, length-values n f) in
        let number : n ≡ i = omega (arith, ltb-false i n least, below) in
        ap (λ k. table_or_none (slice_get (values_below n f ++ f n ∷ []) k)) last
        ∙ ap table_or_none (slice_get-push (values_below n f) (f n)) ∙ ap f number

-- the list of tables has what lies in each granule
pub tables-same : (list : CellList) (address : ℕ) → table_in (tables_in list) address ≡ spec.tables_of (cells_of list) address
unfolding tables_in cells_of
tables-same list address = by (is_granule granules address) refl
  where
    granules : ℕ
    granules = list.config.granules

    tables : List (Option TableRecord)
    tables = values_below granules (table_numbered list)

    by : (b : Bool) → is_granule granules address ≡ b → table_in (cells_from 0 tables) address
        ≡ spec.table_in (if is_granule granules address then placed_at list.cells.items (place_in list.places (address / 4096)) else spec.Undelegated)
    by true is =
        let at : address ≡ (0 + address / 4096) * 4096 = omega (arith, place-granule granules address is) in
        rw is (table_in-cells_from 0 tables (address / 4096) address at
        ∙ table_or_none-values granules (table_numbered list) (address / 4096) (granule-within granules address is))
    by false none = rw none (table_in-no_granule 0 tables address (λ i within here.
        let below : i < granules = omega (arith, within, length-values granules (table_numbered list)) in
        let same : address ≡ i * 4096 = omega (arith, here) in
        both_ways (ap (is_granule granules) same ∙ granule_placed granules i below) none))
