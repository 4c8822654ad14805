-- Cells by what lies in them, and the maps of a whole, before and after one cell is changed.
use Rattle.rmm_laws.proofs.ShapeCommon.{◌==◌, ◌∙◌, ◌≡◌, Bool, Cell, Config, Delegated, IsTrue, Option, Rd, RealmRecord, Rec, RecRecord, Rtt, Some, State, TableRecord, ap, both_ways, eq-eqb, false, flat_state, if◌then◌else◌, is_granule, leaf_in_tables, none-some, put, realm_in, realms_of, rec_in, recs_of, refl, same_Some, sym, table_granule, table_in, tables_of, tag_of, tags_of, true, ℕ}
use Rattle.std.proofs.Common.{◌&&◌, is_some}
use Rattle.std.proofs.lemmas.Bool.{false≢true, and_from, true_from_ne_false}
use Rattle.rmm_spec.specs.declared.tag.Tag.{Tag}
use Rattle.rmm_spec.specs.declared.tag.Tag.TheVariants as tag
use Rattle.rmm_spec.specs.Lookup.{tag_number, has_tag}
use Rattle.rmm_spec.specs.Cell.{Undelegated, RecAux, Data, is_aux, is_data}
use Rattle.rmm_spec.specs.Shape.{AreOutside}
use Rattle.spec_lemmas.proofs.TagLaws.{tag-has_tag}

-- ---- one cell

-- what lies in a cell tells the cell
pub cell-realm : (c : Cell) (r : RealmRecord) → realm_in c ≡ Some r → c ≡ Rd r
cell-realm (Rd q) r is = ap Rd (same_Some q r is)
cell-realm _ r is = absurd (none-some r is)

pub cell-rec : (c : Cell) (r : RecRecord) → rec_in c ≡ Some r → c ≡ Rec r
cell-rec (Rec q) r is = ap Rec (same_Some q r is)
cell-rec _ r is = absurd (none-some r is)

pub cell-table : (c : Cell) (t : TableRecord) → table_in c ≡ Some t → c ≡ Rtt t
cell-table (Rtt u) t is = ap Rtt (same_Some u t is)
cell-table _ t is = absurd (none-some t is)

-- tags of two numbers differ
tags_differ : {A : Type 0} {a b : Tag} → a ≡ b → (tag_number a == tag_number b) ≡ false → A
tags_differ {A} {a} {b} same apart = both_ways (eq-eqb (tag_number a) (tag_number b) (ap tag_number same)) apart

-- and so does the tag of a cell that holds nothing
pub cell-undelegated : (c : Cell) → tag_of c ≡ tag.Undelegated → c ≡ Undelegated
cell-undelegated Undelegated is = refl
cell-undelegated _ is = tags_differ is refl

pub cell-delegated : (c : Cell) → tag_of c ≡ tag.Delegated → c ≡ Delegated
cell-delegated Delegated is = refl
cell-delegated _ is = tags_differ is refl

pub cell-aux : (c : Cell) → tag_of c ≡ tag.RecAux → c ≡ RecAux
cell-aux RecAux is = refl
cell-aux _ is = tags_differ is refl

pub cell-data : (c : Cell) → tag_of c ≡ tag.Data → c ≡ Data
cell-data Data is = refl
cell-data _ is = tags_differ is refl

-- what a view sees tells the tag
pub tag-some_realm : (c : Cell) → IsTrue (is_some (realm_in c)) → tag_of c ≡ tag.Rd
tag-some_realm (Rd q) there = refl
tag-some_realm _ there = absurd (false≢true there)

pub tag-aux : (c : Cell) → IsTrue (is_aux c) → tag_of c ≡ tag.RecAux
tag-aux RecAux there = refl
tag-aux _ there = absurd (false≢true there)

pub tag-data : (c : Cell) → IsTrue (is_data c) → tag_of c ≡ tag.Data
tag-data Data there = refl
tag-data _ there = absurd (false≢true there)

-- records stand exactly at their tags, where what is no granule is undelegated
pub some_realm-tagged : (c : Cell) (within : Bool) → (within ≡ false → c ≡ Undelegated)
    → is_some (realm_in c) ≡ (within && tag_number (tag_of c) == tag_number tag.Rd)
some_realm-tagged c false outside = rw (outside refl) refl
some_realm-tagged Undelegated true outside = refl
some_realm-tagged _ true outside = refl

pub some_rec-tagged : (c : Cell) (within : Bool) → (within ≡ false → c ≡ Undelegated)
    → is_some (rec_in c) ≡ (within && tag_number (tag_of c) == tag_number tag.Rec)
some_rec-tagged c false outside = rw (outside refl) refl
some_rec-tagged Undelegated true outside = refl
some_rec-tagged _ true outside = refl

-- ---- tags of a whole

-- a cell that isn't undelegated has its tag at a granule
pub has_tag-cell : (config : Config) (cells : ℕ → Cell) (address : ℕ) (asked : Tag)
    → AreOutside config.granules cells → tag_of (cells address) ≡ asked
    → (tag_number tag.Undelegated == tag_number asked) ≡ false → IsTrue (has_tag (flat_state config cells) address asked)
unfolding has_tag flat_state
has_tag-cell config cells address asked outside is apart =
    and_from _ _ (true_from_ne_false (is_granule config.granules address)
    (λ none. tags_differ (sym (ap tag_of (outside.undelegated address none)) ∙ is) apart))
    (eq-eqb (tag_number (tag_of (cells address))) (tag_number asked) (ap tag_number is))

-- what a granule's tag is asked to be, it is
pub tag-cell : (config : Config) (cells : ℕ → Cell) (address : ℕ) (asked : Tag) → IsTrue (has_tag (flat_state config cells) address asked)
    → tag_of (cells address) ≡ asked
unfolding flat_state
tag-cell config cells address asked has = tag-has_tag (flat_state config cells) address asked has

-- ---- maps

-- the maps of a whole that its flat state is made of
pub record Views : Type 0 where
  pub tags : ℕ → Tag
  pub realms : ℕ → Option RealmRecord
  pub recs : ℕ → Option RecRecord
  pub tables : ℕ → Option TableRecord

abbrev pub views_of : (ℕ → Cell) → Views
views_of cells = record { tags = tags_of cells; realms = realms_of cells; recs = recs_of cells; tables = tables_of cells }

abbrev pub flat_views : Config → Views → State
flat_views config v = record {
  config = config;
  tag = v.tags;
  realm = v.realms;
  rec = v.recs;
  table = table_granule config.granules v.tables;
  leaf = leaf_in_tables config.granules v.tables;
}

pub flat_state-views : (config : Config) (cells : ℕ → Cell) → flat_state config cells ≡ flat_views config (views_of cells)
unfolding flat_state
flat_state-views config cells = refl

abbrev pub views_put : Views → ℕ → Cell → Views
views_put v address c = record {
  tags = put v.tags address (tag_of c);
  realms = put v.realms address (realm_in c);
  recs = put v.recs address (rec_in c);
  tables = put v.tables address (table_in c);
}

seen-put : {A : Type 0} (view : Cell → A) (cells : ℕ → Cell) (address : ℕ) (c : Cell)
    → (λ other. view (put cells address c other)) ≡ put (λ other. view (cells other)) address (view c)
seen-put {A} view cells address c = λ i other. by other (other == address) i
  where
    by : (other : ℕ) (b : Bool) → view (if b then c else cells other) ≡ (if b then view c else view (cells other))
    by other true = refl
    by other false = refl

-- one cell changed is one place of each map changed
pub views_of-put : (cells : ℕ → Cell) (address : ℕ) (c : Cell) → views_of (put cells address c) ≡ views_put (views_of cells) address c
views_of-put cells address c = λ i. record {
  tags = seen-put tag_of cells address c i;
  realms = seen-put realm_in cells address c i;
  recs = seen-put rec_in cells address c i;
  tables = seen-put table_in cells address c i;
}

-- the maps have at the address what they see of the cell
pub record IsAt (v : Views) (address : ℕ) (c : Cell) : Type 0 where
  pub tag : v.tags address ≡ tag_of c
  pub realm : v.realms address ≡ realm_in c
  pub rec : v.recs address ≡ rec_in c
  pub table : v.tables address ≡ table_in c

pub IsAt-cell : (cells : ℕ → Cell) (address : ℕ) (c : Cell) → cells address ≡ c → IsAt (views_of cells) address c
IsAt-cell cells address c is = record { tag = ap tag_of is; realm = ap realm_in is; rec = ap rec_in is; table = ap table_in is }
