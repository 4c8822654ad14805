-- Small wholes are made by commands, so they are well shaped.
use Rattle.std.proofs.Common.{◌≡◌, ℕ, List, [], ◌∷◌, Bool, true, false, if◌then◌else◌, ◌==◌, Some, None, Ok, refl, subst}
use Rattle.rmm_spec.specs.declared.change.Change.{Change}
use Rattle.rmm_spec.specs.declared.change.Change.TheVariants.{Retagged, RealmMade, RecMade, TableMade, EntriesChanged}
use Rattle.rmm_spec.specs.declared.change.EntryChange.TheVariants.{Replaced}
use Rattle.rmm_spec.specs.declared.command.Command.{Command}
use Rattle.rmm_spec.specs.declared.entry.Entry.TheVariants.{Unassigned, Assigned}
use Rattle.rmm_spec.specs.declared.function_id.FunctionId.{FunctionId}
use Rattle.rmm_spec.specs.declared.function_id.FunctionId.TheVariants as function
use Rattle.rmm_spec.specs.declared.tag.Ripas.TheVariants.{Empty}
use Rattle.rmm_spec.specs.declared.tag.Tag.TheVariants as tag
use Rattle.rmm_spec.specs.Call.{call_of, call_from, class_of}
use Rattle.rmm_spec.specs.Change.{realm_updated}
use Rattle.rmm_spec.specs.Lookup.{has_tag, is_granule, is_inside, realm_at, is_vmid_used}
use Rattle.rmm_spec.specs.Rows.{done}
use Rattle.rmm_spec.specs.Step.{outcome, answer_of}
use Rattle.rmm_spec.specs.Step.Granule.{granule_delegate}
use Rattle.rmm_spec.specs.Step.Realm.{realm_create}
use Rattle.rmm_spec.specs.Step.Rec.{rec_create}
use Rattle.rmm_spec.specs.Step.Table.{rtt_create}
use Rattle.rmm_spec.specs.Step.Data.{data_create_unknown}
use Rattle.rmm_spec.specs.Step.Terms.{words_of, named}
use Rattle.rmm_spec.specs.Table.{place_number}
use Rattle.rmm_spec.specs.Walk.{entry_size, table_size, entry_number, table_number, entry_at, reach}
use Rattle.rmm_spec.specs.Cell.{Cell, Undelegated, Delegated, Data, Rtt, put}
use Rattle.rmm_spec.specs.Flat.{flat_state, table_granule, leaf_in_tables}
use Rattle.rmm_spec.specs.Shape.{Outside, IsWellShaped}
use Rattle.rmm_spec.specs.World.{opening_world}
use Rattle.rmm_laws.specs.Whole.{Whole, IsShaped, cells_changed, side_changed, places_changed, whole_changed}
use Rattle.rmm_laws.proofs.Accepted.{done-keeps_shape}
use Rattle.spec_lemmas.proofs.Opening.{IsShapedWorld-opening}
use Rattle.world_laws.specs.SmallWholes.{eight_granules, lent, one_realm, one_vmid, realm_with_root, table_at, beginning, linked_root, linked_middle, bare_table, one_page, two_realms, two_vmids, one_rec, the_rec, one_owned}

abbrev given : FunctionId → List ℕ → Command
given function words = record { function = function; words = record { items = words } }

-- what a command is accepted with keeps the whole well shaped
made : (w : Whole) (command : Command) (words : List ℕ) (change : Change) → IsShaped eight_granules w
    → outcome (flat_state eight_granules w.cells) 0 (call_of command) ≡ Ok (done words change)
    → IsShaped eight_granules (whole_changed eight_granules w change)
made w command words change shaped accepted = (done-keeps_shape eight_granules w 0 command words change shaped accepted).0

-- ---- granules are lent

abbrev with_cells : (ℕ → Cell) → Whole
with_cells cells = record { cells = cells; side = record { vmids = λ _. None; rec_counts = λ _. 0 }; places = λ _. Outside }

lend : (cells : ℕ → Cell) (granule : ℕ) → IsShaped eight_granules (with_cells cells)
    → outcome (flat_state eight_granules cells) 0 (call_of (given function.GranuleDelegate (granule ∷ [])))
    ≡ Ok (done [] (Retagged (record { granule = granule; tag = tag.Delegated })))
    → IsShaped eight_granules (with_cells (put cells granule Delegated))
unfolding cells_changed side_changed places_changed
lend cells granule shaped accepted = made (with_cells cells) (given function.GranuleDelegate (granule ∷ [])) []
    (Retagged (record { granule = granule; tag = tag.Delegated })) shaped accepted

nothing : IsShaped eight_granules (with_cells (λ _. Undelegated))
unfolding opening_world
nothing = IsShapedWorld-opening eight_granules (λ _. [])

lent-shaped : IsShaped eight_granules (with_cells lent)
unfolding flat_state outcome answer_of granule_delegate call_from class_of words_of named has_tag is_granule is_inside
lent-shaped = lend _ 0x7000
    (lend _ 0x6000 (lend _ 0x5000 (lend _ 0x4000 (lend _ 0x3000 (lend _ 0x2000 (lend _ 0x1000 nothing refl) refl) refl) refl) refl) refl) refl

-- ---- realms and RECs

pub one_realm-shaped : IsWellShaped eight_granules one_vmid (λ _. Outside) one_realm
unfolding flat_state outcome answer_of realm_create call_from class_of words_of named has_tag is_granule is_inside is_vmid_used cells_changed
    side_changed places_changed
one_realm-shaped =
    made (with_cells lent) (given function.RealmCreate (0x1000 ∷ 0x2000 ∷ 39 ∷ 1 ∷ 1 ∷ 0 ∷ [])) [] (RealmMade 0x1000 0x2000 39 1 1 0) lent-shaped refl

pub two_realms-shaped : IsWellShaped eight_granules two_vmids (λ _. Outside) (two_realms 2)
unfolding flat_state outcome answer_of realm_create call_from class_of words_of named has_tag is_granule is_inside is_vmid_used cells_changed
    side_changed places_changed
two_realms-shaped =
    made (record { cells = one_realm; side = one_vmid; places = λ _. Outside })
    (given function.RealmCreate (0x3000 ∷ 0x4000 ∷ 39 ∷ 1 ∷ 2 ∷ 0 ∷ [])) []
    (RealmMade 0x3000 0x4000 39 1 2 0) one_realm-shaped refl

pub one_rec-shaped : IsWellShaped eight_granules (one_owned 0x1000) (λ _. Outside) (one_rec the_rec)
unfolding flat_state outcome answer_of rec_create call_from class_of words_of named has_tag is_granule is_inside realm_at realm_updated cells_changed
    side_changed places_changed
one_rec-shaped =
    made (record { cells = one_realm; side = one_vmid; places = λ _. Outside })
    (given function.RecCreate (0x1000 ∷ 0x3000 ∷ 0 ∷ 1 ∷ 0x4000 ∷ 0x5000 ∷ [])) []
    (RecMade 0x1000 0x3000 0 1 0x4000 0x5000) one_realm-shaped refl

-- ---- tables and a page

-- with two tables that say nothing below the root
abbrev two_tables : ℕ → Cell
two_tables = put (put (put (realm_with_root linked_root) 0x3000 (Rtt (bare_table 2 0))) 0x3000 (Rtt linked_middle)) 0x4000 (Rtt (bare_table 3 0))

two_tables-shaped : IsWellShaped eight_granules one_vmid (λ _. Outside) two_tables
unfolding flat_state outcome answer_of rtt_create call_from class_of words_of named has_tag is_granule is_inside realm_at reach table_granule
    leaf_in_tables entry_at entry_size table_size entry_number table_number place_number cells_changed side_changed places_changed
two_tables-shaped =
    made (record { cells = put (realm_with_root linked_root) 0x3000 (Rtt (bare_table 2 0)); side = one_vmid; places = λ _. Outside })
    (given function.RttCreate (0x1000 ∷ 0x4000 ∷ 0 ∷ 3 ∷ [])) [] (TableMade 0x1000 3 0 0x4000 (Unassigned Empty))
    (made (record { cells = one_realm; side = one_vmid; places = λ _. Outside }) (given function.RttCreate (0x1000 ∷ 0x3000 ∷ 0 ∷ 2 ∷ [])) []
    (TableMade 0x1000 2 0 0x3000 (Unassigned Empty)) one_realm-shaped refl)
    refl

-- the same cells, each put in once
one_page-same : put (put two_tables 0x5000 Data) 0x4000 (Rtt (table_at 3 0 (beginning (Assigned Empty 0x5000)))) ≡ one_page
one_page-same = λ i address. by (address == 0x4000) (address == 0x5000) (address == 0x3000) (realm_with_root linked_root address) i
  where
    by : (last page middle : Bool) (other : Cell)
        → ◌≡◌ {A = Cell} (if last then Rtt (table_at 3 0 (beginning (Assigned Empty 0x5000)))
        else (if page then Data
        else (if last then Rtt (bare_table 3 0) else (if middle then Rtt linked_middle else (if middle then Rtt (bare_table 2 0) else other)))))
        (if last then Rtt (table_at 3 0 (beginning (Assigned Empty 0x5000)))
        else (if page then Data else (if middle then Rtt linked_middle else other)))
    by true page middle other = refl
    by false true middle other = refl
    by false false true other = refl
    by false false false other = refl

pub one_page-shaped : IsWellShaped eight_granules one_vmid (λ _. Outside) one_page
unfolding flat_state outcome answer_of data_create_unknown call_from class_of words_of named has_tag is_granule is_inside realm_at reach table_granule
    leaf_in_tables entry_at entry_size table_size entry_number table_number place_number cells_changed side_changed places_changed
one_page-shaped =
    subst (IsWellShaped eight_granules one_vmid (λ _. Outside)) one_page-same
    (made (record { cells = two_tables; side = one_vmid; places = λ _. Outside }) (given function.DataCreateUnknown (0x1000 ∷ 0x5000 ∷ 0 ∷ [])) []
    (EntriesChanged 0x1000 3 (Replaced 0 (Assigned Empty 0x5000))
    (Some (record { granule = 0x5000; tag = tag.Data })) None None) two_tables-shaped refl)
