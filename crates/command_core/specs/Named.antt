-- What a CPU may take next, told by the cells that it holds: the granules that its command names, upwards, and then a part of
-- what it holds. This project's own.
use Rattle.std.specs.Prelude.{ℕ, Bool, true, false, not, ◌&&◌, ◌||◌, ◌==◌, nat_lt, nat_le, if◌then◌else◌, List, Option, Some, None, length, slice_get}
use Rattle.std.specs.List.{fold, list_any, list_all}
use Rattle.rmm_spec.specs.HistoryText.{Config}
use Rattle.rmm_spec.specs.declared.entry.Entry.{Entry}
use Rattle.rmm_spec.specs.declared.call.Call.{Call}
use Rattle.rmm_spec.specs.Lookup.{tag_number, is_granule}
use Rattle.rmm_spec.specs.Rows.{Needed, all_allowed}
use Rattle.rmm_spec.specs.Step.Terms.{words_of, named}
use Rattle.rmm_spec.specs.Cell.{Cell, Rd, Rec, tag_of, is_data, Rtt}
use Rattle.rmm_spec.specs.Locks.{is_named, depth, leads_to}
use Rattle.rmm_spec.specs.Local.{HeldCell, granules_held}
use Rattle.world_laws.specs.Walking.{is_told}
use Rattle.command_core.specs.Seen.{cell_in, is_held}

-- ---- tags

-- whether the granule is named with another tag than this cell has
abbrev pub is_wrong_for : Cell → ℕ → List Needed → Bool
is_wrong_for cell granule names = list_any (λ (n : Needed). n.granule == granule && not (tag_number (tag_of cell) == tag_number n.tag)) names

abbrev pub is_wrong : Option Cell → ℕ → List Needed → Bool
is_wrong None granule names = false
is_wrong (Some cell) granule names = is_wrong_for cell granule names

-- whether a granule that is held and named has another tag than is needed there
unfoldable pub has_wrong : List Needed → List HeldCell → Bool
has_wrong names held = list_any (λ granule. is_wrong (cell_in granule held) granule names) (granules_held held)

-- whether the command's words allow it, and each granule that it names is one
unfoldable pub words_fit : Config → Call → Bool
words_fit config call = all_allowed (words_of call) && list_all (λ (n : Needed). is_granule config.granules n.granule) (named call)

-- whether all granules that are named are held
unfoldable pub holds_all : List Needed → List HeldCell → Bool
holds_all names held = list_all (λ (n : Needed). is_held n.granule held) names

-- ---- the next by name

abbrev pub is_less : ℕ → Option ℕ → Bool
is_less granule None = true
is_less granule (Some best) = nat_lt granule best

-- the lesser of the two, where the named granule is one that may be taken: its tag isn't told yet
abbrev pub lesser : Config → Bool → List HeldCell → Option ℕ → Needed → Option ℕ
lesser config keeps held best n =
    if is_granule config.granules n.granule && not (is_told keeps held n) && is_less n.granule best then Some n.granule else best

-- the least granule that is named and isn't told
unfoldable pub least_missing : Config → Bool → List Needed → List HeldCell → Option ℕ
least_missing config keeps names held = fold (lesser config keeps held) None names

-- ---- what may be taken

-- whether what is held at a granule is named, as it has to be, and below the one that is to be taken
abbrev pub fits_below : List Needed → ℕ → ℕ → Option Cell → Bool
fits_below names next granule None = false
fits_below names next granule (Some cell) =
    is_named names granule && nat_lt granule next && not (is_wrong_for cell granule names) && not (is_data cell)

abbrev pub are_below : List Needed → ℕ → List HeldCell → Bool
are_below names next held = list_all (λ granule. fits_below names next granule (cell_in granule held)) (granules_held held)

-- whether a named granule may be taken: it is above all that are held, and those are named
unfoldable pub is_upward : Config → List Needed → List HeldCell → ℕ → Bool
is_upward config names held next =
    is_granule config.granules next && is_named names next && nat_le (length held) 5 && are_below names next held

-- whether an entry leads to the granule
abbrev pub entry_leads : ℕ → Option Entry → Bool
entry_leads granule None = false
entry_leads granule (Some entry) = leads_to granule entry

-- whether a realm has the granule for its root, a REC for one of its two others, or a table's entry at that place leads to it
abbrev pub has_part : Option Cell → ℕ → ℕ → Bool
has_part (Some (Rd realm)) index granule = realm.root == granule
has_part (Some (Rec rec)) index granule = rec.aux0 == granule || rec.aux1 == granule
has_part (Some (Rtt table)) index granule = entry_leads granule (slice_get table.entries index)
has_part _ index granule = false

abbrev pub has_aux_part : Option Cell → ℕ → Bool
has_aux_part (Some (Rec rec)) granule = rec.aux0 == granule || rec.aux1 == granule
has_aux_part _ granule = false

abbrev pub depth_in : Option Cell → ℕ
depth_in None = 0
depth_in (Some cell) = depth cell

-- whether what is held at a granule is named, as it has to be, or a table no deeper than the one above, or an auxiliary granule of
-- the REC above
abbrev pub fits_beside : List Needed → Option Cell → ℕ → Option Cell → Bool
fits_beside names above granule None = false
fits_beside names above granule (Some cell) =
    (is_named names granule || nat_lt 0 (depth cell) || has_aux_part above granule) && not (is_wrong_for cell granule names) && not (is_data cell)
    && nat_le (depth cell) (depth_in above)

abbrev pub are_beside : List Needed → ℕ → List HeldCell → Bool
are_beside names above held = list_all (λ granule. fits_beside names (cell_in above held) granule (cell_in granule held)) (granules_held held)

-- whether a part of the realm, REC or table above may be taken: no deeper table is held
unfoldable pub is_downward : Config → List Needed → List HeldCell → ℕ → ℕ → ℕ → Bool
is_downward config names held above index next =
    is_granule config.granules next && not (is_held next held) && nat_le (length held) 5 && has_part (cell_in above held) index next
    && are_beside names above held
