-- A held cell that is changed where it lies: its granule's cell is changed, and no other.
use Rattle.command_core.proofs.Common.{◌==◌, ◌∙◌, ◌≡◌, List, None, Some, Undelegated, ap, granules_held, is_some, length, refl, subst, sym, ℕ}
use Rattle.std.proofs.Common.{Option, get_or, position}
use Rattle.std.specs.Prelude.{IsTrue, slice_set, unwrap_or}
use Rattle.std.proofs.lemmas.List.{length-set}
use Rattle.arrayvec.specs.ArrayVec.{with_items}
use Rattle.arrayvec.proofs.ArrayVecLemmas.{items-with_items}
use Rattle.rmm_spec.specs.Cell as whole
use Rattle.rmm_spec.specs.Cell.{put}
use Rattle.spec_lemmas.proofs.Maps.{put-same}
use Rattle.rmm_laws.specs.Whole.{changed_at}
use Rattle.granule_cells.specs.declared.cell_change.CellChange.{CellChange}
use Rattle.granule_cells.specs.declared.cell_change.CellChange.TheVariants.{Realm, Rec, Entries}
use Rattle.granule_cells.specs.OneCell.{cell_changed}
use Rattle.granule_cells.specs.declared.cell.Cell.{Cell}
use Rattle.command_core.specs.declared.held_pairs.HeldPairs.{HeldPairs}
use Rattle.command_core.specs.Pairs.{granules_held-paired, pair_cells, paired}
use Rattle.command_core.specs.Seen.{cell_in, cell_of, is_held, known_cell}
use Rattle.command_core.proofs.Pairs.{cell_in-no_place, cell_in-place, paired-slice_set, position-first}
use Rattle.command_core.proofs.Stored.{known-replaced}

-- no change is of the host's cells
host-kept : (change : CellChange) → cell_changed change Undelegated ≡ Undelegated
host-kept (Realm update) = refl
host-kept (Rec update) = refl
host-kept (Entries change) = refl

module _ (s : HeldPairs) (pa granule : ℕ) (same : pa ≡ granule) where
  -- where none is held, nothing is changed
  pub none-changed : (change : CellChange) → position (λ x. x == pa) s.granules.items ≡ None
      → known_cell (pair_cells s) ≡ changed_at (known_cell (pair_cells s)) granule (cell_changed change)
  unfolding pair_cells
  none-changed change none =
      let known : ℕ → whole.Cell = known_cell (pair_cells s) in
      let at : known pa ≡ Undelegated =
      ap (λ (o : Option whole.Cell). unwrap_or o Undelegated) (cell_in-no_place s.granules.items s.cells.items pa s.same_count none) in
      subst (λ g. known ≡ changed_at known g (cell_changed change)) same
      (sym (put-same known pa (cell_changed change (known pa)) (at ∙ sym (ap (cell_changed change) at ∙ host-kept change))))

  module _ (i : ℕ) (at : position (λ x. x == pa) s.granules.items ≡ Some i) (now : List Cell) (is_now : now ≡ s.cells.items) (old new : Cell) where
    -- the granules stay
    pub place-kept : granules_held (paired s.granules.items (with_items s.cells (slice_set now i new)).items) ≡ granules_held (pair_cells s)
    unfolding pair_cells
    place-kept =
        let few : length (slice_set now i new) ≡ length s.cells.items = length-set now i new ∙ ap (λ (cells : List Cell). length cells) is_now in
        let all : length (with_items s.cells (slice_set now i new)).items ≡ length s.granules.items =
        ap (λ (cells : List Cell). length cells) (items-with_items s.cells (slice_set now i new) few) ∙ few ∙ s.same_count in
        granules_held-paired s.granules.items (with_items s.cells (slice_set now i new)).items all
        ∙ sym (granules_held-paired s.granules.items s.cells.items s.same_count)

    there : old ≡ get_or now i old → cell_in pa (pair_cells s) ≡ Some (cell_of old)
    unfolding pair_cells
    there found =
        cell_in-place s.granules.items s.cells.items pa i old s.same_count (position-first s.granules.items pa i at)
        (found ∙ ap (λ (cells : List Cell). get_or cells i old) is_now)

    known-there : old ≡ get_or now i old → known_cell (pair_cells s) pa ≡ cell_of (get_or now i old)
    known-there found = ap (λ (o : Option whole.Cell). unwrap_or o Undelegated) (there found) ∙ ap (λ (c : Cell). cell_of c) found

    -- the cell that lies there is what is known of the granule
    pub place-known : old ≡ get_or now i old → known_cell (pair_cells s) granule ≡ cell_of (get_or now i old)
    place-known found = subst (λ g. known_cell (pair_cells s) g ≡ cell_of (get_or now i old)) same (known-there found)

    -- and its change is the granule's
    pub place-changed : old ≡ get_or now i old → (change : CellChange) → cell_of new ≡ cell_changed change (cell_of (get_or now i old))
        → known_cell (paired s.granules.items (with_items s.cells (slice_set now i new)).items)
        ≡ changed_at (known_cell (pair_cells s)) granule (cell_changed change)
    unfolding pair_cells
    place-changed found change made =
        let known : ℕ → whole.Cell = known_cell (pair_cells s) in
        let few : length (slice_set now i new) ≡ length s.cells.items = length-set now i new ∙ ap (λ (cells : List Cell). length cells) is_now in
        let held : IsTrue (is_held pa (pair_cells s)) = ap (λ (o : Option whole.Cell). is_some o) (there found) in
        ap (λ (cells : List Cell). known_cell (paired s.granules.items cells))
        (items-with_items s.cells (slice_set now i new) few ∙ ap (λ (cells : List Cell). slice_set cells i new) is_now)
        ∙ (ap known_cell (paired-slice_set s.granules.items s.cells.items pa i new s.same_count (position-first s.granules.items pa i at) s.distinct)
        ∙ (known-replaced (pair_cells s) pa (cell_of new) held
        ∙ (ap (put known pa) (made ∙ ap (cell_changed change) (sym (known-there found)))
        ∙ ap (λ g. changed_at known g (cell_changed change)) same)))
