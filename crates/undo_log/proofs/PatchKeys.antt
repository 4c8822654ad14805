-- A cell that is put in where the granule is one, and the size, which stays.
use Rattle.undo_log.proofs.Common.{◌≡◌, ◌∙◌, ◌<◌, ◌+◌, ◌==◌, ◌++◌, ◌∷◌, Bool, List, [], ap, cell_of, false, if◌then◌else◌, is_granule, length, refl, sym, true, ℕ}
use Rattle.std.specs.Prelude.{◌&&◌, get_or, take}
use Rattle.std.proofs.lemmas.List.{take_more}
use Rattle.rmm_spec.specs.Cell as spec
use Rattle.rmm_spec.specs.Cell.{put}
use Rattle.granule_cells.specs.declared.cell.Cell as own
use Rattle.undo_log.specs.Patches.{Standing, put_all, put_in}
use Rattle.undo_log.proofs.Patched.{put_all-last}
use Rattle.undo_log.specs.declared.patch.Replaced.{Replaced}
use Rattle.undo_log.specs.declared.patch.Replaced.TheVariants.{Cell, Places, RecCount, Vmid}

-- a cell that may be put in a granule
abbrev pub with_cell : Standing → Bool → ℕ → spec.Cell → Standing
with_cell s b granule cell = record {
  config = s.config;
  whole = record s.whole { cells = λ other. if b && (other == granule) then cell else s.whole.cells other };
}

-- is put in where the granule is one
pub put-cell : (granule : ℕ) (cell : own.Cell) (s : Standing)
    → put_in (Cell granule cell) s ≡ with_cell s (is_granule s.config.granules granule) granule (cell_of cell)
put-cell granule cell s = by (is_granule s.config.granules granule)
  where
    by : (b : Bool) → (if b then record { config = s.config; whole = record s.whole { cells = put s.whole.cells granule (cell_of cell) } } else s)
        ≡ with_cell s b granule (cell_of cell)
    by true = refl
    by false = refl

-- the size stays
config-put : (item : Replaced) (s : Standing) → (put_in item s).config ≡ s.config
config-put (Cell granule cell) s = ap (λ (t : Standing). t.config) (put-cell granule cell s)
config-put (Vmid vmid realm) s = refl
config-put (RecCount rd count) s = refl
config-put (Places places) s = refl

-- so it does after all
pub config-put_all : (items : List Replaced) (s : Standing) → (put_all items s).config ≡ s.config
config-put_all [] s = refl
config-put_all (item ∷ items) s = config-put item (put_all items s) ∙ config-put_all items s

-- items that put the same in, with one more each
pub put_all-more : (one others : List Replaced) (i : ℕ) (item other : Replaced) → i < length others → other ≡ get_or others i other
    → put_in item ≡ put_in other → put_all one ≡ put_all (take i others) → put_all (one ++ item ∷ []) ≡ put_all (take (i + 1) others)
put_all-more one others i item other below is here so_far =
    (λ j s. put_all-last one item s j)
    ∙ ((λ j s. so_far j (here j s))
    ∙ ((λ j s. sym (put_all-last (take i others) other s) j)
    ∙ ap put_all (ap (λ r. take i others ++ r ∷ []) is ∙ sym (take_more others i other below))))
