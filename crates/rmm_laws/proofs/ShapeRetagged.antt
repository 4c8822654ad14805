-- Nothing changes; or a granule that holds nothing gets another tag.
use Rattle.rmm_laws.proofs.ShapeCommon.{◌∙◌, ◌≡◌, Cell, Config, Delegated, IsShaped, Whole, ap, cells_changed, changed, flat_state, inl, inr, places_changed, put, refl, side_changed, sym, tag_of, tags_of, ℕ}
use Rattle.rmm_spec.specs.declared.change.Change.TheVariants.{Unchanged, Retagged}
use Rattle.rmm_spec.specs.declared.change.TagChange.{TagChange}
use Rattle.rmm_spec.specs.Applicable.{CanRetag}
use Rattle.rmm_spec.specs.Cell.{Undelegated}
use Rattle.rmm_laws.specs.Whole.{cell_with_tag, changed_at}
use Rattle.rmm_laws.proofs.Cells.{views_of, views_of-put, IsAt-cell}
use Rattle.rmm_laws.proofs.ShapeTies.{IsTied-shaped}
use Rattle.rmm_laws.proofs.ShapeKept.{Makes, IsPlain, plain-undelegated, plain-delegated, views_put-plain, delegated_there, undelegated_there}

pub Makes-unchanged : (config : Config) (w : Whole) → IsShaped config w → Makes config w Unchanged
unfolding changed cells_changed side_changed places_changed flat_state
Makes-unchanged config w shaped = record {
  views = views_of w.cells;
  seen = refl;
  flat = refl;
  tied = IsTied-shaped config w.side w.places w.cells shaped;
}

-- a cell that holds nothing, and gets another tag
pub record CanGetTag (cells : ℕ → Cell) (change : TagChange) : Type 0 where
  pub old : Cell
  pub new : Cell
  pub is_old : cells change.granule ≡ old
  pub is_new : cell_with_tag change.tag (cells change.granule) ≡ new
  pub is_tag : tag_of new ≡ change.tag
  pub old_plain : IsPlain old
  pub new_plain : IsPlain new

pub views_of-retagged : (cells : ℕ → Cell) (change : TagChange) → CanGetTag cells change
    → views_of (changed_at cells change.granule (cell_with_tag change.tag))
    ≡ record (views_of cells) { tags = put (tags_of cells) change.granule change.tag }
views_of-retagged cells change can =
    ap (λ c. views_of (put cells change.granule c)) can.is_new
    ∙ views_of-put cells change.granule can.new
    ∙ views_put-plain (views_of cells) change.granule can.old can.new (IsAt-cell cells change.granule can.old can.is_old) can.old_plain can.new_plain
    ∙ ap (λ t. record (views_of cells) { tags = put (tags_of cells) change.granule t }) can.is_tag

retag_cells : (config : Config) (cells : ℕ → Cell) (change : TagChange) → CanRetag (flat_state config cells) change → CanGetTag cells change
retag_cells config cells change (inl lent) = record {
  old = Undelegated;
  new = Delegated;
  is_old = undelegated_there config cells change.granule lent.0;
  is_new = ap (λ t. cell_with_tag t (cells change.granule)) lent.1;
  is_tag = sym lent.1;
  old_plain = plain-undelegated;
  new_plain = plain-delegated;
}
retag_cells config cells change (inr back) = record {
  old = Delegated;
  new = Undelegated;
  is_old = delegated_there config cells change.granule back.0;
  is_new = ap (λ t. cell_with_tag t (cells change.granule)) back.1;
  is_tag = sym back.1;
  old_plain = plain-delegated;
  new_plain = plain-undelegated;
}

pub Makes-retagged : (config : Config) (w : Whole) (change : TagChange) → IsShaped config w → CanRetag (flat_state config w.cells) change
    → Makes config w (Retagged change)
unfolding changed cells_changed side_changed places_changed flat_state
Makes-retagged config w change shaped can =
    let old = IsTied-shaped config w.side w.places w.cells shaped in
    record {
      views = record (views_of w.cells) { tags = put (tags_of w.cells) change.granule change.tag };
      seen = views_of-retagged w.cells change (retag_cells config w.cells change can);
      flat = refl;
      tied = record { sides = old.sides; tables = old.tables; links = old.links; inside = old.inside };
    }
