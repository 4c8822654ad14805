-- The walk by links from a realm's root, over the granules of a machine.
use Rattle.spec_machine.proofs.Common.{◌∙◌, ◌≡◌, ◌≤◌, CellList, Entry, Granules, IsShapedIn, Some, State, TableRecord, ap, arith, cells_of, config_of, flat_state, state_in, subst, sym, whole_of, ℕ}
use Rattle.rmm_spec.specs.Walk.{IsWalk}
use Rattle.rmm_spec.specs.Sound.{IsSound}
use Rattle.rmm_spec.specs.TableCells.{table_in, with_tables, IsWalkable}
use Rattle.rmm_spec.specs.Cell.{tables_of}
use Rattle.rmm_laws.proofs.ShapeTies.{well_shaped-is_sound}
use Rattle.spec_machine.specs.Whole.{tables_in}
use Rattle.spec_machine.specs.WholeLaws.{tables_in-placed}
use Rattle.spec_machine.specs.Walks.{StartsAt}
use Rattle.spec_machine.proofs.OneCell.{tables-same}
use Rattle.spec_machine.proofs.Walkable.{with_tables-same, walkable-root, root-table}

-- the list of tables has what lies in each granule
pub tables_in-same : (list : CellList) (address : ℕ) → table_in (tables_in list) address ≡ tables_of (cells_of list) address
tables_in-same list address = tables-same list address

pub sound_in : (g : Granules) → IsShapedIn g → IsSound (state_in g)
unfolding state_in
sound_in g shaped = well_shaped-is_sound (config_of g) (whole_of g).side (whole_of g).places (whole_of g).cells shaped

-- a walk may start at a root
pub start-walkable : (g : Granules) → IsShapedIn g → (rd ipa max root level : ℕ) → StartsAt (state_in g) rd ipa root level → level ≤ max
    → IsWalkable (tables_in g.list) root ipa max
unfolding state_in flat_state
start-walkable g shaped rd ipa max root level start within =
    subst (λ x. IsWalkable (tables_in g.list) x ipa max) start.is_root
    (walkable-root (config_of g) (whole_of g).side (whole_of g).places (cells_of g.list) shaped
    (tables_in g.list) (tables_in-placed g.list) (tables_in-same g.list)
    rd ipa max start.realm start.is_realm (omega (arith, start.is_level, within)) start.inside)

-- and it is the flat state's
pub start-walks : (g : Granules) → IsShapedIn g → (rd ipa max root level end granule : ℕ) (entry : Entry)
    → StartsAt (state_in g) rd ipa root level → level ≤ max
    → ((s : State) (t : TableRecord) → table_in (tables_in g.list) root ≡ Some t
    → IsWalk (with_tables s (tables_in g.list)) t.place.rd ipa max end granule entry)
    → IsWalk (state_in g) rd ipa max end granule entry
unfolding state_in flat_state
start-walks g shaped rd ipa max root level end granule entry start within walks =
    let t = root-table (config_of g) (whole_of g).side (whole_of g).places
    (cells_of g.list) shaped (tables_in g.list) (tables_in-placed g.list) (tables_in-same g.list)
    rd ipa max start.realm start.is_realm (omega (arith, start.is_level, within)) start.inside in
    let there : table_in (tables_in g.list) root ≡ Some t.0 = ap (table_in (tables_in g.list)) (sym start.is_root) ∙ t.1 in
    let s = flat_state (config_of g) (cells_of g.list) in
    subst (λ x. IsWalk x rd ipa max end granule entry)
    (with_tables-same (config_of g) (whole_of g).side (whole_of g).places
    (cells_of g.list) shaped (tables_in g.list) (tables_in-placed g.list) (tables_in-same g.list))
    (subst (λ x. IsWalk (with_tables s (tables_in g.list)) x ipa max end granule entry) t.2 (walks s t.0 there))
