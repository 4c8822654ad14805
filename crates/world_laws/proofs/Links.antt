-- Nothing hangs from a new root.
use Rattle.std.proofs.Common.{◌≡◌, ℕ, Option, Some, slice_get, sym, ap, ◌∙◌, subst}
use Rattle.std.proofs.lemmas.Option.{same_Some}
use Rattle.rmm_spec.specs.declared.entry.Entry.TheVariants.{Unassigned, Table}
use Rattle.rmm_spec.specs.declared.tag.Ripas.TheVariants.{Empty}
use Rattle.rmm_spec.specs.Table.{TableRecord}
use Rattle.rmm_spec.specs.Shape.{HoldsTable, IsLinked}
use Rattle.world_laws.specs.SmallWholes.{new_root}

pub no_root_link : (tables : ℕ → Option TableRecord) (granule : ℕ) → tables 0x2000 ≡ Some new_root
    → ((h : ℕ) → HoldsTable tables h 0x1000 1 0 → 0x2000 ≡ h) → IsLinked tables granule 0x1000 1 0 → ⊥
no_root_link tables granule root apart linked =
    let there : Some new_root ≡ Some linked.above.table = sym root ∙ (ap tables (apart linked.parent linked.above) ∙ linked.above.is_held) in
    let link : Some (Unassigned Empty) ≡ Some (Table granule) =
    subst (λ (t : TableRecord). slice_get t.entries 0 ≡ Some (Table granule)) (sym (same_Some new_root linked.above.table there)) linked.link in
    let entry : Unassigned Empty ≡ Table granule = same_Some (Unassigned Empty) (Table granule) link in cc
