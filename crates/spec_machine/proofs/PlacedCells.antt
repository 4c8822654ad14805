-- What a granule's place says of its cell.
use Rattle.spec_machine.proofs.Common.{◌%◌, ◌*◌, ◌/◌, ◌<◌, ◌≡◌, CellList, IsTrue, None, Option, Some, arith, cells_of, is_granule, place-within, place_in, subst, sym, ℕ}
use Rattle.std.specs.Prelude.{IfNone, IfSome}
use Rattle.rmm_spec.specs.Cell as spec
use Rattle.spec_machine.proofs.PlaceLaws.{place-granule}
use Rattle.spec_machine.specs.Placed.{IsPlace}
use Rattle.spec_machine.proofs.Kept.{cells_in-none, granule_placed}

-- the granule at an address has its cell where the granule of the number has its place
pub some-place : (list : CellList) (address : ℕ) (o : Option ℕ) → address % 4096 ≡ 0 → o ≡ place_in list.places (address / 4096)
    → IfSome o (IsPlace list address)
some-place list address None even is = tt
some-place list address (Some place) even is =
    let below : address / 4096 < list.config.granules = omega (arith, place-granule list.places (address / 4096) place (sym is), list.granules) in
    let at : (address / 4096) * 4096 ≡ address = omega (arith, even) in
    record {
      granule = subst (λ a. IsTrue (is_granule list.config.granules a)) at (granule_placed list.config.granules (address / 4096) below);
      at = sym is;
      within = omega (arith, place-within list.places (address / 4096) place (sym is), list.each);
    }

-- and without one it is the host's
pub none-place : (list : CellList) (address : ℕ) (o : Option ℕ) → o ≡ place_in list.places (address / 4096)
    → IfNone o (cells_of list address ≡ spec.Undelegated)
unfolding cells_of
none-place list address None is = cells_in-none list.config.granules (place_in list.places) list.cells.items address (sym is)
none-place list address (Some place) is = tt
