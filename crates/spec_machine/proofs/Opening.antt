-- The granules of a new machine are all the host's.
use Rattle.spec_machine.proofs.Common.{◌/◌, ◌∙◌, ◌≡◌, Bool, Config, List, None, Option, Some, [], ap, false, flat_state, if◌then◌else◌, is_granule, refl, replicate, slice_index_or, subst, sym, true, ℕ}
use Rattle.rmm_spec.specs.State.{opening}
use Rattle.rmm_spec.specs.Cell as spec
use Rattle.rmm_spec.specs.Shape as shape
use Rattle.rmm_spec.specs.World.{opening_world}
use Rattle.spec_lemmas.proofs.Opening.{flat_state-opening, IsShapedWorld-opening}
use Rattle.rmm_laws.specs.Whole.{Whole, IsShaped}
use Rattle.granule_cells.specs.declared.cpu_place.CpuPlace.TheVariants.{Outside}
use Rattle.granule_cells.specs.Seen.{place_of}
use Rattle.spec_machine.specs.Whole.{cells_in, placed_at, places_in}
use Rattle.spec_machine.proofs.Kept.{get_or-replicate_all}

pub cells-new : (granules n : ℕ) (place : ℕ → Option ℕ) (cells : List spec.Cell) → cells ≡ replicate n spec.Undelegated
    → cells_in granules place cells ≡ (λ _. spec.Undelegated)
cells-new granules n place cells is = λ i address. by address (is_granule granules address) i
  where
    at : (o : Option ℕ) → placed_at cells o ≡ spec.Undelegated
    at None = refl
    at (Some o) = ap (λ (items : List spec.Cell). slice_index_or items o spec.Undelegated) is ∙ get_or-replicate_all n o spec.Undelegated _ refl

    by : (address : ℕ) (b : Bool) → (if b then placed_at cells (place (address / 4096)) else spec.Undelegated) ≡ spec.Undelegated
    by address true = at (place (address / 4096))
    by address false = refl

pub places-new : (n : ℕ) → places_in (replicate n Outside) ≡ (λ _. shape.Outside)
places-new n = λ i cpu. ap place_of (get_or-replicate_all n cpu Outside _ refl) i

pub opening-state : (config other : Config) (cells : ℕ → spec.Cell)
    → other ≡ config → cells ≡ (λ _. spec.Undelegated) → flat_state other cells ≡ opening config
opening-state config other cells same is = (λ i. flat_state (same i) (is i)) ∙ flat_state-opening config

nothing : shape.Side
nothing = record { vmids = λ _. None; rec_counts = λ _. 0 }

side-new : (side : shape.Side) → ((vmid : ℕ) → side.vmids vmid ≡ None) → ((rd : ℕ) → side.rec_counts rd ≡ 0) → side ≡ nothing
unfolding nothing
side-new side unused none = λ i. record { vmids = λ vmid. unused vmid i; rec_counts = λ rd. none rd i }

opening-whole : (config : Config) → IsShaped config (record { cells = λ _. spec.Undelegated; side = nothing; places = λ _. shape.Outside })
unfolding opening_world nothing
opening-whole config = IsShapedWorld-opening config (λ _. [])

pub opening-shaped : (config : Config) (w : Whole) → w.cells ≡ (λ _. spec.Undelegated) → ((vmid : ℕ) → w.side.vmids vmid ≡ None)
    → ((rd : ℕ) → w.side.rec_counts rd ≡ 0) → w.places ≡ (λ _. shape.Outside) → IsShaped config w
opening-shaped config w cells unused none places =
    subst (IsShaped config) (λ i. record { cells = sym cells i; side = sym (side-new w.side unused none) i; places = sym places i })
    (opening-whole config)
