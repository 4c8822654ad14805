-- What the machine accepts of a whole is a local step for a CPU that holds all granules.
use Rattle.std.proofs.Common.{◌≡◌, ℕ, zero, suc, ◌*◌, ◌/◌, ◌<◌, Bool, true, false, ◌==◌, List, [], ◌∷◌, ◌++◌, Ok, ◌⊎◌, inl, inr, refl, sym, ap, ◌∙◌, subst, arith, eqb-true}
use Rattle.std.specs.Prelude.{Contains}
use Rattle.rmm_spec.specs.HistoryText.{Config}
use Rattle.rmm_spec.specs.declared.change.Change.{Change}
use Rattle.rmm_spec.specs.declared.command.Command.{Command}
use Rattle.rmm_spec.specs.Call.{call_of}
use Rattle.rmm_spec.specs.Lookup.{is_granule}
use Rattle.rmm_spec.specs.Rows.{ok, done}
use Rattle.rmm_spec.specs.Step.{Step, outcome}
use Rattle.rmm_spec.specs.Cell.{Cell, put}
use Rattle.rmm_spec.specs.Flat.{flat_state}
use Rattle.rmm_spec.specs.Shape.{CpuPlace, Outside, IsWellShaped}
use Rattle.rmm_spec.specs.Local.{put_all, LocalStep}
use Rattle.world_laws.specs.Replaced.{held_at}
use Rattle.world_laws.proofs.Locals.{agrees-at}
use Rattle.spec_lemmas.proofs.Members.{Contains-nil, Contains-other, Contains-from_slice_get, slice_get-from_Contains, cells_at, cell_held, granules_held-cells_at}
use Rattle.rmm_laws.specs.Whole.{Whole, IsShaped, cells_changed, side_changed, places_changed, whole_changed}
use Rattle.rmm_laws.proofs.Accepted.{done-keeps_shape}
use Rattle.world_laws.specs.Strays.{granules_below, hold_all}
use Rattle.world_laws.proofs.Serving.{Contains-last}
use Rattle.lemmas.proofs.Elements.{slice_get-append}
use Rattle.lemmas.proofs.Tests.{keys_apart}
use Rattle.spec_lemmas.proofs.Maps.{put-same}
use Rattle.spec_lemmas.proofs.Lookups.{granule-number}

Contains-before : {X : Type 0} (xs ys : List X) (x : X) → Contains xs x → Contains (xs ++ ys) x
Contains-before xs ys x has =
    let at = slice_get-from_Contains xs x has in Contains-from_slice_get (xs ++ ys) at.0 x (slice_get-append xs ys at.0 x at.1)

-- each granule is among them
number_listed : (n k : ℕ) → k < n → Contains (granules_below n) (k * 4096)
number_listed zero k below = absurd (omega arith)
number_listed (suc n) k below = by (k == n) refl (number_listed n k)
  where
    by : (b : Bool) → (k == n) ≡ b → (k < n → Contains (granules_below n) (k * 4096)) → Contains (granules_below n ++ n * 4096 ∷ []) (k * 4096)
    by true here before =
        subst (λ j. Contains (granules_below n ++ n * 4096 ∷ []) (j * 4096)) (sym (eqb-true k n here)) (Contains-last (granules_below n) (n * 4096))
    by false apart before =
        let other : k ≡ n → ⊥ = keys_apart k n apart in
        Contains-before (granules_below n) (n * 4096 ∷ []) (k * 4096) (before (omega (arith, below, other)))

granule_listed : (n address : ℕ) → is_granule n address ≡ true → Contains (granules_below n) address
granule_listed n address is =
    let its = granule-number n address is in subst (Contains (granules_below n)) (sym its.1) (number_listed n (address / 4096) its.0)

-- cells that agree at each granule, and are no one's elsewhere, are the same
same_cells : (n : ℕ) (one two : ℕ → Cell) → ((a : ℕ) → is_granule n a ≡ true → one a ≡ two a)
    → ((a : ℕ) → is_granule n a ≡ false → one a ≡ two a) → one ≡ two
same_cells n one two within outside = λ i a. by a (is_granule n a) refl i
  where
    by : (a : ℕ) (b : Bool) → is_granule n a ≡ b → one a ≡ two a
    by a true is = within a is
    by a false is = outside a is

-- what is put in for a granule among them is there, and what was there already
pub put_all-listed : (held : List ℕ) (cells new : ℕ → Cell) (a : ℕ)
    → Contains held a ⊎ (cells a ≡ new a) → put_all cells (cells_at new held) a ≡ new a
put_all-listed [] cells new a (inl has) = absurd (Contains-nil a has)
put_all-listed [] cells new a (inr same) = same
put_all-listed (g ∷ held) cells new a how = by (a == g) refl (put_all-listed held (put cells g (new g)) new a)
  where
    later : (a == g) ≡ false → Contains (g ∷ held) a ⊎ (cells a ≡ new a) → Contains held a ⊎ (put cells g (new g) a ≡ new a)
    later apart (inl has) = inl (Contains-other g held a (λ same. keys_apart a g apart (sym same)) has)
    later apart (inr same) = inr (rw apart same)

    by : (b : Bool) → (a == g) ≡ b → (Contains held a ⊎ (put cells g (new g) a ≡ new a) → put_all (put cells g (new g)) (cells_at new held) a ≡ new a)
        → put_all (put cells g (new g)) (cells_at new held) a ≡ new a
    by true is rest = rest (inr (rw is (ap new (sym (eqb-true a g is)))))
    by false apart rest = rest (later apart how)

pub put_all-every : (n : ℕ) (cells new : ℕ → Cell)
    → ((a : ℕ) → is_granule n a ≡ false → cells a ≡ new a) → put_all cells (cells_at new (granules_below n)) ≡ new
put_all-every n cells new outside =
    same_cells n (put_all cells (cells_at new (granules_below n))) new
    (λ a is. put_all-listed (granules_below n) cells new a (inl (granule_listed n a is)))
    (λ a not. put_all-listed (granules_below n) cells new a (inr (outside a not)))

pub accepted-is_local : (config : Config) (cpu : ℕ) (command : Command) (change : Change) (w : Whole) → IsShaped config w
    → outcome (flat_state config w.cells) cpu (call_of command) ≡ Ok (done [] change)
    → ((places : ℕ → CpuPlace) → places_changed w.cells places change ≡ places)
    → LocalStep config cpu command (ok []) (hold_all config w) (hold_all config (whole_changed config w change))
accepted-is_local config cpu command change w shaped accepted stays = record {
  same = granules_held-cells_at (cells_changed config w.cells change) (granules_below config.granules)
      ∙ sym (granules_held-cells_at w.cells (granules_below config.granules));
  right = λ others places others_shaped agrees place.
      let here : w.cells ≡ others = same_cells config.granules w.cells others
      (λ a is. sym (agrees-at others (cells_at w.cells (granules_below config.granules)) (held_at a (w.cells a)) agrees
      (cell_held w.cells (granules_below config.granules) a (granule_listed config.granules a is))))
      (λ a not. shaped.outside.undelegated a not ∙ sym (others_shaped.outside.undelegated a not)) in
      subst (λ o. Step (flat_state config o) cpu command (ok [])
      (flat_state config (put_all o (cells_at (cells_changed config w.cells change) (granules_below config.granules))))
      × IsWellShaped config (side_changed w.cells w.side change) (put places cpu Outside)
      (put_all o (cells_at (cells_changed config w.cells change) (granules_below config.granules)))) here
      (at_home places place (subst (IsWellShaped config w.side places) (sym here) others_shaped));
}
  where
    at_home : (places : ℕ → CpuPlace) → places cpu ≡ Outside → IsWellShaped config w.side places w.cells
        → Step (flat_state config w.cells) cpu command (ok [])
        (flat_state config (put_all w.cells (cells_at (cells_changed config w.cells change) (granules_below config.granules))))
        × IsWellShaped config (side_changed w.cells w.side change) (put places cpu Outside)
        (put_all w.cells (cells_at (cells_changed config w.cells change) (granules_below config.granules)))
    at_home places place here =
        let fresh = cells_changed config w.cells change in
        let goes = done-keeps_shape config (record { cells = w.cells; side = w.side; places = places }) cpu command [] change here accepted in
        let put_in : put_all w.cells (cells_at fresh (granules_below config.granules)) ≡ fresh =
        put_all-every config.granules w.cells fresh (λ a not. here.outside.undelegated a not ∙ sym (goes.0.outside.undelegated a not)) in (
          subst (λ o. Step (flat_state config w.cells) cpu command (ok []) (flat_state config o)) (sym put_in) goes.1,
          subst (IsWellShaped config (side_changed w.cells w.side change) (put places cpu Outside)) (sym put_in)
              (subst (λ p. IsWellShaped config (side_changed w.cells w.side change) p fresh)
              (stays places ∙ sym (put-same places cpu Outside place)) goes.0),
        )
