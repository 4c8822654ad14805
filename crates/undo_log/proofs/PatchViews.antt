-- What lies in granules after patches, and the states that these cells make.
use Rattle.undo_log.proofs.Common.{◌≡◌, ◌∙◌, ◌<◌, ◌+◌, ◌==◌, ◌∷◌, Bool, Config, IsTrue, List, [], ap, cell_of, eqb-true, false, flat_state, if◌then◌else◌, inl, inr, is_granule, length, refl, subst, sym, true, ℕ}
use Rattle.std.specs.Prelude.{◌&&◌, ◌⊎◌, All, drop, get_or}
use Rattle.std.proofs.lemmas.List.{at_drop_more}
use Rattle.std.proofs.lemmas.List.Elements.{All-head, All-tail}
use Rattle.rmm_spec.specs.Cell as spec
use Rattle.undo_log.specs.Patches.{Standing, put_all, put_in, state_at}
use Rattle.undo_log.specs.PatchKeys.{AreAlikeAt, AreAlikeIn, cell_after, compared}
use Rattle.spec_machine.specs.Unmeasured.{unmeasured}
use Rattle.undo_log.specs.declared.patch.Replaced.{Replaced}
use Rattle.undo_log.specs.declared.patch.Replaced.TheVariants.{Cell, Places, RecCount, Vmid}
use Rattle.undo_log.proofs.LikeStates.{flat_state-unmeasured}
use Rattle.undo_log.proofs.PatchKeys.{config-put_all, put-cell}
use Rattle.lemmas.proofs.Tests.{and_second-fails}

-- ---- the cell in a granule

-- what isn't put in leaves what is there
off : (b p : Bool) (one old : spec.Cell) → (b && p) ≡ false → (if b && p then one else old) ≡ old
off b p one old is = ap (λ (c : Bool). if c then one else old) is

-- where none of the items before one names the granule, what that one puts in is what lies there
pub cell-found : (items : List Replaced) (i : ℕ) (item : Replaced) (s : Standing) (granule : ℕ) (cell : spec.Cell)
    → i < length items → item ≡ get_or items i item → IsTrue (is_granule s.config.granules granule)
    → ((t : Standing) → IsTrue (is_granule t.config.granules granule) → cell ≡ (put_in item t).whole.cells granule)
    → cell_after (drop i items) s granule ≡ cell_after items s granule → cell ≡ cell_after items s granule
cell-found items i item s granule cell below is there puts so_far =
    let rest = put_all (drop (i + 1) items) s in
    puts rest (subst (λ (config : Config). IsTrue (is_granule config.granules granule)) (sym (config-put_all (drop (i + 1) items) s)) there)
    ∙ ((λ j. (put_in (is j) rest).whole.cells granule)
    ∙ (sym (at_drop_more (λ xs. cell_after xs s granule) items i item below) ∙ so_far))

-- nothing is put in what is no granule
pub cell-nowhere : (items : List Replaced) (s : Standing) (granule : ℕ) → is_granule s.config.granules granule ≡ false
    → s.whole.cells granule ≡ cell_after items s granule
cell-nowhere [] s granule none = refl
cell-nowhere (Cell place cell ∷ items) s granule none =
    let rest = put_all items s in
    cell-nowhere items s granule none
    ∙ sym (ap (λ (t : Standing). t.whole.cells granule) (put-cell place cell rest)
    ∙ off (is_granule rest.config.granules place) (granule == place) (cell_of cell) (rest.whole.cells granule) (by (granule == place) refl))
  where
    by : (p : Bool) → (granule == place) ≡ p → (is_granule (put_all items s).config.granules place && p) ≡ false
    by true at =
        let one : place ≡ granule = sym (eqb-true granule place at) in
        ap (λ b. b && true) ((λ i. is_granule (config-put_all items s i).granules (one i)) ∙ none)
    by false at = and_second-fails (is_granule (put_all items s).config.granules place) false refl
cell-nowhere (Vmid vmid realm ∷ items) s granule none = cell-nowhere items s granule none
cell-nowhere (RecCount rd count ∷ items) s granule none = cell-nowhere items s granule none
cell-nowhere (Places places ∷ items) s granule none = cell-nowhere items s granule none

-- what lies in a granule is what the whole had there, or an item names the granule
named-or-own : (P : ℕ → Type 0) (Q : Replaced → Type 0) → ((place : ℕ) (cell : _) → Q (Cell place cell) → P place)
    → (items : List Replaced) → All Q items → (s : Standing) (granule : ℕ) → P granule ⊎ (cell_after items s granule ≡ s.whole.cells granule)
named-or-own P Q names [] all s granule = inr refl
named-or-own P Q names (Cell place cell ∷ items) all s granule =
    by (granule == place) refl (named-or-own P Q names items (All-tail Q (Cell place cell) items all) s granule)
  where
    by : (p : Bool) → (granule == place) ≡ p → P granule ⊎ (cell_after items s granule ≡ s.whole.cells granule)
        → P granule ⊎ (cell_after (Cell place cell ∷ items) s granule ≡ s.whole.cells granule)
    by true at others = inl (subst P (sym (eqb-true granule place at)) (names place cell (All-head Q (Cell place cell) items all)))
    by false at (inl named) = inl named
    by false at (inr own) =
        let rest = put_all items s in
        let b = is_granule rest.config.granules place in
        inr (ap (λ (t : Standing). t.whole.cells granule) (put-cell place cell rest)
        ∙ (off b (granule == place) (cell_of cell) (rest.whole.cells granule) (and_second-fails b (granule == place) at) ∙ own))
named-or-own P Q names (Vmid vmid realm ∷ items) all s granule =
    named-or-own P Q names items (All-tail Q (Vmid vmid realm) items all) s granule
named-or-own P Q names (RecCount rd count ∷ items) all s granule =
    named-or-own P Q names items (All-tail Q (RecCount rd count) items all) s granule
named-or-own P Q names (Places places ∷ items) all s granule = named-or-own P Q names items (All-tail Q (Places places) items all) s granule

-- so two patches that are alike where one of them names a granule are alike in each
pub alike-everywhere : (measured : Bool) (one other : List Replaced) (s : Standing)
    → All (AreAlikeIn measured one other s) one → All (AreAlikeIn measured one other s) other
    → (granule : ℕ) → AreAlikeAt measured one other s granule
alike-everywhere measured one other s first second granule = elim (own one first) [
  | inl alike ↦ alike
  | inr left ↦ elim (own other second) [ inl alike ↦ alike | inr right ↦ ap (compared measured) (left ∙ sym right) ]
]
  where
    own : (items : List Replaced) → All (AreAlikeIn measured one other s) items
        → AreAlikeAt measured one other s granule ⊎ (cell_after items s granule ≡ s.whole.cells granule)
    own items all = named-or-own (AreAlikeAt measured one other s) (AreAlikeIn measured one other s) (λ _ _ alike. alike) items all s granule

-- ---- the states

-- the size is one after both patches
same-config : (one other : List Replaced) (s : Standing) → (put_all one s).config ≡ (put_all other s).config
same-config one other s = config-put_all one s ∙ sym (config-put_all other s)

-- the same cells make one state
pub same-state : (one other : List Replaced) (s : Standing) → ((granule : ℕ) → AreAlikeAt true one other s granule)
    → state_at (put_all one s) ≡ state_at (put_all other s)
unfolding state_at
same-state one other s alike = λ i. flat_state (same-config one other s i) (λ granule. alike granule i)

-- so cells that are the same but for measurements make states that are
pub like-state : (one other : List Replaced) (s : Standing) → ((granule : ℕ) → AreAlikeAt false one other s granule)
    → unmeasured (state_at (put_all one s)) ≡ unmeasured (state_at (put_all other s))
unfolding state_at
like-state one other s alike =
    sym (flat_state-unmeasured (put_all one s).config (put_all one s).whole.cells)
    ∙ ((λ i. flat_state (same-config one other s i) (λ granule. alike granule i))
    ∙ flat_state-unmeasured (put_all other s).config (put_all other s).whole.cells)
