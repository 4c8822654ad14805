-- One cell more is lent, the others are as they were; and what is lent is given back.
use Rattle.world.proofs.Common.{◌++◌, ◌+◌, ◌<◌, ◌==◌, ◌∙◌, ◌∷◌, ◌≡◌, Bool, Contains, IsTrue, List, [], ap, are_distinct, arith, cells_at, eq-eqb, false, get_or, if◌then◌else◌, length, put, put_all, refl, subst, suc, sym, take, true, zero, ℕ}
use Rattle.std.proofs.Common.{not}
use Rattle.std.specs.List.{list_any}
use Rattle.std.proofs.lemmas.Bool.{and_parts, not-true}
use Rattle.std.proofs.lemmas.List.{take_more}
use Rattle.std.proofs.lemmas.List.Elements.{Contains-append_left, Contains-push}
use Rattle.std.proofs.lemmas.List.Folds.{list_any_at}
use Rattle.rmm_spec.specs.Cell as whole
use Rattle.lemmas.proofs.Elements.{map-push}
use Rattle.lemmas.proofs.Tests.{both_ways}
use Rattle.rmm_spec.specs.Local.{HeldCell, granules_held}
use Rattle.spec_lemmas.proofs.Maps.{put-other}
use Rattle.world_laws.proofs.Locals.{put_all-agrees}
use Rattle.spec_lemmas.proofs.Members.{Contains-nil, Contains-other, granules_held-cells_at}
use Rattle.world_laws.proofs.Recorded.{Agrees-own}
use Rattle.world_laws.specs.Replaced.{held_at}
use Rattle.command_core.specs.Seen.{is_held}
use Rattle.command_core.proofs.SeenCells.{held-contains}

-- a granule of a list without doubles isn't among those before it
pub distinct-before : (gs : List ℕ) (i : ℕ) → i < length gs → IsTrue (are_distinct gs) → Contains (take i gs) (get_or gs i 0) → ⊥
distinct-before [] i within distinct has = absurd (omega (arith, within))
distinct-before (x ∷ gs) zero within distinct has = Contains-nil x has
distinct-before (x ∷ gs) (suc i) within distinct has =
    let parts = and_parts (not (list_any (λ other. other == x) gs)) (are_distinct gs) distinct in
    let inside : i < length gs = omega (arith, within) in
    distinct-before gs i inside parts.1 (Contains-other x (take i gs) (get_or gs i 0) (λ same.
    both_ways (list_any_at (λ other. other == x) gs i 0 inside (eq-eqb (get_or gs i 0) x (sym same)))
    (not-true (list_any (λ other. other == x) gs) parts.0)) has)

-- what isn't among those lent so far is as it was
pub kept-next : (gs : List ℕ) (i : ℕ) (start now : ℕ → whole.Cell) (cell : whole.Cell) → i < length gs
    → ((x : ℕ) → (Contains (take i gs) x → ⊥) → now x ≡ start x)
    → (x : ℕ) → (Contains (take (i + 1) gs) x → ⊥) → put now (get_or gs i 0) cell x ≡ start x
kept-next gs i start now cell within kept x apart =
    let more = take_more gs i 0 within in
    let others : Contains (take i gs) x → ⊥ =
    λ has. apart (subst (λ xs. Contains xs x) (sym more) (Contains-append_left (take i gs) (get_or gs i 0 ∷ []) x has)) in
    put-other now (get_or gs i 0) cell x
    (λ same. apart (subst (λ xs. Contains xs x) (sym more)
    (subst (Contains (take i gs ++ get_or gs i 0 ∷ [])) (sym same) (Contains-push (take i gs) (get_or gs i 0)))))
    ∙ kept x others

-- the cells lent so far, with that of the next granule
pub cells_at-next : (gs : List ℕ) (i g : ℕ) (start : ℕ → whole.Cell) → i < length gs → g ≡ get_or gs i g
    → cells_at start (take (i + 1) gs) ≡ cells_at start (take i gs) ++ held_at g (start g) ∷ []
cells_at-next gs i g start within is =
    ap (cells_at start) (take_more gs i g within ∙ ap (λ x. take i gs ++ x ∷ []) (sym is))
    ∙ map-push (λ granule. held_at granule (start granule)) (take i gs) g

-- a granule that is none of the held ones isn't held
pub is_held-apart : (held : List HeldCell) (g : ℕ) → (Contains (granules_held held) g → ⊥) → is_held g held ≡ false
is_held-apart held g apart = by (is_held g held) refl
  where
    by : (b : Bool) → is_held g held ≡ b → is_held g held ≡ false
    by true is = absurd (apart (held-contains held g is))
    by false is = is

-- ---- given back

-- cells that are put in at their own granules are put over the start too
pub put_all-lent : (held : List HeldCell) (start now : ℕ → whole.Cell) → ((x : ℕ) → (Contains (granules_held held) x → ⊥) → now x ≡ start x)
    → put_all now held ≡ put_all start held
put_all-lent [] start now kept = λ i x. kept x (Contains-nil x) i
put_all-lent (h ∷ held) start now kept =
    put_all-lent held (put start h.granule h.cell) (put now h.granule h.cell) (λ x apart. by x apart (x == h.granule) refl)
  where
    by : (x : ℕ) → (Contains (granules_held held) x → ⊥) → (b : Bool) → (x == h.granule) ≡ b
        → (if b then h.cell else now x) ≡ (if b then h.cell else start x)
    by x apart true is = refl
    by x apart false is =
        kept x (λ has. apart (Contains-other h.granule (granules_held held) x (λ here. both_ways (eq-eqb x h.granule (sym here)) is) has))

-- cells that others gave way to are all back once those are put in
pub put_all-given_back : (gs : List ℕ) (start now : ℕ → whole.Cell) → ((x : ℕ) → (Contains gs x → ⊥) → now x ≡ start x)
    → put_all now (cells_at start gs) ≡ start
put_all-given_back gs start now kept =
    put_all-lent (cells_at start gs) start now
    (subst (λ held. (x : ℕ) → (Contains held x → ⊥) → now x ≡ start x) (sym (granules_held-cells_at start gs)) kept)
    ∙ put_all-agrees (cells_at start gs) start (Agrees-own start gs)
