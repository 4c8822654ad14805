-- Counts with one line more.
use Rattle.std.proofs.Common.{◌≡◌, ◌≢◌, ℕ, ◌+◌, ◌<◌, ◌≤◌, ◌==◌, Bool, true, false, cond, List, [], ◌∷◌, ◌++◌, length, get_or, refl, sym, ap, ◌∙◌, arith}
use Rattle.std.specs.Prelude.{count_by, replicate}
use Rattle.std.proofs.Math.ListN.{set}
use Rattle.std.proofs.lemmas.Bool.{eqb-true, eqb-false}
use Rattle.std.proofs.lemmas.Grind.{get_or-set_at}
use Rattle.std.proofs.lemmas.List.{get_or-replicate, get_or-set_other}
use Rattle.std.proofs.lemmas.List.Sums.{count_by-le-length, sum_by-append}
use Rattle.run_steps.specs.Replayed.{Told}
use Rattle.run_steps.specs.Places.{place_count, place_told}

-- each place has the count of the lines that are told so
abbrev pub AreCounted : List ℕ → List Told → Type 0
AreCounted counts told = (place : ℕ) → place < place_count → get_or counts place 0 ≡ count_by (λ (line : Told). place_told line == place) told

count_push : (told : List Told) (here : Told) (place : ℕ) → count_by (λ (line : Told). place_told line == place) (told ++ here ∷ [])
    ≡ count_by (λ (line : Told). place_told line == place) told + cond (place_told here == place) 1 0
count_push told here place =
    let whole = sum_by-append (λ (line : Told). cond (place_told line == place) 1 0) told (here ∷ []) in
    omega (arith, whole)

-- where the line is told of the place, and where it is of another
count_here : (told : List Told) (here : Told) (place : ℕ) (is : Bool) → place_told here == place ≡ is
    → count_by (λ (line : Told). place_told line == place) (told ++ here ∷ [])
    ≡ count_by (λ (line : Told). place_told line == place) told + cond is 1 0
count_here told here place is same = count_push told here place
    ∙ ap (λ (b : Bool). count_by (λ (line : Told). place_told line == place) told + cond b 1 0) same

pub AreCounted-next : (counts : List ℕ) (told : List Told) (here : Told) → length counts ≡ place_count → place_told here < place_count
    → AreCounted counts told
    → AreCounted (set counts (place_told here) (get_or counts (place_told here) 0 + 1)) (told ++ here ∷ [])
AreCounted-next counts told here whole within counted place below = by (place_told here == place) refl
  where
    by : (is : Bool) → place_told here == place ≡ is
        → get_or (set counts (place_told here) (get_or counts (place_told here) 0 + 1)) place 0
        ≡ count_by (λ (line : Told). place_told line == place) (told ++ here ∷ [])
    by true same =
        let one : place_told here ≡ place = eqb-true (place_told here) place same in
        let set_here =
        get_or-set_at counts (place_told here) place (get_or counts (place_told here) 0 + 1) 0 (sym one) (omega (arith, whole, within)) in
        let before = counted (place_told here) within in
        set_here ∙ ap (λ (n : ℕ). n + 1) (ap (λ (p : ℕ). get_or counts p 0) one ∙ counted place below) ∙ sym (count_here told here place true same)
    by false same =
        let other : place ≢ place_told here = λ e. eqb-false (place_told here) place same (sym e) in
        get_or-set_other counts (place_told here) place (get_or counts (place_told here) 0 + 1) 0 other ∙ counted place below
        ∙ (let none : count_by (λ (line : Told). place_told line == place) told
        ≡ count_by (λ (line : Told). place_told line == place) (told ++ here ∷ [])
        = omega (arith, count_here told here place false same) in none)

-- no count passes that of the lines
pub counted_few : (counts : List ℕ) (told : List Told) (place : ℕ) → place < place_count → AreCounted counts told
    → get_or counts place 0 ≤ length told
counted_few counts told place below counted =
    let most = count_by-le-length (λ (line : Told). place_told line == place) told in
    omega (arith, counted place below, most)

-- at first nothing is counted
pub AreCounted-none : (counts : List ℕ) → counts ≡ replicate place_count 0 → AreCounted counts []
AreCounted-none counts same place below = ap (λ (xs : List ℕ). get_or xs place 0) same ∙ get_or-replicate place_count place 0 0 below
