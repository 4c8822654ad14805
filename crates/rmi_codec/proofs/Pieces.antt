-- What the first bytes of a text say of its bad line.
use Rattle.std.proofs.Common.{◌≡◌, ◌≢◌, ℕ, zero, suc, ◌+◌, ◌<◌, ◌≤◌, List, [], ◌∷◌, ◌++◌, length, get_or, take, drop, if◌then◌else◌, refl, sym, ap, ◌∙◌, subst, arith, ⊎_elim, append_assoc, length-append, take-append-drop, drop-cons, ◌==◌}
use Rattle.std.specs.List.{flat_map}
use Rattle.std.proofs.lemmas.Bool.{cases_lt, ne_eqb}
use Rattle.std.proofs.lemmas.List.{append-nil}
use Rattle.std.proofs.lemmas.List.Concat.{flat_map-append}
use Rattle.spec_lemmas.proofs.Lines.{AreOneLineEach, IsLineGrammar, IsBadLine-after, first_lines-line}
use Rattle.rmm_spec.specs.Text.{HasNoNewline, IsBadLine, first_lines, line_text, lines_text}
use Rattle.rmi_codec.specs.Newlines.{newlines}

-- bytes without a newline that begin a line are no more than the line has
no_longer : (rest more line tail : List ℕ) → HasNoNewline rest → rest ++ more ≡ line ++ 10 ∷ tail → length rest ≤ length line
no_longer [] more line tail none same = omega arith
no_longer (byte ∷ rest) more [] tail none same = absurd (none.0 (let e : byte ≡ 10 = cc in e))
no_longer (byte ∷ rest) more (x ∷ line) tail none same =
    let shorter = no_longer rest more line tail none.1 (let e : rest ++ more ≡ line ++ 10 ∷ tail = cc in e) in
    omega (arith, shorter)

-- The good lines are followed by the beginning of a line that is longer than any that may follow: that line is bad, whatever comes.
pub IsBadLine-too_long : {Grammar : List ℕ → Type 0} {Takes : List (List (List ℕ)) → Type 0} → IsLineGrammar Grammar Takes
    → (good : List (List (List ℕ))) (rest more : List ℕ) → AreOneLineEach good → HasNoNewline rest → 0 < length rest
    → (0 < length good → Grammar (lines_text good))
    → ((line : List (List ℕ)) → Takes (good ++ line ∷ []) → length (line_text line) < length rest)
    → IsBadLine Grammar (lines_text good ++ (rest ++ more)) (length good + 1)
IsBadLine-too_long grammar good rest more each none some before shorter =
    IsBadLine-after grammar good (lines_text good ++ (rest ++ more)) (rest ++ more) each refl before
    (λ ended _. omega (arith, some, ap length ended, length-append rest more))
    (λ line tail same taken. omega (arith, shorter line taken, no_longer rest more (line_text line) tail none same))

-- the first lines of a text that begins with whole lines
first_lines-front : (n : ℕ) (good : List (List (List ℕ))) (rest : List ℕ) → n ≤ length good → AreOneLineEach good
    → first_lines n (lines_text good ++ rest) ≡ lines_text (take n good)
first_lines-front zero good rest few each = refl
first_lines-front (suc n) [] rest few each = absurd (omega (arith, few))
first_lines-front (suc n) (line ∷ good) rest few each =
    ap (λ bytes. first_lines (suc n) bytes) (append_assoc (line_text line) (10 ∷ lines_text good) rest)
    ∙ first_lines-line n (line_text line) (lines_text good ++ rest) each.0.has_no_newline
    ∙ ap (λ bytes. line_text line ++ 10 ∷ bytes) (first_lines-front n good rest (let e : n ≤ length good = omega (arith, few) in e) each.1)

-- where each front of some lines is in the grammar, the bad line stands behind them
pub behind_good : {Grammar : List ℕ → Type 0} → (good : List (List (List ℕ))) (rest : List ℕ) (n : ℕ) → AreOneLineEach good
    → ((m : ℕ) → 0 < m → Grammar (lines_text (take m good))) → IsBadLine Grammar (lines_text good ++ rest) n → length good < n
behind_good {Grammar} good rest n each fronts bad =
    ⊎_elim (λ (past : length good < n). past)
    (λ (within : n ≤ length good). absurd (bad.here (subst Grammar (sym (first_lines-front n good rest within each)) (fronts n bad.counted))))
    (cases_lt (length good) n)

-- ---- whole lines, counted

-- a byte that is no newline ends no line
no_more : (byte : ℕ) → byte ≢ 10 → ◌≡◌ {A = ℕ} (if byte == 10 then 1 else 0) 0
no_more byte other = ap (λ b. if b then 1 else 0) (ne_eqb byte 10 other)

newlines-none : (bytes : List ℕ) → HasNoNewline bytes → newlines bytes ≡ 0
newlines-none [] none = refl
newlines-none (byte ∷ bytes) none = omega (arith, no_more byte none.0, newlines-none bytes none.1)

newlines-line : (front rest : List ℕ) → HasNoNewline front → newlines (front ++ 10 ∷ rest) ≡ newlines rest + 1
newlines-line [] rest none =
    let one : newlines (10 ∷ rest) ≡ 1 + newlines rest = refl in
    omega (arith, one)
newlines-line (byte ∷ front) rest none = omega (arith, no_more byte none.0, newlines-line front rest none.1)

-- whole lines, and the beginning of the next
pub newlines-lines : (good : List (List (List ℕ))) (rest : List ℕ) → AreOneLineEach good → HasNoNewline rest
    → newlines (lines_text good ++ rest) ≡ length good
newlines-lines [] rest each none = newlines-none rest none
newlines-lines (line ∷ good) rest each none =
    let cut : newlines (lines_text (line ∷ good) ++ rest) ≡ newlines (lines_text good ++ rest) + 1 =
    ap newlines (append_assoc (line_text line) (10 ∷ lines_text good) rest)
    ∙ newlines-line (line_text line) (lines_text good ++ rest) each.0.has_no_newline in
    omega (arith, cut, newlines-lines good rest each.1 none)

-- ---- pieces, joined

-- those before one, that one and those behind it
pub flat_map_at : {X : Type 0} (f : X → List ℕ) (xs : List X) (i : ℕ) (d : X) → i < length xs
    → flat_map f (take i xs) ++ (f (get_or xs i d) ++ flat_map f (drop (suc i) xs)) ≡ flat_map f xs
flat_map_at f xs i d within =
    ap (λ r. flat_map f (take i xs) ++ r) (sym (ap (flat_map f) (drop-cons xs i d within)))
    ∙ sym (flat_map-append f (take i xs) (drop i xs)) ∙ ap (flat_map f) (take-append-drop i xs)

-- those up to one, and that one
flat_map-suc : {X : Type 0} (f : X → List ℕ) (xs : List X) (i : ℕ) (d : X) → i < length xs
    → flat_map f (take i xs) ++ f (get_or xs i d) ≡ flat_map f (take (suc i) xs)
flat_map-suc f [] i d within = absurd (omega (arith, within))
flat_map-suc f (x ∷ xs) zero d within = sym (append-nil (f x))
flat_map-suc f (x ∷ xs) (suc i) d within =
    append_assoc (f x) (flat_map f (take i xs)) (f (get_or xs i d))
    ∙ ap (λ r. f x ++ r) (flat_map-suc f xs i d (let h : i < length xs = omega (arith, within) in h))

pub flat_map-next : {X : Type 0} (f : X → List ℕ) (xs : List X) (i : ℕ) (d : X) → i < length xs
    → flat_map f (take i xs) ++ f (get_or xs i d) ≡ flat_map f (take (i + 1) xs)
flat_map-next f xs i d within =
    flat_map-suc f xs i d within ∙ ap (λ n. flat_map f (take n xs)) (let e : suc i ≡ i + 1 = omega arith in e)
