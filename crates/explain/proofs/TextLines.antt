-- What stands behind the first lines of a text.
use Rattle.std.proofs.Common.{◌≡◌, ℕ, zero, suc, Bool, true, false, ◌==◌, List, [], ◌∷◌, ◌++◌, refl, sym, ap, ◌∙◌, append_assoc, if◌then◌else◌}
use Rattle.std.proofs.lemmas.Bool.{ne_eqb}
use Rattle.std.proofs.lemmas.List.{append-nil}
use Rattle.spec_lemmas.proofs.Lines.{first_lines-line}
use Rattle.rmm_spec.specs.Text.{first_lines, HasNoNewline}

-- the rest of the text stands behind some of its first lines, and so many of them are left
pub record IsBehind (text : List ℕ) (count left : ℕ) (rest : List ℕ) : Type 0 where
  pub before : List ℕ
  pub is_text : text ≡ before ++ rest
  pub lines : first_lines count text ≡ before ++ first_lines left rest

-- one line further
pub IsBehind-next : (text : List ℕ) (count left : ℕ) (rest cut more : List ℕ) → HasNoNewline cut → rest ≡ cut ++ 10 ∷ more
    → IsBehind text count (suc left) rest → IsBehind text count left more
IsBehind-next text count left rest cut more none is_rest behind = record {
  before = behind.before ++ (cut ++ 10 ∷ []);
  is_text = behind.is_text ∙ ap (λ bytes. behind.before ++ bytes) (is_rest ∙ sym (append_assoc cut (10 ∷ []) more))
      ∙ sym (append_assoc behind.before (cut ++ 10 ∷ []) more);
  lines = behind.lines
      ∙ ap (λ bytes. behind.before ++ first_lines (suc left) bytes) is_rest
      ∙ ap (λ bytes. behind.before ++ bytes) (first_lines-line left cut more none ∙ sym (append_assoc cut (10 ∷ []) (first_lines left more)))
      ∙ sym (append_assoc behind.before (cut ++ 10 ∷ []) (first_lines left more));
}

-- a text without a newline is its own first line
pub first_lines-one_line : (n : ℕ) (text : List ℕ) → HasNoNewline text → first_lines (suc n) text ≡ text
first_lines-one_line n [] none = refl
first_lines-one_line n (byte ∷ text) none =
    ap (λ b. byte ∷ first_lines (if b then n else suc n) text) (ne_eqb byte 10 none.0)
    ∙ ap (λ bytes. byte ∷ bytes) (first_lines-one_line n text none.1)

-- nothing is left of a text that has too few lines
pub first_lines-few : (text : List ℕ) (count left : ℕ) (rest : List ℕ)
    → HasNoNewline rest → IsBehind text count (suc left) rest → text ≡ first_lines count text ++ []
first_lines-few text count left rest none behind =
    behind.is_text
    ∙ ap (λ bytes. behind.before ++ bytes) (sym (first_lines-one_line left rest none))
    ∙ sym behind.lines
    ∙ sym (append-nil (first_lines count text))

-- the first lines of the first lines are they
pub first_lines-again : (n : ℕ) (text : List ℕ) → first_lines n (first_lines n text) ≡ first_lines n text
first_lines-again zero text = refl
first_lines-again (suc n) [] = refl
first_lines-again (suc n) (byte ∷ text) = ap (λ bytes. byte ∷ bytes) (first_lines-again (if byte == 10 then n else suc n) text)

-- one line more is the first line of the rest
pub first_lines-next : (n : ℕ) (text rest : List ℕ)
    → text ≡ first_lines n text ++ rest → first_lines (suc n) text ≡ first_lines n text ++ first_lines 1 rest
first_lines-next zero text rest is_text = ap (first_lines 1) is_text
first_lines-next (suc n) [] rest is_text = ap (first_lines 1) is_text
first_lines-next (suc n) (byte ∷ text) rest is_text = by (byte == 10) is_text (λ m is_rest. first_lines-next m text rest is_rest)
  where
    by : (b : Bool) → byte ∷ text ≡ byte ∷ (first_lines (if b then n else suc n) text ++ rest)
        → ((m : ℕ) → text ≡ first_lines m text ++ rest → first_lines (suc m) text ≡ first_lines m text ++ first_lines 1 rest)
        → byte ∷ first_lines (if b then suc n else suc (suc n)) text ≡ byte ∷ (first_lines (if b then n else suc n) text ++ first_lines 1 rest)
    by true is later = ap (λ bytes. byte ∷ bytes) (later n (let e : text ≡ first_lines n text ++ rest = cc in e))
    by false is later = ap (λ bytes. byte ∷ bytes) (later (suc n) (let e : text ≡ first_lines (suc n) text ++ rest = cc in e))

-- a newline stands among bytes
pub not-HasNoNewline : (front more : List ℕ) → HasNoNewline (front ++ 10 ∷ more) → ⊥
not-HasNoNewline [] more none = none.0 refl
not-HasNoNewline (byte ∷ front) more none = not-HasNoNewline front more none.1
