-- A text has one bad line at most, where no text of the grammar has any.
use Rattle.verdict_laws.proofs.Common.{◌≡◌, ℕ, zero, suc, ◌-◌, ◌<◌, ◌≤◌, Bool, true, false, List, [], ◌∷◌, if◌then◌else◌, ◌==◌, refl, sym, ap, subst, arith, cases_order}
use Rattle.std.proofs.Common.{⊎_elim}
use Rattle.rmm_spec.specs.Text.{first_lines, IsBadLine}

-- one byte more, whether or not it ends a line
first_lines-byte : (ends : Bool) (m k : ℕ) (text : List ℕ) → m ≤ k
    → ((i j : ℕ) → i ≤ j → first_lines i (first_lines j text) ≡ first_lines i text)
    → first_lines (if ends then m else suc m) (first_lines (if ends then k else suc k) text) ≡ first_lines (if ends then m else suc m) text
first_lines-byte true m k text below each = each m k below
first_lines-byte false m k text below each = each (suc m) (suc k) (omega (arith, below))

-- the first lines of more first lines
first_lines-first_lines : (m k : ℕ) (text : List ℕ) → m ≤ k → first_lines m (first_lines k text) ≡ first_lines m text
first_lines-first_lines zero k text below = refl
first_lines-first_lines (suc m) zero text below = absurd (omega (arith, below))
first_lines-first_lines (suc m) (suc k) [] below = refl
first_lines-first_lines (suc m) (suc k) (byte ∷ text) below =
    ap (λ bytes. byte ∷ bytes) (first_lines-byte (byte == 10) m k text (omega (arith, below)) (λ i j. first_lines-first_lines i j text))

-- a bad line is one of the first lines that it is among
IsBadLine-first_lines : (Grammar : List ℕ → Type 0) (text : List ℕ) (n k : ℕ)
    → n ≤ k → IsBadLine Grammar text n → IsBadLine Grammar (first_lines k text) n
IsBadLine-first_lines Grammar text n k among bad = record {
  counted = bad.counted;
  before = λ more. subst Grammar (sym (first_lines-first_lines (n - 1) k text (omega (arith, among)))) (bad.before more);
  here = λ given. bad.here (subst Grammar (first_lines-first_lines n k text among) given);
}

-- so that no bad line is below another, since the lines before that one are in the grammar
not-IsBadLine-below : (Grammar : List ℕ → Type 0) → ((text : List ℕ) (n : ℕ) → Grammar text → IsBadLine Grammar text n → ⊥)
    → (text : List ℕ) (m n : ℕ) → IsBadLine Grammar text m → IsBadLine Grammar text n → m < n → ⊥
not-IsBadLine-below Grammar none text m n first later below =
    none (first_lines (n - 1) text) m (later.before (omega (arith, first.counted, below)))
    (IsBadLine-first_lines Grammar text m (n - 1) (omega (arith, below)) first)

-- two bad lines of a text are one
pub one_bad_line : (Grammar : List ℕ → Type 0) → ((text : List ℕ) (n : ℕ) → Grammar text → IsBadLine Grammar text n → ⊥)
    → (text : List ℕ) (m n : ℕ) → IsBadLine Grammar text m → IsBadLine Grammar text n → m ≡ n
one_bad_line Grammar none text m n one other =
    ⊎_elim (λ (same : m ≡ n). same)
    (⊎_elim
    (λ (below : m < n). absurd (not-IsBadLine-below Grammar none text m n one other below))
    (λ (above : n < m). absurd (not-IsBadLine-below Grammar none text n m other one above)))
    (cases_order m n)
