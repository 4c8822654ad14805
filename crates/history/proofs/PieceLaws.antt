-- What the first bytes of a text say of its bad line, before the header and behind it.
use Rattle.std.proofs.Common.{◌≡◌, ℕ, ◌+◌, ◌-◌, ◌<◌, ◌≤◌, List, [], ◌∷◌, ◌++◌, length, take, Option, Some, None, sym, ap, ◌∙◌, subst, arith, append_assoc, length-append}
use Rattle.std.proofs.Math.Seq.{take-append-add, take-append_seam}
use Rattle.rmi_codec.proofs.Pieces.{newlines-lines}
use Rattle.rmi_codec.specs.Newlines.{newlines}
use Rattle.rmm_spec.specs.HistoryText.{InHistories}
use Rattle.rmm_spec.specs.Text.{HasNoNewline, IsBadLine}
use Rattle.history.specs.Faults.{EndsWithEvent, EventEndsIn}
use Rattle.history.specs.Pieces.{lines_read, next_number, IsReadWell}
use Rattle.history.specs.View.{Recording}
use Rattle.history.proofs.GrammarLaws.{header_too_long, line_too_long, bad_behind}

-- what stands behind the whole lines is longer than a line, whatever follows
pub too_long : (read : Option Recording) (rest more : List ℕ) → IsReadWell read → HasNoNewline rest → 256 < length rest
    → IsBadLine InHistories (lines_read read ++ (rest ++ more)) (next_number read)
too_long None rest more is_well none long = header_too_long rest more none long
too_long (Some recording) rest more is_well none long = line_too_long recording.recorded rest more is_well none long

-- no whole line is bad
pub well_begun : (read : Option Recording) (rest : List ℕ) (line : ℕ) → IsReadWell read → HasNoNewline rest
    → IsBadLine InHistories (lines_read read ++ rest) line → newlines (lines_read read ++ rest) < line
well_begun None rest line is_well none bad = omega (arith, newlines-lines [] rest tt none, bad.counted)
well_begun (Some recording) rest line is_well none bad = bad_behind recording.recorded rest line is_well none bad

-- the line that was begun has its last bytes, and more follows
pub regroup : (lines begun last more : List ℕ) → lines ++ (begun ++ last ++ more) ≡ lines ++ begun ++ (last ++ more)
regroup lines begun last more =
    ap (λ r. lines ++ r) (append_assoc begun last more) ∙ sym (append_assoc lines begun (last ++ more))

-- what holds of the bytes so far with all that may follow holds of a whole piece
pub of_piece : (P : List ℕ → Type 0) (old piece now rest : List ℕ) → old ++ piece ≡ now ++ rest → ((more : List ℕ) → P (now ++ (rest ++ more)))
    → (more : List ℕ) → P (old ++ (piece ++ more))
of_piece P old piece now rest same each more =
    subst P (sym (sym (append_assoc old piece more) ∙ ap (λ t. t ++ more) same ∙ append_assoc now rest more)) (each more)

-- so too where it holds of the piece's next line
pub of_line : (P : List ℕ → Type 0) (old piece now rest last later : List ℕ) → old ++ piece ≡ now ++ rest → rest ≡ last ++ 10 ∷ later
    → ((more : List ℕ) → P (now ++ (last ++ 10 ∷ more))) → (more : List ℕ) → P (old ++ (piece ++ more))
of_line P old piece now rest last later same is_rest each =
    of_piece P old piece now rest same
    (λ more. subst P (sym (ap (λ r. now ++ (r ++ more)) is_rest ∙ ap (λ r. now ++ r) (append_assoc last (10 ∷ later) more))) (each (later ++ more)))

-- and the event of that line ends in the piece
pub EventEndsIn-line : (old piece now rest last later : List ℕ) → old ++ piece ≡ now ++ rest → rest ≡ last ++ 10 ∷ later → length old ≤ length now
    → EndsWithEvent (now ++ (last ++ 10 ∷ [])) → EventEndsIn old piece
EventEndsIn-line old piece now rest last later same is_rest longer ended =
    let read = now ++ (last ++ 10 ∷ []) in
    let count = length read - length old in
    let lengths : length read ≡ length now + (length last + 1) =
    length-append now (last ++ 10 ∷ []) ∙ ap (λ n. length now + n) (length-append last (10 ∷ [])) in
    let whole : old ++ piece ≡ read ++ later =
    same ∙ ap (λ r. now ++ r) (is_rest ∙ sym (append_assoc last (10 ∷ []) later)) ∙ sym (append_assoc now (last ++ 10 ∷ []) later) in
    let counted : length old + count ≡ length read = omega (arith, longer, lengths) in
    let front : old ++ take count piece ≡ read =
    sym (take-append-add old piece count) ∙ ap (λ n. take n (old ++ piece)) counted ∙ ap (take (length read)) whole ∙ take-append_seam read later in
    record {
      count = count;
      some = omega (arith, longer, lengths);
      within = omega (arith, counted, ap length whole, length-append old piece, length-append read later);
      ends = subst EndsWithEvent (sym front) ended;
    }

-- a line that was begun and is too long with more of its bytes
pub too_long_held : (read : Option Recording) (begun last more : List ℕ)
    → IsReadWell read → HasNoNewline (begun ++ last) → 256 < length (begun ++ last)
    → IsBadLine InHistories (lines_read read ++ begun ++ (last ++ more)) (next_number read)
too_long_held read begun last more is_well none long =
    subst (λ text. IsBadLine InHistories text (next_number read)) (regroup (lines_read read) begun last more)
    (too_long read (begun ++ last) more is_well none long)

pub of_held_line : (P : List ℕ → Type 0) (front begun last line : List ℕ)
    → line ≡ begun ++ last → ((more : List ℕ) → P (front ++ (line ++ 10 ∷ more)))
    → (more : List ℕ) → P (front ++ begun ++ (last ++ 10 ∷ more))
of_held_line P front begun last line is_line each more =
    subst P (ap (λ l. front ++ (l ++ 10 ∷ more)) is_line ∙ regroup front begun last (10 ∷ more)) (each more)
