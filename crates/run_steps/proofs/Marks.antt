-- The steps of a granule, with one line more.
use Rattle.std.proofs.Common.{◌≡◌, ℕ, ◌+◌, List, [], ◌∷◌, ◌++◌, length, sym, ap, ◌∙◌, append_assoc, append-nil, arith}
use Rattle.run_steps.specs.Replayed.{Told}
use Rattle.run_steps.specs.Touched.{Mark, mark_at, marks_from}

pub marks_from-push : (granule step : ℕ) (told : List Told) (here : Told)
    → marks_from granule step (told ++ here ∷ []) ≡ marks_from granule step told ++ mark_at granule (step + length told) here
marks_from-push granule step [] here =
    let same : step ≡ step + 0 = omega arith in
    append-nil (mark_at granule step here) ∙ ap (λ (n : ℕ). mark_at granule n here) same
marks_from-push granule step (one ∷ told) here =
    let same : (step + 1) + length told ≡ step + length (one ∷ told) = omega arith in
    ap (λ (ms : List Mark). mark_at granule step one ++ ms) (marks_from-push granule (step + 1) told here
    ∙ ap (λ (n : ℕ). marks_from granule (step + 1) told ++ mark_at granule n here) same)
    ∙ sym (append_assoc (mark_at granule step one) (marks_from granule (step + 1) told) (mark_at granule (step + length (one ∷ told)) here))
