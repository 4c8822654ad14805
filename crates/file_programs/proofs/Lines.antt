-- The lines of texts, one after another.
use Rattle.std.proofs.Common.{◌≡◌, ◌∙◌, ◌<◌, ◌+◌, ◌++◌, ℕ, List, [], ◌∷◌, ap, sym, length, get_or, take, drop-cons}
use Rattle.std.specs.List.{flat_map}
use Rattle.std.proofs.lemmas.List.{append-nil, append_assoc}
use Rattle.std.proofs.lemmas.List.Concat.{flat_map-append}
use Rattle.std.proofs.Math.Seq.{take-add}
use Rattle.file_programs.specs.Texts.{digest_line}
use Rattle.file_programs.specs.declared.judged.Judged.{Judged}

-- one text more is one line more at the end
pub digest_lines-next : (front : List ℕ) (texts : List Judged) (i : ℕ) (d : Judged) → i < length texts
    → front ++ flat_map digest_line (take (i + 1) texts) ≡ front ++ flat_map digest_line (take i texts) ++ digest_line (get_or texts i d)
digest_lines-next front texts i d within =
    let before = flat_map digest_line (take i texts) in
    ap (λ taken. front ++ flat_map digest_line taken) (take-add i 1 texts ∙ ap (λ r. take i texts ++ take 1 r) (drop-cons texts i d within))
    ∙ ap (λ lines. front ++ lines) (flat_map-append digest_line (take i texts) (get_or texts i d ∷ []))
    ∙ ap (λ last. front ++ (before ++ last)) (append-nil (digest_line (get_or texts i d)))
    ∙ sym (append_assoc front before (digest_line (get_or texts i d)))
