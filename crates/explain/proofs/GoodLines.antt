-- A certificate's line of its kind, up to the limit and ended by a newline, is no bad line.
use Rattle.explain.proofs.Common.{◌++◌, ◌∙◌, ◌∷◌, ◌≡◌, ◌≤◌, Line, List, [], ap, arith, inl, inr, length, refl, subst, suc, sym, take, zero, ℕ}
use Rattle.std.proofs.Common.{◌-◌, map, lit≤}
use Rattle.std.specs.List.{take-map}
use Rattle.std.proofs.lemmas.List.{append-nil, append_cancel_left, length-append, length-map, length-take, map_push}
use Rattle.std.proofs.lemmas.List.Splits.{join_with_byte-slice_split}
use Rattle.reasons.specs.Wrong.{IsCertificateLine}
use Rattle.spec_lemmas.proofs.CertificateLines.{line_parts-one_line}
use Rattle.spec_lemmas.proofs.Lines.{first_lines-line, first_lines-take, lines_text-push, same_lines}
use Rattle.spec_lemmas.proofs.Texts.{AllByRecursion-append}
use Rattle.rmm_spec.specs.CertificateText.{InCertificates, IsLine, certificate_text, line_parts}
use Rattle.rmm_spec.specs.Text.{HasNoNewline, IsBadLine, first_lines, line_text, lines_text, parts_of}
use Rattle.reasons.specs.declared.flaw.Misplaced.TheVariants as misplaced
use Rattle.explain.proofs.TextLines.{first_lines-again, first_lines-next, not-HasNoNewline}
use Rattle.explain.specs.Explained.{IsLineIn, IsMisplaced}

-- so many first lines of a text have no more lines
length-first_lines : (n : ℕ) (lines : List Line) (text : List ℕ) → first_lines n text ≡ certificate_text lines → length lines ≤ n
length-first_lines n lines text is_text =
    let first : certificate_text (take n lines) ≡ certificate_text lines =
    ap lines_text (sym (take-map line_parts n lines)) ∙ sym (first_lines-take n (map line_parts lines) (line_parts-one_line lines))
    ∙ ap (first_lines n) (sym is_text) ∙ first_lines-again n text ∙ is_text in
    let same = ap length (same_lines (map line_parts (take n lines)) (map line_parts lines)
    (line_parts-one_line (take n lines)) (line_parts-one_line lines) first) in
    omega (arith, same, length-map (take n lines) line_parts, length-map lines line_parts, length-take n lines)

-- what stands before the line is in the grammar
before_line : (n : ℕ) (text : List ℕ) → IsBadLine InCertificates text (suc n) → InCertificates (first_lines n text)
before_line zero text bad = ([], record { is_certificate = record { each = tt; count = lit≤ tt }; is_text = refl })
before_line (suc n) text bad =
    subst (λ (k : ℕ). InCertificates (first_lines k text)) (let e : suc (suc n) - 1 ≡ suc n = omega arith in e) (bad.before (omega arith))

-- with it the first lines are in the grammar too
not-IsBadLine-good : (n : ℕ) (text bytes more : List ℕ) → suc n ≤ 1000000 → text ≡ first_lines n text ++ (bytes ++ 10 ∷ more) → HasNoNewline bytes
    → IsCertificateLine (parts_of bytes) → IsBadLine InCertificates text (suc n) → ⊥
not-IsBadLine-good n text bytes more within is_text none kind bad =
    let lines = (before_line n text bad).0 in
    let before = (before_line n text bad).1 in
    let counted = length-first_lines n lines text before.is_text in
    let with_line : first_lines (suc n) text ≡ certificate_text lines ++ (bytes ++ 10 ∷ []) =
    first_lines-next n text (bytes ++ 10 ∷ more) is_text ∙ ap (λ t. t ++ first_lines 1 (bytes ++ 10 ∷ more)) before.is_text
    ∙ ap (λ t. certificate_text lines ++ t) (first_lines-line 0 bytes more none) in
    let spelled : line_text (line_parts kind.0) ≡ bytes = ap line_text (sym kind.2) ∙ join_with_byte-slice_split 32 bytes in
    let whole : certificate_text (lines ++ kind.0 ∷ []) ≡ certificate_text lines ++ (bytes ++ 10 ∷ []) =
    ap lines_text (map_push line_parts lines kind.0) ∙ lines_text-push (map line_parts lines) (line_parts kind.0)
    ∙ ap (λ t. certificate_text lines ++ (t ++ 10 ∷ [])) spelled in
    bad.here (
      lines ++ kind.0 ∷ [],
      record {
        is_certificate = record {
          each = AllByRecursion-append IsLine lines (kind.0 ∷ []) before.is_certificate.each (kind.1, tt);
          count = omega (arith, counted, within, length-append lines (kind.0 ∷ []));
        };
        is_text = with_line ∙ sym whole;
      },
    )

-- so it is misplaced for want of room or of a newline
pub not_out_of_turn : (text bytes : List ℕ) (line : ℕ) → IsBadLine InCertificates text line → IsLineIn text line bytes
    → IsCertificateLine (parts_of bytes) → IsMisplaced misplaced.OutOfTurn text line → ⊥
not_out_of_turn text bytes line bad here kind turn =
    let next : line ≡ suc (line - 1) = omega (arith, bad.counted) in
    elim here.first.ends [
      | inl ends ↦
          let rest : here.rest ≡ bytes = here.first.is_text ∙ ap (λ t. bytes ++ t) ends ∙ append-nil bytes in
          let cut : here.rest ≡ turn.1 ++ 10 ∷ turn.2 =
          append_cancel_left (first_lines (line - 1) text) here.rest (turn.1 ++ 10 ∷ turn.2) (sym here.is_text ∙ turn.3) in
          not-HasNoNewline turn.1 turn.2 (subst HasNoNewline (sym rest ∙ cut) here.first.no_newline)
      | inr ends ↦
          not-IsBadLine-good (line - 1) text bytes ends.0 (subst (λ (k : ℕ). k ≤ 1000000) next turn.0)
          (here.is_text ∙ ap (λ t. first_lines (line - 1) text ++ t) (here.first.is_text ∙ ap (λ t. bytes ++ t) ends.1))
          here.first.no_newline kind (subst (IsBadLine InCertificates text) next bad)
    ]
