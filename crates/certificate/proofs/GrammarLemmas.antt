-- How a reader of a certificate, with its lines so far, comes to the certificate of a text or to its bad line.
use Rattle.std.proofs.Common.{◌≡◌, ◌≢◌, ℕ, ◌+◌, ◌<◌, List, [], ◌∷◌, ◌++◌, map, length, Result, Err, sym, ap, ◌∙◌, subst, arith, append_assoc, length-append}
use Rattle.std.specs.Prelude.{IfErr}
use Rattle.std.proofs.lemmas.List.{append-nil, length-map, map_push}
use Rattle.std.proofs.lemmas.List.Splits.{join_with_byte-slice_split}
use Rattle.certificate.specs.Faults.{IsFaultOf}
use Rattle.certificate.specs.declared.fault.CertFault.{CertFault}
use Rattle.certificate.specs.declared.fault.CertFault.TheVariants.{BadLine, NoMemory}
use Rattle.certificate.specs.Spelling.{IsLineOf, IsNoLine}
use Rattle.spec_lemmas.proofs.CertificateLines.{certificates_by_lines, line_parts-one_line, InCertificates-from_lines, not-IsBadLine-certificate}
use Rattle.spec_lemmas.proofs.Lines.{IsBadLine-line, IsBadLine-unfinished, IsBadLine-full, map_last, lines_text-push}
use Rattle.rmm_spec.specs.Text.{HasNoNewline, IsBadLine, line_text, lines_text, parts_of}
use Rattle.spec_lemmas.proofs.Texts.{AllByRecursion-append}
use Rattle.rmm_spec.specs.CertificateText.{IsLine, IsCertificate, IsCertificateText, InCertificates, certificate_text, line_parts}
use Rattle.rmm_spec.specs.declared.line.Line.{Line}

-- the number of the next line, counted from 1
counted : (lines : List Line) (text : List ℕ)
    → IsBadLine InCertificates text (length (map line_parts lines) + 1) → IsBadLine InCertificates text (length lines + 1)
counted lines text bad = subst (λ n. IsBadLine InCertificates text (n + 1)) (length-map lines line_parts) bad

-- the next line is whole, and no line of a certificate
pub bad_line : (lines : List Line) (text bytes rest later : List ℕ)
    → IsCertificate lines → text ≡ certificate_text lines ++ rest → rest ≡ bytes ++ 10 ∷ later
    → HasNoNewline bytes → IsNoLine (parts_of bytes) → IsBadLine InCertificates text (length lines + 1)
bad_line lines text bytes rest later is_certificate is_text rest_is one_line no_line =
    counted lines text
    (IsBadLine-line certificates_by_lines (map line_parts lines) text bytes later
    (line_parts-one_line lines) (is_text ∙ ap (λ r. certificate_text lines ++ r) rest_is) one_line
    (λ _. InCertificates-from_lines lines is_certificate)
    (λ taken.
    let last = map_last line_parts IsLine (map line_parts lines) taken.lines (parts_of bytes) taken.is_certificate.each (sym taken.is_spelled) in
    no_line last.0 (record { is_line = last.1.0; spelled = sym last.1.1 })))

-- the text ends within a line
pub unfinished_line : (lines : List Line) (text rest : List ℕ)
    → IsCertificate lines → text ≡ certificate_text lines ++ rest → HasNoNewline rest → rest ≢ []
    → IsBadLine InCertificates text (length lines + 1)
unfinished_line lines text rest is_certificate is_text one_line some =
    counted lines text
    (IsBadLine-unfinished certificates_by_lines (map line_parts lines) text rest (line_parts-one_line lines) is_text one_line some
    (λ _. InCertificates-from_lines lines is_certificate))

-- a million lines are there, and the text goes on
pub line_too_many : (lines : List Line) (text rest : List ℕ)
    → IsCertificate lines → text ≡ certificate_text lines ++ rest → rest ≢ [] → length lines ≡ 1000000
    → IsBadLine InCertificates text (length lines + 1)
line_too_many lines text rest is_certificate is_text some full =
    counted lines text
    (IsBadLine-full certificates_by_lines (map line_parts lines) text rest (line_parts-one_line lines) is_text some
    (λ _. InCertificates-from_lines lines is_certificate)
    (λ line taken.
    let longer : length (map line_parts lines) + 1 ≡ length (map line_parts taken.lines) =
    sym (length-append (map line_parts lines) (line ∷ [])) ∙ ap length taken.is_spelled in
    let room = taken.is_certificate.count in
    absurd (omega (arith, length-map lines line_parts, length-map taken.lines line_parts))))

-- a certificate with room takes another line
pub IsCertificate-push : (lines : List Line) (next : Line)
    → IsCertificate lines → IsLine next → length lines < 1000000 → IsCertificate (lines ++ next ∷ [])
IsCertificate-push lines next is_certificate is_line room = record {
  each = AllByRecursion-append IsLine lines (next ∷ []) is_certificate.each (is_line, tt);
  count = omega (arith, length-append lines (next ∷ []));
}

-- the text of the lines with the next one, and what is left
pub certificate_text-push : (lines : List Line) (next : Line) (text bytes rest later : List ℕ)
    → text ≡ certificate_text lines ++ rest → rest ≡ bytes ++ 10 ∷ later
    → IsLineOf (parts_of bytes) next → text ≡ certificate_text (lines ++ next ∷ []) ++ later
certificate_text-push lines next text bytes rest later is_text rest_is of_line =
    let spelled : line_text (line_parts next) ≡ bytes = ap line_text (sym of_line.spelled) ∙ join_with_byte-slice_split 32 bytes in
    is_text ∙ ap (λ r. certificate_text lines ++ r) rest_is ∙ ap (λ b. certificate_text lines ++ (b ++ 10 ∷ later)) (sym spelled)
    ∙ ap (λ r. certificate_text lines ++ r) (sym (append_assoc (line_text (line_parts next)) (10 ∷ []) later))
    ∙ sym (append_assoc (certificate_text lines) (line_text (line_parts next) ++ 10 ∷ []) later)
    ∙ ap (λ t. t ++ later) (sym (ap lines_text (map_push line_parts lines next) ∙ lines_text-push (map line_parts lines) (line_parts next)))

-- memory can be refused for the writing of a certificate that has a line
pub BeginsWith-written : (lines : List Line) (text : List ℕ)
    → IsCertificateText text lines → 0 < length (certificate_text lines) → IsFaultOf text NoMemory
BeginsWith-written [] text is some = absurd (omega arith)
BeginsWith-written (line ∷ lines) text is some = (
  line ∷ lines,
  omega arith,
  record { more = []; is_certificate = is.is_certificate; is_text = is.is_text ∙ sym (append-nil (certificate_text (line ∷ lines))) },
)

-- what is written where nothing stood is the certificate's text
pub IsCertificateText-written : (lines : List Line) (front text whole : List ℕ) → IsCertificate lines → text ≡ whole
    → whole ≡ front ++ certificate_text lines → front ≡ [] → IsCertificateText text lines
IsCertificateText-written lines front text whole is_certificate is put nothing = record {
  is_certificate = is_certificate;
  is_text = is ∙ put ∙ ap (λ f. f ++ certificate_text lines) nothing;
}

-- a certificate whose text isn't empty has a line
pub some_line : (lines : List Line) → 0 < length (certificate_text lines) → 0 < length lines
some_line [] some = absurd (omega arith)
some_line (line ∷ lines) some = omega arith

-- a text that begins with a line isn't empty
pub some_text : (lines : List Line) (text more : List ℕ) → text ≡ certificate_text lines ++ more → 0 < length lines → 0 < length text
some_text [] text more is some = absurd (omega arith)
some_text (line ∷ lines) text more is some =
    omega (
      arith,
      ap length is,
      length-append (certificate_text (line ∷ lines)) more,
      length-append (line_text (line_parts line)) (10 ∷ certificate_text lines),
    )

-- a bad line that is reported of a text says that it is in no certificate's
pub bad_line_outside : {T : Type 0} (text : List ℕ) (result : Result T CertFault) (line : ℕ)
    → IfErr result (IsFaultOf text) → result ≡ Err (BadLine line)
    → InCertificates text → ⊥
bad_line_outside text result line fault is given =
    not-IsBadLine-certificate text line given (subst (λ r. IfErr r (IsFaultOf text)) is fault)
