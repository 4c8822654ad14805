-- The grammar of certificates, line by line: a text stands for one certificate at most, and then has no bad line.
use Rattle.std.proofs.Common.{◌≡◌, ℕ, zero, suc, List, [], ◌∷◌, map, take, refl, sym, ap, ◌∙◌, subst, arith, length-take}
use Rattle.std.proofs.lemmas.List.{take-map}
use Rattle.std.specs.List.{AllByRecursion}
use Rattle.spec_lemmas.proofs.Lines.{AreOneLineEach, AreOneLineEach-map, IsLineGrammar, not-IsBadLine, same_lines}
use Rattle.spec_lemmas.proofs.Texts.{line_parts-some, line_parts-are_parts, line_parts-injective}
use Rattle.rmm_spec.specs.CertificateText.{IsLine, IsCertificate, IsCertificateText, InCertificates, certificate_text, line_parts}
use Rattle.rmm_spec.specs.Text.{IsBadLine, lines_text}
use Rattle.rmm_spec.specs.declared.line.Line.{Line}

-- the lists of parts that spell a certificate
pub record IsSpelled (spelled : List (List (List ℕ))) : Type 0 where
  pub lines : List Line
  pub is_certificate : IsCertificate lines
  pub is_spelled : spelled ≡ map line_parts lines

-- the lines of a certificate are one line each
pub line_parts-one_line : (lines : List Line) → AreOneLineEach (map line_parts lines)
line_parts-one_line = AreOneLineEach-map line_parts line_parts-some line_parts-are_parts

pub certificates_by_lines : IsLineGrammar InCertificates IsSpelled
certificates_by_lines = record {
  lines = λ text given. (
    map line_parts given.0,
    (record { lines = given.0; is_certificate = given.1.is_certificate; is_spelled = refl }, given.1.is_text),
  );
  each = λ spelled given. subst AreOneLineEach (sym given.is_spelled) (line_parts-one_line given.lines);
}

-- a certificate's text is in the grammar
pub InCertificates-from_lines : (lines : List Line) → IsCertificate lines → InCertificates (certificate_text lines)
InCertificates-from_lines lines is_certificate = (lines, record { is_certificate = is_certificate; is_text = refl })

-- different lines have different parts, line by line
map-line_parts-injective : (xs ys : List Line) → map line_parts xs ≡ map line_parts ys → xs ≡ ys
map-line_parts-injective [] [] same = refl
map-line_parts-injective [] (y ∷ ys) same = absurd cc
map-line_parts-injective (x ∷ xs) [] same = absurd cc
map-line_parts-injective (x ∷ xs) (y ∷ ys) same =
    let heads : x ≡ y = line_parts-injective x y (let e : line_parts x ≡ line_parts y = cc in e) in
    let tails : xs ≡ ys = map-line_parts-injective xs ys (let e : map line_parts xs ≡ map line_parts ys = cc in e) in
    cc

-- a text stands for one certificate
pub same_certificate : (text : List ℕ) (xs ys : List Line) → IsCertificateText text xs → IsCertificateText text ys → xs ≡ ys
same_certificate text xs ys of_xs of_ys =
    map-line_parts-injective xs ys
    (same_lines (map line_parts xs) (map line_parts ys) (line_parts-one_line xs) (line_parts-one_line ys) (sym of_xs.is_text ∙ of_ys.is_text))

-- what holds of each element holds of each of the first ones
each-take : (n : ℕ) (lines : List Line) → AllByRecursion IsLine lines → AllByRecursion IsLine (take n lines)
each-take zero lines each = tt
each-take (suc n) [] each = tt
each-take (suc n) (line ∷ lines) each = (each.0, each-take n lines each.1)

-- the first lines of a certificate are a certificate
pub IsCertificate-take : (n : ℕ) (lines : List Line) → IsCertificate lines → IsCertificate (take n lines)
IsCertificate-take n lines is = record {
  each = each-take n lines is.each;
  count = omega (arith, is.count, length-take n lines);
}

-- a certificate's text has no bad line
pub not-IsBadLine-certificate : (text : List ℕ) (n : ℕ) → InCertificates text → IsBadLine InCertificates text n → ⊥
not-IsBadLine-certificate =
    not-IsBadLine certificates_by_lines
    (λ spelled given.
    subst (λ s. InCertificates (lines_text s)) (sym given.is_spelled) (InCertificates-from_lines given.lines given.is_certificate))
    (λ n spelled counted given. record {
      lines = take n given.lines;
      is_certificate = IsCertificate-take n given.lines given.is_certificate;
      is_spelled = ap (take n) given.is_spelled ∙ take-map line_parts n given.lines;
    })
