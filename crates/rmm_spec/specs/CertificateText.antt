-- Certificates, and the texts that stand for them.
use Rattle.std.specs.Prelude.{◌≡◌, ℕ, ◌<◌, ◌≤◌, List, [], ◌∷◌, map, length, codes}
use Rattle.std.specs.List.{AllByRecursion}
use Rattle.rmm_spec.specs.declared.line.Line.{Line}
use Rattle.rmm_spec.specs.declared.line.Line.TheVariants.{Keep, Unfinished}
use Rattle.rmm_spec.specs.Text.{decimal, lines_text}
use Rattle.rmm_spec.specs.CommandText.{IsReply, reply_parts}

abbrev pub IsLine : Line → Type 0
IsLine (Keep cpu number) = (cpu < 8) × (number < 1000000)
IsLine (Unfinished cpu number reply) = (cpu < 8) × (number < 1000000) × IsReply reply

unfoldable pub line_parts : Line → List (List ℕ)
line_parts (Keep cpu number) = codes "k" ∷ decimal cpu ∷ decimal number ∷ []
line_parts (Unfinished cpu number reply) = codes "u" ∷ decimal cpu ∷ decimal number ∷ reply_parts reply

pub record IsCertificate (lines : List Line) : Type 0 where
  pub each : AllByRecursion IsLine lines
  pub count : length lines ≤ 1000000

abbrev pub certificate_text : List Line → List ℕ
certificate_text lines = lines_text (map line_parts lines)

-- the text stands for the lines
pub record IsCertificateText (text : List ℕ) (lines : List Line) : Type 0 where
  pub is_certificate : IsCertificate lines
  pub is_text : text ≡ certificate_text lines

-- the grammar of certificates
abbrev pub InCertificates : List ℕ → Type 0
InCertificates text = (lines : List Line) × IsCertificateText text lines
