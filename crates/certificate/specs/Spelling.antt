-- The parts of a line of a certificate.
use Rattle.std.specs.Prelude.{◌≡◌, ℕ, List}
use Rattle.rmm_spec.specs.CertificateText.{IsLine, line_parts}
use Rattle.rmm_spec.specs.declared.line.Line.{Line}

-- the parts are those of the line, which may stand in a certificate
pub record IsLineOf (parts : List (List ℕ)) (line : Line) : Type 0 where
  pub is_line : IsLine line
  pub spelled : parts ≡ line_parts line

-- no line of a certificate has these parts
abbrev pub IsNoLine : List (List ℕ) → Type 0
IsNoLine parts = (line : Line) → IsLineOf parts line → ⊥
