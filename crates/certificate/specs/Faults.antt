-- What a fault says of the text.
use Rattle.std.specs.Prelude.{◌≡◌, ℕ, ◌<◌, List, ◌++◌, length}
use Rattle.certificate.specs.declared.fault.CertFault.{CertFault}
use Rattle.certificate.specs.declared.fault.CertFault.TheVariants.{BadLine, NoMemory}
use Rattle.rmm_spec.specs.CertificateText.{IsCertificate, InCertificates, certificate_text}
use Rattle.rmm_spec.specs.Text.{IsBadLine}
use Rattle.rmm_spec.specs.declared.line.Line.{Line}

-- the first lines of the text are a certificate of these
pub record BeginsWith (text : List ℕ) (lines : List Line) : Type 0 where
  pub more : List ℕ
  pub is_certificate : IsCertificate lines
  pub is_text : text ≡ certificate_text lines ++ more

-- a bad line is the first one, and memory was refused for a line that was read
abbrev pub IsFaultOf : List ℕ → CertFault → Type 0
IsFaultOf text (BadLine line) = IsBadLine InCertificates text line
IsFaultOf text NoMemory = (lines : List Line) × (0 < length lines) × BeginsWith text lines
