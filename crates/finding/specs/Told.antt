-- What is printed of what was found, and the status with it.
use Rattle.std.specs.Prelude.{ℕ, ◌+◌, List, [], ◌∷◌, ◌++◌, Some, None, codes}
use Rattle.rmm_spec.specs.CertificateText.{certificate_text}
use Rattle.rmm_spec.specs.Text.{decimal}
use Rattle.finding.specs.declared.finding.Found.{Found}
use Rattle.finding.specs.declared.finding.Found.TheVariants as found

-- a place of the history is a line of its text, behind the header
abbrev pub found_text : Found → List ℕ
found_text (found.Order certificate) = certificate_text certificate.lines
found_text (found.None None) = codes "none\n"
found_text (found.None (Some place)) = codes "none\nno order survives line " ++ (decimal (place + 2) ++ 10 ∷ [])
found_text (found.GaveUp offers) = codes "gave up\n"

abbrev pub found_status : Found → ℕ
found_status (found.Order certificate) = 0
found_status (found.None place) = 1
found_status (found.GaveUp offers) = 4
