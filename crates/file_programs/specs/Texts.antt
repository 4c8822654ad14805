-- What the programs print of their release.
use Rattle.std.specs.Prelude.{ℕ, List, ◌++◌, codes}
use Rattle.std.specs.List.{flat_map}
use Rattle.hex.specs.Hex.{encode_lower}
use Rattle.sha2.specs.Sha256.{sha256}
use Rattle.file_programs.specs.declared.judged.Judged.{Judged}
use Rattle.file_programs.specs.declared.version.TheConstants.{KIT, RULES, VERSION}

-- after a program's name
abbrev pub version_lines : List ℕ
version_lines = VERSION.now ++ codes "\nrules: " ++ RULES.now ++ codes "\nproved with: " ++ KIT.now

-- the line of the release, after an empty one
abbrev pub release_line : List ℕ
release_line =
    codes "\nversion " ++ VERSION.now ++ codes ", rules " ++ RULES.now ++ codes ", proved with " ++ KIT.now ++ codes "\n"

-- the line of a text
abbrev pub digest_line : Judged → List ℕ
digest_line text =
    codes "SHA-256 of the " ++ (text.name.now ++ (codes ": " ++ (encode_lower (sha256 text.bytes.now) ++ codes "\n")))

-- the end of a report
abbrev pub judged_lines : List Judged → List ℕ
judged_lines texts = release_line ++ flat_map digest_line texts
