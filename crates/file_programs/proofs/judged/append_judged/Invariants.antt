-- The release, and a line for each text so far.
use Rattle.std.proofs.Common.{◌≡◌, ◌++◌, string_bytes, take}
use Rattle.std.specs.List.{flat_map}
use Rattle.file_programs.specs.Texts.{digest_line, release_line}
use Rattle.file_programs.proofs.judged.append_judged.Given as goal

abbrev pub invariant-loop-text : goal.invariant-loop-text
invariant-loop-text l = string_bytes l.lines ≡ release_line ++ flat_map digest_line (take l.text-index l.texts)
