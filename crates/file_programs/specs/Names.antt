-- What a report calls the bytes of a history that it judges.
use Rattle.std.specs.Prelude.{ℕ, List, ◌++◌, codes, decimal, vec_len, if◌then◌else◌}
use Rattle.file_programs.specs.declared.history_text.HistoryRead.{HistoryRead}

abbrev pub judged_name : HistoryRead → List ℕ
judged_name read =
    if read.is_whole then codes "history" else codes "first " ++ (decimal (vec_len read.bytes) ++ codes " bytes of the history")
