-- What pieces say of a text.
use Rattle.std.proofs.Common.{◌≡◌, ℕ, ◌+◌, ◌^◌, ◌<◌, ◌≤◌, List, [], ◌∷◌, ◌++◌, length, Option, Some, None, sym, ap, ◌∙◌, subst, arith, lit≤, append_assoc}
use Rattle.rmi_codec.proofs.LineLengths.{width, length-line_text, width-called, width-returned, width-config, length-decimal}
use Rattle.rmi_codec.proofs.Pieces.{IsBadLine-too_long}
use Rattle.rmm_spec.specs.declared.version.Version.TheVariants.{Large}
use Rattle.rmm_spec.specs.HistoryText.{Config, event_parts}
use Rattle.rmm_spec.specs.Text.{HasNoNewline, IsBadLine, line_text}
use Rattle.merging.specs.Events.{Moment, Call, Commit, Return, Recorded, Recording, IsMoment, IsRecorded, InRecordings, IsRecordingText, moment_parts, recorded_parts, sizes_parts}
use Rattle.merging.specs.Faults.{IsFaultOf}
use Rattle.merging.specs.Pieces.{AreRead, HasRead, number_after}
use Rattle.merging.specs.Table.{Table}
use Rattle.merging.specs.declared.event_fault.EventsFault.TheVariants.{BadLine}
use Rattle.merging.specs.declared.reader.Reader.{Reader}
use Rattle.merging.proofs.GrammarLaws.{recordings_by_lines, recording_lines, recording_lines-one_line, InRecordings-from_lines, next_event, counted, unfinished_header}
use Rattle.merging.proofs.TableLaws.{unfinished}

-- ---- how long a line is

width-moment : (moment : Moment) → IsMoment moment → width (moment_parts moment) ≤ 200
unfolding moment_parts event_parts
width-moment (Call command) is = omega (arith, width-called 0 0 command (omega arith) (omega arith) is)
width-moment (Commit given) is = omega (arith, width-returned 0 0 given (omega arith) (omega arith) is)
width-moment (Return given) is = omega (arith, width-returned 0 0 given (omega arith) (omega arith) is)

width-recorded : (event : Recorded) → IsRecorded event → width (recorded_parts event) ≤ 210
width-recorded event is =
    let stamp : event.stamp < 10 ^ 7 = omega (arith, is.stamp) in
    let cpu : event.cpu < 10 ^ 1 = omega (arith, is.cpu) in
    omega (arith, length-decimal 7 event.stamp (lit≤ tt) stamp, length-decimal 1 event.cpu (lit≤ tt) cpu, width-moment event.moment is.moment)

-- ---- lines that are too long

too_long_header : (rest more : List ℕ) → HasNoNewline rest → 256 < length rest → IsBadLine InRecordings (rest ++ more) 1
too_long_header rest more none long =
    IsBadLine-too_long recordings_by_lines [] rest more tt none (omega (arith, long)) (λ some. absurd (omega (arith, some)))
    (λ line taken.
    let recording = taken.recording in
    let spelled : line ≡ sizes_parts recording.granules recording.cpus =
    (let e : line ∷ [] ≡ recording_lines recording = taken.spelled in cc) in
    let config : Config = record { granules = recording.granules; cpus = recording.cpus; version = Large } in
    let header : width (sizes_parts recording.granules recording.cpus) ≤ 15 = width-config config taken.is_recording.config in
    omega (arith, long, ap (λ l. length (line_text l)) spelled, length-line_text (sizes_parts recording.granules recording.cpus), header))

too_long_line : (recording : Recording) (text rest more : List ℕ) → IsRecordingText text recording → HasNoNewline rest → 256 < length rest
    → IsBadLine InRecordings (text ++ (rest ++ more)) (length recording.events + 2)
too_long_line recording text rest more is_text none long =
    counted recording (text ++ (rest ++ more))
    (subst (λ t. IsBadLine InRecordings (t ++ (rest ++ more)) (length (recording_lines recording) + 1)) (sym is_text.is_text)
    (IsBadLine-too_long recordings_by_lines (recording_lines recording) rest more (recording_lines-one_line recording) none (omega (arith, long))
    (λ _. InRecordings-from_lines recording is_text.is_recording)
    (λ line taken.
    let next = next_event recording line taken in
    let event = next.0.0 in
    omega (
      arith,
      long,
      ap (λ l. length (line_text l)) next.0.1.spelled,
      length-line_text (recorded_parts event),
      width-recorded event next.0.1.is_recorded,
    ))))

-- ---- what was read

-- the line behind those that were read is too long
pub too_long : (table : Option Table) (lines rest more : List ℕ) → AreRead table lines → HasNoNewline rest → 256 < length rest
    → IsFaultOf (lines ++ (rest ++ more)) (BadLine (number_after table))
too_long None lines rest more are none long =
    subst (λ ls. IsBadLine InRecordings (ls ++ (rest ++ more)) 1) (sym are) (too_long_header rest more none long)
too_long (Some table) lines rest more are none long =
    subst (IsBadLine InRecordings (lines ++ (rest ++ more))) (ap (λ n. n + 2) (sym are.counted))
    (too_long_line (record { granules = table.granules; cpus = table.cpus; events = are.events }) lines rest more are.is_recording none long)

-- the text ends within the line behind those that were read
pub cut_off : (table : Option Table) (lines rest : List ℕ) → AreRead table lines → HasNoNewline rest → (rest ≡ [] → ⊥)
    → IsFaultOf (lines ++ rest) (BadLine (number_after table))
cut_off None lines rest are none some = subst (λ ls. IsBadLine InRecordings (ls ++ rest) 1) (sym are) (unfinished_header rest none)
cut_off (Some table) lines rest are none some = unfinished lines table are rest none some

-- there is no header
pub no_header : (lines : List ℕ) → AreRead None lines → IsFaultOf lines (BadLine 1)
no_header lines are = subst (λ ls. IsBadLine InRecordings ls 1) (sym are) (unfinished_header [] tt)

-- the line of a reader goes on by some bytes
pub HasRead-more : (reader : Reader) (text last more : List ℕ) (read : HasRead reader text)
    → read.lines ++ ((reader.line ++ last) ++ more) ≡ text ++ (last ++ more)
HasRead-more reader text last more read =
    ap (λ t. read.lines ++ t) (append_assoc reader.line last more) ∙ sym (append_assoc read.lines reader.line (last ++ more))
    ∙ ap (λ t. t ++ (last ++ more)) (sym read.is_text)

-- and is too long then
pub HasRead-too_long : (reader : Reader) (text last more : List ℕ) → HasRead reader text → HasNoNewline (reader.line ++ last)
    → 256 < length (reader.line ++ last) → IsBadLine InRecordings (text ++ (last ++ more)) (number_after reader.table)
HasRead-too_long reader text last more read none long =
    subst (λ t. IsBadLine InRecordings t (number_after reader.table)) (HasRead-more reader text last more read)
    (too_long reader.table read.lines (reader.line ++ last) more read.are_read none long)
