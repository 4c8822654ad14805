-- How a reader of a recording, with its lines so far, comes to its bad line.
use Rattle.std.proofs.Common.{◌≡◌, ◌≢◌, ℕ, ◌+◌, ◌<◌, List, [], ◌∷◌, ◌++◌, map, length, refl, sym, ap, ◌∙◌, subst, arith, lit<}
use Rattle.std.specs.List.{AllByRecursion}
use Rattle.std.proofs.lemmas.List.{length-map, map_push, length_push}
use Rattle.std.proofs.lemmas.List.Splits.{join_with_byte-slice_split}
use Rattle.spec_lemmas.proofs.Lines.{AreOneLineEach, IsLineGrammar, IsBadLine-line, IsBadLine-unfinished, IsBadLine-full, IsBadLine-end, append-cons-not_nil, IsOneLine-from_parts, AreOneLineEach-map, map_last, lines_text-push}
use Rattle.spec_lemmas.proofs.Records.{AllByRecursion-push}
use Rattle.spec_lemmas.proofs.Texts.{IsPart, IsPart-from_test, decimal-IsPart, command_parts-are_parts, reply_parts-are_parts}
use Rattle.rmm_spec.specs.Text.{IsBadLine, HasNoNewline, line_text, lines_text, parts_of}
use Rattle.merging.specs.Events.{Moment, Call, Commit, Return, Recorded, Recording, IsRecorded, IsRecording, IsRecordingText, InRecordings, moment_parts, recorded_parts, sizes_parts, recording_text}
use Rattle.merging.specs.SeenEvents.{IsLineOf, IsNoLine, IsSizesOf, IsNoSizes}

moment_parts-are_parts : (moment : Moment) → AllByRecursion IsPart (moment_parts moment)
unfolding moment_parts
moment_parts-are_parts (Call command) = (IsPart-from_test _ _ refl, command_parts-are_parts command)
moment_parts-are_parts (Commit given) = (IsPart-from_test _ _ refl, reply_parts-are_parts given)
moment_parts-are_parts (Return given) = (IsPart-from_test _ _ refl, reply_parts-are_parts given)

pub recorded_parts-are_parts : (event : Recorded) → AllByRecursion IsPart (recorded_parts event)
recorded_parts-are_parts event = (decimal-IsPart event.stamp, (decimal-IsPart event.cpu, moment_parts-are_parts event.moment))

recorded_parts-some : (event : Recorded) → 0 < length (recorded_parts event)
recorded_parts-some event = omega arith

sizes_parts-are_parts : (granules cpus : ℕ) → AllByRecursion IsPart (sizes_parts granules cpus)
sizes_parts-are_parts granules cpus = (IsPart-from_test _ _ refl, (decimal-IsPart granules, (decimal-IsPart cpus, tt)))

-- the lines of a recording, each as its parts
abbrev pub recording_lines : Recording → List (List (List ℕ))
recording_lines recording = sizes_parts recording.granules recording.cpus ∷ map recorded_parts recording.events

-- the lines are those of a recording
pub record AreRecordingLines (lines : List (List (List ℕ))) : Type 0 where
  pub recording : Recording
  pub is_recording : IsRecording recording
  pub spelled : lines ≡ recording_lines recording

pub recording_lines-one_line : (recording : Recording) → AreOneLineEach (recording_lines recording)
recording_lines-one_line recording = (
  IsOneLine-from_parts (sizes_parts recording.granules recording.cpus) (lit< tt) (sizes_parts-are_parts recording.granules recording.cpus),
  AreOneLineEach-map recorded_parts recorded_parts-some recorded_parts-are_parts recording.events,
)

pub recordings_by_lines : IsLineGrammar InRecordings AreRecordingLines
recordings_by_lines = record {
  lines = λ text given.
      (recording_lines given.0, (record { recording = given.0; is_recording = given.1.is_recording; spelled = refl }, given.1.is_text));
  each = λ lines taken. subst AreOneLineEach (sym taken.spelled) (recording_lines-one_line taken.recording);
}

pub InRecordings-from_lines : (recording : Recording) → IsRecording recording → InRecordings (recording_text recording)
InRecordings-from_lines recording is_recording = (recording, record { is_recording = is_recording; is_text = refl })

-- ---- the header

-- the first line isn't whole
pub unfinished_header : (text : List ℕ) → HasNoNewline text → IsBadLine InRecordings text 1
unfinished_header [] none =
    IsBadLine-end recordings_by_lines [] [] tt refl (λ none_before. absurd (omega (arith, none_before)))
    (λ taken. let spelled : [] ≡ recording_lines taken.recording = taken.spelled in cc)
unfinished_header (byte ∷ text) none =
    IsBadLine-unfinished recordings_by_lines [] (byte ∷ text) (byte ∷ text) tt refl none
    (λ ended. cc) (λ none_before. absurd (omega (arith, none_before)))

-- the first line is whole, and no header
pub bad_header : (text front more : List ℕ)
    → text ≡ front ++ 10 ∷ more → HasNoNewline front → IsNoSizes (parts_of front) → IsBadLine InRecordings text 1
bad_header text front more is_text none no_sizes =
    IsBadLine-line recordings_by_lines [] text front more tt is_text none (λ none_before. absurd (omega (arith, none_before)))
    (λ taken.
    let recording = taken.recording in
    let same : parts_of front ∷ [] ≡ sizes_parts recording.granules recording.cpus ∷ map recorded_parts recording.events = taken.spelled in
    let spelled : parts_of front ≡ sizes_parts recording.granules recording.cpus = cc in
    no_sizes recording.granules recording.cpus (record { config = taken.is_recording.config; spelled = spelled }))

-- a header without events
pub begun : (granules cpus : ℕ) (front : List ℕ) → IsSizesOf (parts_of front) granules cpus
    → IsRecordingText (front ++ 10 ∷ []) (record { granules = granules; cpus = cpus; events = [] })
begun granules cpus front of_sizes = record {
  is_recording = record { config = of_sizes.config; each = tt; count = omega arith };
  is_text = ap (λ b. b ++ 10 ∷ []) (sym (join_with_byte-slice_split 32 front) ∙ ap line_text of_sizes.spelled);
}

-- ---- the events

-- one more event
pub pushed : (granules cpus : ℕ) (events : List Recorded) (event : Recorded) (text front : List ℕ)
    → IsRecordingText text (record { granules = granules; cpus = cpus; events = events }) → IsLineOf (parts_of front) event → length events < 2000000
    → IsRecordingText (text ++ (front ++ 10 ∷ [])) (record { granules = granules; cpus = cpus; events = events ++ event ∷ [] })
pushed granules cpus events event text front is_text of_line room = record {
  is_recording = record {
    config = is_text.is_recording.config;
    each = AllByRecursion-push IsRecorded events event is_text.is_recording.each of_line.is_recorded;
    count = omega (arith, room, length_push events event);
  };
  is_text =
      let before : Recording = record { granules = granules; cpus = cpus; events = events } in
      let line : front ≡ line_text (recorded_parts event) = sym (join_with_byte-slice_split 32 front) ∙ ap line_text of_line.spelled in
      ap (λ t. t ++ (front ++ 10 ∷ [])) is_text.is_text
      ∙ ap (λ l. recording_text before ++ (l ++ 10 ∷ [])) line
      ∙ sym (lines_text-push (recording_lines before) (recorded_parts event))
      ∙ ap (λ ls. lines_text (sizes_parts granules cpus ∷ ls)) (sym (map_push recorded_parts events event));
}

-- the number of the next line, counted from 1
pub counted : (recording : Recording) (text : List ℕ) → IsBadLine InRecordings text (length (recording_lines recording) + 1)
    → IsBadLine InRecordings text (length recording.events + 2)
counted recording text bad =
    let n : length (recording_lines recording) + 1 ≡ length recording.events + 2 = omega (arith, length-map recording.events recorded_parts) in
    subst (λ n. IsBadLine InRecordings text n) n bad

-- what a recording takes behind the lines of another is an event, and there is room for it
pub next_event : (recording : Recording) (line : List (List ℕ)) → AreRecordingLines (recording_lines recording ++ line ∷ [])
    → ((event : Recorded) × IsLineOf line event) × (length recording.events < 2000000)
next_event recording line taken =
    let other = taken.recording in
    let same : sizes_parts recording.granules recording.cpus ∷ (map recorded_parts recording.events ++ line ∷ [])
    ≡ sizes_parts other.granules other.cpus ∷ map recorded_parts other.events = taken.spelled in
    let events : map recorded_parts other.events ≡ map recorded_parts recording.events ++ line ∷ [] = cc in
    let last = map_last recorded_parts IsRecorded (map recorded_parts recording.events) other.events line taken.is_recording.each events in
    let few = taken.is_recording.count in (
      (last.0, record { is_recorded = last.1.0; spelled = sym last.1.1 }),
      omega (
        arith,
        few,
        ap length events,
        length-map other.events recorded_parts,
        length-map recording.events recorded_parts,
        length_push (map recorded_parts recording.events) line,
      ),
    )

-- the next line is whole, and no event's
pub bad_line : (recording : Recording) (text front more : List ℕ) → IsRecordingText text recording → HasNoNewline front → IsNoLine (parts_of front)
    → IsBadLine InRecordings (text ++ (front ++ 10 ∷ more)) (length recording.events + 2)
bad_line recording text front more is_text none no_line =
    counted recording (text ++ (front ++ 10 ∷ more))
    (IsBadLine-line recordings_by_lines (recording_lines recording) (text ++ (front ++ 10 ∷ more)) front more (recording_lines-one_line recording)
    (ap (λ t. t ++ (front ++ 10 ∷ more)) is_text.is_text) none (λ _. InRecordings-from_lines recording is_text.is_recording)
    (λ taken. let next = next_event recording (parts_of front) taken in no_line next.0.0 next.0.1))

-- all lines are there, and the text goes on
pub line_too_many : (recording : Recording) (text front more : List ℕ) → IsRecordingText text recording → length recording.events ≡ 2000000
    → IsBadLine InRecordings (text ++ (front ++ 10 ∷ more)) (length recording.events + 2)
line_too_many recording text front more is_text full =
    counted recording (text ++ (front ++ 10 ∷ more))
    (IsBadLine-full recordings_by_lines (recording_lines recording) (text ++ (front ++ 10 ∷ more)) (front ++ 10 ∷ more)
    (recording_lines-one_line recording) (ap (λ t. t ++ (front ++ 10 ∷ more)) is_text.is_text) (append-cons-not_nil front 10 more)
    (λ _. InRecordings-from_lines recording is_text.is_recording)
    (λ line taken. let room = (next_event recording line taken).1 in absurd (omega (arith, room))))

-- the text ends within a line
pub unfinished_line : (recording : Recording) (text rest : List ℕ) → IsRecordingText text recording → HasNoNewline rest → rest ≢ []
    → IsBadLine InRecordings (text ++ rest) (length recording.events + 2)
unfinished_line recording text rest is_text none some =
    counted recording (text ++ rest)
    (IsBadLine-unfinished recordings_by_lines (recording_lines recording) (text ++ rest) rest (recording_lines-one_line recording)
    (ap (λ t. t ++ rest) is_text.is_text) none some (λ _. InRecordings-from_lines recording is_text.is_recording))
