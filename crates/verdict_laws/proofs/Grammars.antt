-- Whether a text is in a grammar is decided: by the one history, or the one certificate, that can be read from it.
use Rattle.verdict_laws.proofs.Common.{◌≡◌, ℕ, ◌<◌, ◌≤◌, ◌==◌, inl, inr, List, [], ◌∷◌, ◌++◌, map, length, false, is_some, refl, sym, ap, ◌∙◌, subst, arith, AllByRecursion, cases_lt, ne_eqb, Command, Event, Called, Returned, Line, Keep, Unfinished, Reply, Config, History, IsHistory}
use Rattle.std.proofs.Common.{◌^◌, get_or, drop}
use Rattle.std.specs.List.{All, slice_split}
use Rattle.std.proofs.lemmas.Bool.{cases_eq}
use Rattle.std.proofs.lemmas.List.Elements.{All-weaker, All-from_recursion}
use Rattle.std.proofs.lemmas.List.Splits.{slice_split_at}
use Rattle.rmm_spec.specs.declared.reply.Reply.TheVariants as reply
use Rattle.rmm_spec.specs.CertificateText.{IsLine, IsCertificate, IsCertificateText, InCertificates, certificate_text, line_parts}
use Rattle.rmm_spec.specs.CommandText.{AreWords, IsCommand, IsReply}
use Rattle.rmm_spec.specs.Function.{word_count}
use Rattle.rmm_spec.specs.HistoryText.{IsConfig, IsEvent, IsHistoryText, InHistories, IsRecord, cpu_of, subhistory_of, start, stand_from, event_parts, granule_limit, history_text}
use Rattle.rmm_spec.specs.Text.{line_text, lines_text, parts_of, HasNoNewline}
use Rattle.spec_lemmas.proofs.CertificateLines.{line_parts-one_line}
use Rattle.spec_lemmas.proofs.HistoryGrammar.{lines_of, lines_of-one_line}
use Rattle.spec_lemmas.proofs.Lines.{AreOneLineEach}
use Rattle.spec_lemmas.proofs.Places.{subhistory_of-other, cpu_below}
use Rattle.verdict_laws.proofs.Decisions.{Decided, decided_as, decided_both, decided_not, decided_lt, decided_le, decided_true, decided_same, decided_each, holds_surely, first_below}
use Rattle.verdict_laws.proofs.Readings.{map-read, read_config, read_config-config_parts, read_event, read_event-event_parts, read_line, read_line-line_parts}

-- ---- the lines that a text can have

-- all elements but the last
abbrev front : List (List ℕ) → List (List ℕ)
front [] = []
front (x ∷ []) = []
front (x ∷ y ∷ xs) = x ∷ front (y ∷ xs)

-- without the last that was added
front-push : (xs : List (List ℕ)) (x : List ℕ) → front (xs ++ x ∷ []) ≡ xs
front-push [] x = refl
front-push (y ∷ []) x = refl
front-push (y ∷ z ∷ xs) x = ap (λ ys. y ∷ ys) (front-push (z ∷ xs) x)

-- the parts of each line that ends by a newline
cut_lines : List ℕ → List (List (List ℕ))
cut_lines text = map parts_of (front (slice_split (λ byte. byte == 10) text))

-- as a test on each byte
not_newlines : (bytes : List ℕ) → HasNoNewline bytes → All (λ byte. (byte == 10) ≡ false) bytes
not_newlines bytes none =
    All-weaker (λ byte. byte ≡ 10 → ⊥) (λ byte. (byte == 10) ≡ false) (λ byte other. ne_eqb byte 10 other) bytes
    (All-from_recursion (λ byte. byte ≡ 10 → ⊥) bytes none)

-- between the newlines of a text are its lines, and nothing behind the last
slice_split-lines_text : (lines : List (List (List ℕ))) → AreOneLineEach lines
    → slice_split (λ byte. byte == 10) (lines_text lines) ≡ map line_text lines ++ [] ∷ []
slice_split-lines_text [] each = refl
slice_split-lines_text (line ∷ lines) each =
    slice_split_at (λ byte. byte == 10) (line_text line) 10 (lines_text lines) (not_newlines (line_text line) each.0.has_no_newline) refl
    ∙ ap (λ ps. line_text line ∷ ps) (slice_split-lines_text lines each.1)

-- each line gives its parts back
parts_of-each : (lines : List (List (List ℕ))) → AreOneLineEach lines → map parts_of (map line_text lines) ≡ lines
parts_of-each [] each = refl
parts_of-each (line ∷ lines) each = λ i. each.0.given_back i ∷ parts_of-each lines each.1 i

-- the lines of a text are the ones that it was made of
cut_lines-lines_text : (lines : List (List (List ℕ))) → AreOneLineEach lines → cut_lines (lines_text lines) ≡ lines
unfolding cut_lines
cut_lines-lines_text lines each =
    ap (λ bytes. map parts_of (front bytes)) (slice_split-lines_text lines each)
    ∙ ap (λ bytes. map parts_of bytes) (front-push (map line_text lines) [])
    ∙ parts_of-each lines each

-- ---- certificates

-- whether words have a text
decided_words : (words : List ℕ) → Decided (AreWords words)
decided_words words = decided_each (λ w. w < 2 ^ 64) (λ w. decided_lt w (2 ^ 64)) words

-- whether a reply has one
decided_reply : (given : Reply) → Decided (IsReply given)
decided_reply (reply.Ok words) = decided_both (decided_le (length words.items) 10) (decided_words words.items)
decided_reply (reply.Err status index) = decided_both (decided_lt status 256) (decided_lt index 256)
decided_reply reply.Misplaced = inl tt

-- whether a line has one
decided_line : (line : Line) → Decided (IsLine line)
decided_line (Keep cpu number) = decided_both (decided_lt cpu 8) (decided_lt number 1000000)
decided_line (Unfinished cpu number given) =
    decided_as (λ p. (p.0, p.1.0, p.1.1)) (λ p. (p.0, (p.1, p.2)))
    (decided_both (decided_lt cpu 8) (decided_both (decided_lt number 1000000) (decided_reply given)))

-- whether lines are a certificate
decided_certificate : (lines : List Line) → Decided (IsCertificate lines)
decided_certificate lines =
    decided_as (λ p. record { each = p.0; count = p.1 }) (λ is. (is.each, is.count))
    (decided_both (decided_each IsLine decided_line lines) (decided_le (length lines) 1000000))

-- the one certificate that a text could stand for
read_certificate : List ℕ → List Line
read_certificate text = map read_line (cut_lines text)

-- a certificate is read back from its text
read_certificate-certificate_text : (lines : List Line) → read_certificate (certificate_text lines) ≡ lines
unfolding read_certificate
read_certificate-certificate_text lines =
    ap (λ ls. map read_line ls) (cut_lines-lines_text (map line_parts lines) (line_parts-one_line lines))
    ∙ map-read line_parts read_line read_line-line_parts lines

-- whether a text is in the grammar: whether it is the text of what is read from it
pub decided_InCertificates : (text : List ℕ) → Decided (InCertificates text)
decided_InCertificates text =
    let lines = read_certificate text in
    decided_as
    (λ (p : IsCertificate lines × (text ≡ certificate_text lines)). (lines, record { is_certificate = p.0; is_text = p.1 }))
    (λ (given : InCertificates text).
    let same : given.0 ≡ lines = sym (read_certificate-certificate_text given.0) ∙ ap read_certificate (sym given.1.is_text) in
    let is : IsCertificateText text lines = subst (λ (ls : List Line). IsCertificateText text ls) same given.1 in
    (is.is_certificate, is.is_text))
    (decided_both (decided_certificate lines) (decided_same text (certificate_text lines)))

-- ---- histories

-- whether a configuration is within its limits
decided_config : (config : Config) → Decided (IsConfig config)
decided_config config =
    decided_as
    (λ p. record { some_granules = p.0.0; most_granules = p.0.1; some_cpus = p.1.0; most_cpus = p.1.1 })
    (λ is. ((is.some_granules, is.most_granules), (is.some_cpus, is.most_cpus)))
    (decided_both
    (decided_both (decided_le 1 config.granules) (decided_le config.granules (granule_limit config.version)))
    (decided_both (decided_le 1 config.cpus) (decided_le config.cpus 8)))

-- whether a command has a text
decided_command : (command : Command) → Decided (IsCommand command)
decided_command command =
    decided_as
    (λ p. record { counted = p.0; words = p.1 }) (λ is. (is.counted, is.words))
    (decided_both (cases_eq (length command.words.items) (word_count command.function)) (decided_words command.words.items))

-- whether an event has one
decided_event : (cpus : ℕ) (event : Event) → Decided (IsEvent cpus event)
decided_event cpus (Called cpu number command) = decided_both (decided_lt cpu cpus) (decided_command command)
decided_event cpus (Returned cpu number given) = decided_both (decided_lt cpu cpus) (decided_reply given)

-- whether a CPU's events are a record
decided_record : (events : List Event) → Decided (IsRecord events)
decided_record events = decided_true (is_some (stand_from start events))

-- a CPU that the machine doesn't have has no events
subhistory_of-past : (cpus cpu : ℕ) (events : List Event) → cpus ≤ cpu → AllByRecursion (IsEvent cpus) events → subhistory_of cpu events ≡ []
subhistory_of-past cpus cpu [] past each = refl
subhistory_of-past cpus cpu (event ∷ events) past each =
    subhistory_of-other cpu event events (ne_eqb (cpu_of event) cpu (λ same. omega (arith, same, past, cpu_below cpus event each.0)))
    ∙ subhistory_of-past cpus cpu events past each.1

-- the parts of all CPUs are records where those of the machine's CPUs are
IsRecord-each : (cpus : ℕ) (events : List Event) → AllByRecursion (IsEvent cpus) events
    → ((cpu : ℕ) → cpu < cpus → ¬ ¬ IsRecord (subhistory_of cpu events)) → (cpu : ℕ) → IsRecord (subhistory_of cpu events)
IsRecord-each cpus events each sure cpu = elim (cases_lt cpu cpus) [
  | inl within ↦ holds_surely (decided_record (subhistory_of cpu events)) (sure cpu within)
  | inr past ↦ subst IsRecord (sym (subhistory_of-past cpus cpu events past each)) refl
]

-- whether the parts of all CPUs are records
decided_records : (cpus : ℕ) (events : List Event) → AllByRecursion (IsEvent cpus) events → Decided ((cpu : ℕ) → IsRecord (subhistory_of cpu events))
decided_records cpus events each =
    elim (first_below (λ cpu. ¬ IsRecord (subhistory_of cpu events)) (λ cpu. decided_not (decided_record (subhistory_of cpu events))) cpus) [
      | inl first ↦ inr (λ records. first.holds (records first.at))
      | inr none ↦ inl (IsRecord-each cpus events each none)
    ]

-- whether it is a history
decided_history : (history : History) → Decided (IsHistory history)
decided_history history = elim (decided_each (IsEvent history.config.cpus) (decided_event history.config.cpus) history.events) [
  | inr other ↦ inr (λ is. other is.events)
  | inl each ↦
      decided_as
      (λ p. record { config = p.0; events = each; records = p.1.0; lines = p.1.1 }) (λ is. (is.config, (is.records, is.lines)))
      (decided_both (decided_config history.config)
      (decided_both (decided_records history.config.cpus history.events each) (decided_lt (length history.events) 1000000)))
]

-- the one history that a text could stand for
read_history : List ℕ → History
read_history text =
    let lines = cut_lines text in
    record { config = read_config (get_or lines 0 []); events = map read_event (drop 1 lines) }

-- a history is read back from its text
read_history-history_text : (history : History) → read_history (history_text history) ≡ history
unfolding read_history
read_history-history_text history =
    let cut : cut_lines (history_text history) ≡ lines_of history = cut_lines-lines_text (lines_of history) (lines_of-one_line history) in
    let config = ap (λ ls. read_config (get_or ls 0 [])) cut ∙ read_config-config_parts history.config in
    let events = ap (λ ls. map read_event (drop 1 ls)) cut ∙ map-read event_parts read_event read_event-event_parts history.events in
    λ i. record { config = config i; events = events i }

-- whether a text is in the grammar, as with certificates
pub decided_InHistories : (text : List ℕ) → Decided (InHistories text)
decided_InHistories text =
    let history = read_history text in
    decided_as
    (λ (p : IsHistory history × (text ≡ history_text history)). (history, record { is_history = p.0; is_text = p.1 }))
    (λ (given : InHistories text).
    let same : given.0 ≡ history = sym (read_history-history_text given.0) ∙ ap read_history (sym given.1.is_text) in
    let is : IsHistoryText text history = subst (λ (h : History). IsHistoryText text h) same given.1 in
    (is.is_history, is.is_text))
    (decided_both (decided_history history) (decided_same text (history_text history)))
