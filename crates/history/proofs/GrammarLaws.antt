-- How a reader of a history, with its lines so far, comes to the history of a text or to its bad line.
use Rattle.std.proofs.Common.{◌≡◌, ◌≢◌, ℕ, zero, suc, ◌+◌, ◌<◌, ◌≤◌, List, [], ◌∷◌, ◌++◌, map, length, take, refl, sym, ap, ◌∙◌, subst, arith, ⊎_elim, append_assoc, Bool, false, ◌==◌, Result, Err}
use Rattle.std.specs.Prelude.{IsTrue, ◌↔◌, IfErr}
use Rattle.std.specs.List.{AllByRecursion}
use Rattle.std.proofs.lemmas.Bool.{cases_lt, false≢true}
use Rattle.std.proofs.lemmas.List.{append-nil, length-map, map_push, length_push, take-map}
use Rattle.std.proofs.lemmas.List.Sums.{length-filter, count_by-le-length}
use Rattle.std.proofs.lemmas.List.Splits.{join_with_byte-slice_split}
use Rattle.rmm_spec.specs.declared.event.Event.{Event}
use Rattle.rmm_spec.specs.declared.event.Event.TheVariants.{Called, Returned}
use Rattle.rmi_codec.proofs.LineLengths.{length-line_text, width-called, width-returned, width-config}
use Rattle.rmi_codec.proofs.Pieces.{IsBadLine-too_long, behind_good, newlines-lines}
use Rattle.rmi_codec.specs.Newlines.{newlines}
use Rattle.rmm_spec.specs.Text.{IsBadLine, line_text, lines_text, parts_of, HasNoNewline}
use Rattle.rmm_spec.specs.HistoryText.{Config, History, IsHistory, IsEvent, InHistories, IsHistoryText, CanFollow, cpu_of, config_parts, event_parts, history_text, rank}
use Rattle.spec_lemmas.proofs.Lines.{AreOneLineEach, IsLineGrammar, IsBadLine-line, IsBadLine-unfinished, IsBadLine-full, append-cons-not_nil, IsOneLine-from_parts, AreOneLineEach-map, map_cut, lines_text-push, IsBadLine-end}
use Rattle.spec_lemmas.proofs.Texts.{config_parts-are_parts, config_parts-injective, event_parts-are_parts, event_parts-some, event_parts-injective}
use Rattle.spec_lemmas.proofs.Records.{CanFollow-from_push, IsHistory-push}
use Rattle.spec_lemmas.proofs.HistoryGrammar.{IsHistory-take, not-IsBadLine-history}
use Rattle.history.specs.Faults.{BeginsWith, EndsWithEvent, IsFaultOf, IsFaultOfRewriting}
use Rattle.history.specs.declared.fault.HistoryFault.{HistoryFault}
use Rattle.history.specs.declared.fault.HistoryFault.TheVariants.{BadLine, NoMemory}
use Rattle.history.specs.Next.{Continues, HasNext}
use Rattle.history.specs.Spelling.{IsHeaderOf, IsNoHeader, call_number, IsEventOf, IsNoEvent}
use Rattle.history.proofs.SubhistoryLaws.{next_rank}
use Rattle.spec_lemmas.proofs.Places.{cpu_below}

-- the lines of a history, each as its parts
abbrev pub history_lines : History → List (List (List ℕ))
history_lines history = config_parts history.config ∷ map event_parts history.events

-- the lines are those of a history
pub record AreHistoryLines (lines : List (List (List ℕ))) : Type 0 where
  pub history : History
  pub is_history : IsHistory history
  pub spelled : lines ≡ history_lines history

pub history_lines-one_line : (history : History) → AreOneLineEach (history_lines history)
history_lines-one_line history = (
  IsOneLine-from_parts (config_parts history.config) (omega arith) (config_parts-are_parts history.config),
  AreOneLineEach-map event_parts event_parts-some event_parts-are_parts history.events,
)

-- histories are a grammar of lines
pub histories_by_lines : IsLineGrammar InHistories AreHistoryLines
histories_by_lines = record {
  lines = λ text given. (history_lines given.0, (record { history = given.0; is_history = given.1.is_history; spelled = refl }, given.1.is_text));
  each = λ lines taken. subst AreOneLineEach (sym taken.spelled) (history_lines-one_line taken.history);
}

pub InHistories-from_lines : (history : History) → IsHistory history → InHistories (lines_text (history_lines history))
InHistories-from_lines history is_history = (history, record { is_history = is_history; is_text = refl })

-- ---- the header

-- the first line isn't whole
pub unfinished_header : (text : List ℕ) → HasNoNewline text → IsBadLine InHistories text 1
unfinished_header [] none =
    IsBadLine-end histories_by_lines [] [] tt refl (λ none_before. absurd (omega (arith, none_before)))
    (λ taken. let spelled : [] ≡ history_lines taken.history = taken.spelled in cc)
unfinished_header (byte ∷ text) none =
    IsBadLine-unfinished histories_by_lines [] (byte ∷ text) (byte ∷ text) tt refl none
    (λ ended. cc) (λ none_before. absurd (omega (arith, none_before)))

-- the first line is whole, and no header
pub bad_header : (front more : List ℕ) → HasNoNewline front → IsNoHeader (parts_of front) → IsBadLine InHistories (front ++ 10 ∷ more) 1
bad_header front more none no_header =
    IsBadLine-line histories_by_lines [] (front ++ 10 ∷ more) front more tt refl none (λ none_before. absurd (omega (arith, none_before)))
    (λ taken.
    let same : parts_of front ∷ [] ≡ config_parts taken.history.config ∷ map event_parts taken.history.events = taken.spelled in
    let spelled : parts_of front ≡ config_parts taken.history.config = cc in
    no_header taken.history.config (record { is_config = taken.is_history.config; spelled = spelled }))

-- the first line is longer than a header, whatever follows
pub header_too_long : (rest more : List ℕ) → HasNoNewline rest → 256 < length rest → IsBadLine InHistories (rest ++ more) 1
header_too_long rest more none long =
    let some : 0 < length rest = omega (arith, long) in
    IsBadLine-too_long histories_by_lines [] rest more tt none some (λ none_before. absurd (omega (arith, none_before)))
    (λ line taken.
    let same : line ∷ [] ≡ config_parts taken.history.config ∷ map event_parts taken.history.events = taken.spelled in
    let spelled : line ≡ config_parts taken.history.config = cc in
    omega (
      arith,
      long,
      ap (λ l. length (line_text l)) spelled,
      length-line_text (config_parts taken.history.config),
      width-config taken.history.config taken.is_history.config,
    ))

-- the text of a history without events
pub history_text-header : (config : Config) (front : List ℕ) → IsHeaderOf (parts_of front) config
    → history_text (record { config = config; events = [] }) ≡ front ++ 10 ∷ []
history_text-header config front is_header =
    ap (λ b. b ++ 10 ∷ []) (ap line_text (sym is_header.spelled) ∙ join_with_byte-slice_split 32 front)

-- ---- the events

pub HasNext-lines : (history : History) (line : List (List ℕ))
    → IsHistory history → AreHistoryLines (history_lines history ++ line ∷ []) → HasNext history line
HasNext-lines history line is_history taken =
    let other = taken.history in
    let same : config_parts history.config ∷ (map event_parts history.events ++ line ∷ [])
    ≡ config_parts other.config ∷ map event_parts other.events = taken.spelled in
    let configs : history.config ≡ other.config =
    config_parts-injective history.config other.config (let e : config_parts history.config ≡ config_parts other.config = cc in e) in
    let events : map event_parts other.events ≡ map event_parts history.events ++ line ∷ [] = cc in
    let cut = map_cut event_parts (λ _. Unit {0}) (λ x y _ _ e. event_parts-injective x y e) history.events other.events line
    (all_trivial history.events) (all_trivial other.events) events in
    let whole : IsHistory (record { config = history.config; events = history.events ++ cut.0 ∷ [] }) =
    subst IsHistory (same_history other.config history.config other.events (history.events ++ cut.0 ∷ []) (sym configs) cut.1.1) taken.is_history in
    record {
      event = cut.0;
      can_follow = CanFollow-from_push history.config history.events cut.0 whole;
      room = (let few = whole.lines in omega (arith, few, length_push history.events cut.0));
      spelled = cut.1.0.1;
    }
  where
    all_trivial : {X : Type 0} (xs : List X) → AllByRecursion (λ _. Unit {0}) xs
    all_trivial [] = tt
    all_trivial (x ∷ xs) = (tt, all_trivial xs)

    same_history : (s t : Config) (es fs : List Event)
        → s ≡ t → es ≡ fs → ◌≡◌ {A = History} (record { config = s; events = es }) (record { config = t; events = fs })
    same_history s t es fs e f = ap (λ (x : Config). history_at x es) e ∙ ap (λ (x : List Event). history_at t x) f
      where
        history_at : Config → List Event → History
        history_at x y = record { config = x; events = y }

-- the number of the next line, counted from 1
counted : (history : History) (text : List ℕ)
    → IsBadLine InHistories text (length (history_lines history) + 1) → IsBadLine InHistories text (length history.events + 2)
counted history text bad =
    let n : length (history_lines history) + 1 ≡ length history.events + 2 = omega (arith, length-map history.events event_parts) in
    subst (λ n. IsBadLine InHistories text n) n bad

-- the next line is whole, and no event's that may follow
pub bad_line : (history : History) (front more : List ℕ) → IsHistory history → HasNoNewline front
    → (HasNext history (parts_of front) → ⊥) → IsBadLine InHistories (history_text history ++ (front ++ 10 ∷ more)) (length history.events + 2)
bad_line history front more is_history none no_next =
    counted history (history_text history ++ (front ++ 10 ∷ more))
    (IsBadLine-line histories_by_lines (history_lines history)
    (history_text history ++ (front ++ 10 ∷ more)) front more (history_lines-one_line history)
    refl none (λ _. InHistories-from_lines history is_history)
    (λ taken. no_next (HasNext-lines history (parts_of front) is_history taken)))

-- the text ends within a line
pub unfinished_line : (history : History) (rest : List ℕ) → IsHistory history → HasNoNewline rest → rest ≢ []
    → IsBadLine InHistories (history_text history ++ rest) (length history.events + 2)
unfinished_line history rest is_history none some =
    counted history (history_text history ++ rest)
    (IsBadLine-unfinished histories_by_lines (history_lines history) (history_text history ++ rest) rest (history_lines-one_line history)
    refl none some (λ _. InHistories-from_lines history is_history))

-- all lines are there, and the text goes on
pub line_too_many : (history : History) (front more : List ℕ) → IsHistory history → length history.events + 1 ≡ 1000000
    → IsBadLine InHistories (history_text history ++ (front ++ 10 ∷ more)) (length history.events + 2)
line_too_many history front more is_history full =
    counted history (history_text history ++ (front ++ 10 ∷ more))
    (IsBadLine-full histories_by_lines (history_lines history) (history_text history ++ (front ++ 10 ∷ more)) (front ++ 10 ∷ more)
    (history_lines-one_line history) refl (append-cons-not_nil front 10 more) (λ _. InHistories-from_lines history is_history)
    (λ line taken. let next = HasNext-lines history line is_history taken in let room = next.room in absurd (omega (arith, room))))

-- a history without room has all its lines
pub full_lines : (history : History) (answer : Bool) → IsHistory history → IsTrue answer ↔ (length history.events + 1 < 1000000) → answer ≡ false
    → length history.events + 1 ≡ 1000000
full_lines history answer is_history says full =
    let few = is_history.lines in
    ⊎_elim
    (λ (room : length history.events + 1 < 1000000). absurd (false≢true (sym full ∙ says.1 room)))
    (λ (past : 1000000 ≤ length history.events + 1). omega (arith, few))
    (cases_lt (length history.events + 1) 1000000)

-- the number of a call is within the room for its line
pub call_number-lt : (history : History) (event : Event) → CanFollow history event → length history.events + 1 < 1000000 → call_number event < 1000000
call_number-lt history event can_follow room =
    let events = history.events in
    let cpu = cpu_of event in
    omega (
      arith,
      next_rank events event can_follow.record_goes_on,
      length-filter (λ e. cpu_of e == cpu) events,
      count_by-le-length (λ e. cpu_of e == cpu) events,
      call_number-rank event,
    )
  where
    call_number-rank : (e : Event) → call_number e ≤ rank e
    call_number-rank (Called c n command) = omega arith
    call_number-rank (Returned c n given) = omega arith

-- no event has the parts
pub no_event : (history : History) (line : List (List ℕ)) → IsNoEvent history.config.cpus line → HasNext history line → ⊥
no_event history line none next =
    none next.event (call_number-lt history next.event next.can_follow next.room)
    (record { is_event = next.can_follow.is_event; spelled = sym next.spelled })

-- the event that has the parts doesn't go on
pub no_continuation : (history : History) (line : List (List ℕ)) (event : Event)
    → IsEventOf history.config.cpus line event → (Continues history event → ⊥)
    → HasNext history line → ⊥
no_continuation history line event is_event stops next =
    let same : next.event ≡ event = event_parts-injective next.event event (next.spelled ∙ is_event.spelled) in
    let can_follow : CanFollow history event = subst (CanFollow history) same next.can_follow in
    stops (cpu_below history.config.cpus event is_event.is_event, can_follow.record_goes_on)

-- the event that has the parts may be next where its CPU's record goes on
pub HasNext-continues : (history : History) (line : List (List ℕ)) (event : Event)
    → IsEventOf history.config.cpus line event → length history.events + 1 < 1000000
    → Continues history event → HasNext history line
HasNext-continues history line event is_event room goes_on = record {
  event = event;
  can_follow = record { is_event = is_event.is_event; record_goes_on = goes_on.1 };
  room = room;
  spelled = sym is_event.spelled;
}

-- the line of an event that may follow is shorter than what is kept of a line
short_event : (history : History) → IsHistory history → (event : Event) → IsEvent history.config.cpus event → call_number event < 1000000
    → length (line_text (event_parts event)) ≤ 190
short_event history is_history (Called cpu number command) is_event below =
    let few : cpu < 8 = (let limits = is_history.config in omega (arith, is_event.0, limits.most_cpus)) in
    omega (arith, length-line_text (event_parts (Called cpu number command)), width-called cpu number command few below is_event.1)
short_event history is_history (Returned cpu number given) is_event below =
    let few : cpu < 8 = (let limits = is_history.config in omega (arith, is_event.0, limits.most_cpus)) in
    omega (arith, length-line_text (event_parts (Returned cpu number given)), width-returned cpu number given few below is_event.1)

-- the next line is longer than an event's, whatever follows
pub line_too_long : (history : History) (rest more : List ℕ) → IsHistory history → HasNoNewline rest → 256 < length rest
    → IsBadLine InHistories (history_text history ++ (rest ++ more)) (length history.events + 2)
line_too_long history rest more is_history none long =
    let some : 0 < length rest = omega (arith, long) in
    counted history (history_text history ++ (rest ++ more))
    (IsBadLine-too_long histories_by_lines (history_lines history) rest more (history_lines-one_line history) none some
    (λ _. InHistories-from_lines history is_history)
    (λ line taken.
    let next = HasNext-lines history line is_history taken in
    omega (
      arith,
      long,
      ap (λ l. length (line_text l)) next.spelled,
      short_event history is_history next.event next.can_follow.is_event (call_number-lt history next.event next.can_follow next.room),
    )))

-- the first lines of a history, its header among them, are a history's
InHistories-front : (history : History) (n : ℕ) → IsHistory history → 0 < n → InHistories (lines_text (take n (history_lines history)))
InHistories-front history zero is_history some = absurd (omega (arith, some))
InHistories-front history (suc n) is_history some =
    let front : History = record history { events = take n history.events } in (
      front,
      record {
        is_history = IsHistory-take n history is_history;
        is_text = ap (λ (ls : List (List (List ℕ))). lines_text (config_parts history.config ∷ ls)) (take-map event_parts n history.events);
      },
    )

-- the bad line stands behind the lines of the history
pub bad_behind : (history : History) (rest : List ℕ) (line : ℕ) → IsHistory history → HasNoNewline rest
    → IsBadLine InHistories (history_text history ++ rest) line → newlines (history_text history ++ rest) < line
bad_behind history rest line is_history none bad =
    let each = history_lines-one_line history in
    omega (
      arith,
      newlines-lines (history_lines history) rest each none,
      behind_good (history_lines history) rest line each (λ n some. InHistories-front history n is_history some) bad,
    )

-- the text with the next event
pub history_text-next : (history : History) (event : Event)
    → history_text (record history { events = history.events ++ event ∷ [] }) ≡ history_text history ++ (line_text (event_parts event) ++ 10 ∷ [])
history_text-next history event =
    ap (λ (ls : List (List (List ℕ))). lines_text (config_parts history.config ∷ ls)) (map_push event_parts history.events event)
    ∙ lines_text-push (history_lines history) (event_parts event)

-- and with what is left
history_text-push : (history : History) (event : Event) (rest front more : List ℕ)
    → rest ≡ front ++ 10 ∷ more → IsEventOf history.config.cpus (parts_of front) event
    → history_text history ++ rest ≡ history_text (record history { events = history.events ++ event ∷ [] }) ++ more
history_text-push history event rest front more rest_is is_event =
    let spelled : line_text (event_parts event) ≡ front = ap line_text (sym is_event.spelled) ∙ join_with_byte-slice_split 32 front in
    ap (λ r. history_text history ++ r) rest_is ∙ ap (λ b. history_text history ++ (b ++ 10 ∷ more)) (sym spelled)
    ∙ ap (λ r. history_text history ++ r) (sym (append_assoc (line_text (event_parts event)) (10 ∷ []) more))
    ∙ sym (append_assoc (history_text history) (line_text (event_parts event) ++ 10 ∷ []) more)
    ∙ ap (λ t. t ++ more) (sym (history_text-next history event))

-- the text with the event of a line
pub history_text-line : (history : History) (event : Event) (front : List ℕ) → IsEventOf history.config.cpus (parts_of front) event
    → history_text (record history { events = history.events ++ event ∷ [] }) ≡ history_text history ++ (front ++ 10 ∷ [])
history_text-line history event front is_event =
    sym (history_text-push history event (front ++ 10 ∷ []) front [] refl is_event
    ∙ append-nil (history_text (record history { events = history.events ++ event ∷ [] })))

-- the next line is that of an event which may follow
pub EndsWithEvent-next : (history : History) (front : List ℕ) → IsHistory history → HasNext history (parts_of front)
    → EndsWithEvent (history_text history ++ (front ++ 10 ∷ []))
EndsWithEvent-next history front is_history next = (
  record history { events = history.events ++ next.event ∷ [] },
  omega (arith, length_push history.events next.event),
  record {
    is_history = IsHistory-push history next.event is_history next.can_follow next.room;
    is_text = sym (history_text-line history next.event front (record { is_event = next.can_follow.is_event; spelled = sym next.spelled }));
  },
)

-- memory can be refused for that event
pub IsFaultOf-next : (history : History) (front more : List ℕ) → IsHistory history → HasNext history (parts_of front)
    → IsFaultOf (history_text history ++ (front ++ 10 ∷ more)) NoMemory
IsFaultOf-next history front more is_history next =
    let ended = EndsWithEvent-next history front is_history next in (
      ended.0,
      ended.1,
      record {
        more = more;
        is_history = ended.2.is_history;
        is_text =
            ap (λ r. history_text history ++ r) (sym (append_assoc front (10 ∷ []) more))
            ∙ sym (append_assoc (history_text history) (front ++ 10 ∷ []) more)
            ∙ ap (λ t. t ++ more) ended.2.is_text;
      },
    )

pub IsFaultOfRewriting-read : (text : List ℕ) (fault : HistoryFault) → IsFaultOf text fault → IsFaultOfRewriting text fault
IsFaultOfRewriting-read text (BadLine line) bad = bad
IsFaultOfRewriting-read text NoMemory begun = (begun.0, begun.2)

pub BeginsWith-whole : (text : List ℕ) (history : History) → IsHistoryText text history → BeginsWith text history
BeginsWith-whole text history is = record { more = []; is_history = is.is_history; is_text = is.is_text ∙ sym (append-nil (history_text history)) }

-- a bad line that is reported of a text says that it is in no history's
pub bad_line_outside : {T : Type 0} (text : List ℕ) (result : Result T HistoryFault) (line : ℕ)
    → IfErr result (IsFaultOfRewriting text) → result ≡ Err (BadLine line)
    → InHistories text → ⊥
bad_line_outside text result line fault is given =
    not-IsBadLine-history text line given (subst (λ r. IfErr r (IsFaultOfRewriting text)) is fault)
