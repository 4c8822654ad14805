-- The grammar of histories, line by line: a text stands for one history at most, and then has no bad line.
use Rattle.std.proofs.Common.{◌≡◌, ℕ, zero, suc, ◌<◌, List, [], ◌∷◌, ◌++◌, map, take, drop, Option, Some, None, refl, sym, ap, ◌∙◌, subst, arith, length-take, take-append-drop, nat_eq}
use Rattle.std.specs.Prelude.{IsSome}
use Rattle.std.specs.List.{AllByRecursion}
use Rattle.std.specs.Option.{option_and_then}
use Rattle.std.proofs.lemmas.List.{take-map}
use Rattle.std.proofs.lemmas.List.Elements.{filter-append}
use Rattle.spec_lemmas.proofs.Lines.{AreOneLineEach, AreOneLineEach-map, IsOneLine-from_parts, IsLineGrammar, not-IsBadLine, same_lines}
use Rattle.spec_lemmas.proofs.Texts.{config_parts-are_parts, config_parts-injective, event_parts-some, event_parts-are_parts, event_parts-injective}
use Rattle.rmm_spec.specs.HistoryText.{History, IsHistory, IsEvent, Stand, start, stand_after, stand_from, subhistory_of, cpu_of, IsRecord, config_parts, event_parts, IsHistoryText, InHistories}
use Rattle.rmm_spec.specs.Text.{IsBadLine, lines_text}
use Rattle.rmm_spec.specs.declared.event.Event.{Event}

-- the lines of a history
abbrev pub lines_of : History → List (List (List ℕ))
lines_of history = config_parts history.config ∷ map event_parts history.events

-- the lists of parts that spell a history
pub record SpellsHistory (spelled : List (List (List ℕ))) : Type 0 where
  pub history : History
  pub is_history : IsHistory history
  pub is_spelled : spelled ≡ lines_of history

-- the lines of a history are one line each
pub lines_of-one_line : (history : History) → AreOneLineEach (lines_of history)
lines_of-one_line history = (
  IsOneLine-from_parts (config_parts history.config) (omega arith) (config_parts-are_parts history.config),
  AreOneLineEach-map event_parts event_parts-some event_parts-are_parts history.events,
)

pub histories_by_lines : IsLineGrammar InHistories SpellsHistory
histories_by_lines = record {
  lines = λ text given.
      (lines_of given.0, (record { history = given.0; is_history = given.1.is_history; is_spelled = refl }, given.1.is_text));
  each = λ spelled given. subst AreOneLineEach (sym given.is_spelled) (lines_of-one_line given.history);
}

-- different events have different parts, line by line
map-event_parts-injective : (xs ys : List Event) → map event_parts xs ≡ map event_parts ys → xs ≡ ys
map-event_parts-injective [] [] same = refl
map-event_parts-injective [] (y ∷ ys) same = absurd cc
map-event_parts-injective (x ∷ xs) [] same = absurd cc
map-event_parts-injective (x ∷ xs) (y ∷ ys) same =
    let heads : x ≡ y = event_parts-injective x y (let e : event_parts x ≡ event_parts y = cc in e) in
    let tails : xs ≡ ys = map-event_parts-injective xs ys (let e : map event_parts xs ≡ map event_parts ys = cc in e) in
    cc

-- the parts of a list that isn't empty
head_of : List (List (List ℕ)) → List (List ℕ)
head_of [] = []
head_of (line ∷ lines) = line

-- a text stands for one history
pub same_history : (text : List ℕ) (a b : History) → IsHistoryText text a → IsHistoryText text b → a ≡ b
unfolding head_of
same_history text a b of_a of_b =
    let lines = same_lines (lines_of a) (lines_of b) (lines_of-one_line a) (lines_of-one_line b) (sym of_a.is_text ∙ of_b.is_text) in
    let configs : a.config ≡ b.config = config_parts-injective a.config b.config (ap head_of lines) in
    let events : a.events ≡ b.events = map-event_parts-injective a.events b.events (ap (λ ls. drop 1 ls) lines) in
    λ i. record { config = configs i; events = events i }

-- what holds of each event holds of each of the first ones
each-take : (P : Event → Type 0) (n : ℕ) (events : List Event) → AllByRecursion P events → AllByRecursion P (take n events)
each-take P zero events each = tt
each-take P (suc n) [] each = tt
each-take P (suc n) (event ∷ events) each = (each.0, each-take P n events each.1)

-- what is some after both is some after the first, where what follows is
IsSome-option_and_then : (all front : Stand → Option Stand) → ((next : Stand) → IsSome (all next) → IsSome (front next)) → (o : Option Stand)
    → IsSome (option_and_then all o) → IsSome (option_and_then front o)
IsSome-option_and_then all front each None some = some
IsSome-option_and_then all front each (Some next) some = each next some

-- where some events lead on, so does their front
stand_from-front : (old : Stand) (front back : List Event) → IsSome (stand_from old (front ++ back)) → IsSome (stand_from old front)
stand_from-front old [] back is_some = refl
stand_from-front old (event ∷ front) back is_some =
    IsSome-option_and_then (λ next. stand_from next (front ++ back)) (λ next. stand_from next front)
    (λ next some. stand_from-front next front back some) (stand_after old event) is_some

-- the first events of a record are one
IsRecord-take : (cpu n : ℕ) (events : List Event) → IsRecord (subhistory_of cpu events) → IsRecord (subhistory_of cpu (take n events))
IsRecord-take cpu n events is_record =
    let parts : subhistory_of cpu events ≡ subhistory_of cpu (take n events) ++ subhistory_of cpu (drop n events) =
    ap (λ (es : List Event). subhistory_of cpu es) (sym (take-append-drop n events))
    ∙ filter-append (λ e. nat_eq (cpu_of e) cpu) (take n events) (drop n events) in
    stand_from-front start (subhistory_of cpu (take n events)) (subhistory_of cpu (drop n events)) (subst IsRecord parts is_record)

-- the first events of a history are a history
pub IsHistory-take : (n : ℕ) (history : History) → IsHistory history → IsHistory (record history { events = take n history.events })
IsHistory-take n history is = record {
  config = is.config;
  events = each-take (IsEvent history.config.cpus) n history.events is.events;
  records = λ cpu. IsRecord-take cpu n history.events (is.records cpu);
  lines = omega (arith, is.lines, length-take n history.events);
}

-- the first lines of a history, with its header, are a history's
SpellsHistory-take : (n : ℕ) (spelled : List (List (List ℕ))) → 0 < n → SpellsHistory spelled → SpellsHistory (take n spelled)
SpellsHistory-take zero spelled counted given = absurd (omega (arith, counted))
SpellsHistory-take (suc n) spelled counted given = record {
  history = record given.history { events = take n given.history.events };
  is_history = IsHistory-take n given.history given.is_history;
  is_spelled = ap (λ ls. take (suc n) ls) given.is_spelled
      ∙ ap (λ ls. config_parts given.history.config ∷ ls) (take-map event_parts n given.history.events);
}

-- a history's text has no bad line
pub not-IsBadLine-history : (text : List ℕ) (n : ℕ) → InHistories text → IsBadLine InHistories text n → ⊥
not-IsBadLine-history =
    not-IsBadLine histories_by_lines
    (λ spelled given.
    subst (λ s. InHistories (lines_text s)) (sym given.is_spelled) (given.history, record { is_history = given.is_history; is_text = refl }))
    SpellsHistory-take
