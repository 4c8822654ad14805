-- What one more event leaves of the events that are held.
use Rattle.std.proofs.Common.{◌≡◌, ℕ, zero, suc, ◌+◌, ◌/◌, ◌<◌, ◌≤◌, List, [], ◌∷◌, ◌++◌, length, get_or, slice_get, Option, Some, None, if◌then◌else◌, take, drop, refl, sym, ap, ◌∙◌, subst, arith, length-append, ⊎_elim}
use Rattle.std.proofs.lemmas.Bool.{cases_eq, eq-eqb, ne_eqb}
use Rattle.std.proofs.lemmas.Option.{none-some, same_Some, slice_get_read}
use Rattle.std.proofs.lemmas.List.{take-append-le, drop-append-le, length-drop}
use Rattle.std.specs.List.{AllByRecursion}
use Rattle.std.specs.Prelude.{IfNone, Vec, vec_len}
use Rattle.arrayvec.specs.ArrayVec.{ArrayVec}
use Rattle.rmm_spec.specs.declared.command.Command.{Command}
use Rattle.rmm_spec.specs.declared.event.Event.{Event}
use Rattle.rmm_spec.specs.declared.event.Event.TheVariants as seen
use Rattle.rmm_spec.specs.declared.function_id.FunctionId.{FunctionId}
use Rattle.rmm_spec.specs.declared.reply.Reply.TheVariants as reply
use Rattle.spec_lemmas.proofs.Lines.{each-weaker}
use Rattle.spec_lemmas.proofs.Texts.{AllByRecursion-append}
use Rattle.spec_lemmas.proofs.Places.{subhistory_of-same, subhistory_of-other}
use Rattle.rmm_spec.specs.Cell.{put}
use Rattle.rmm_spec.specs.HistoryText.{IsEvent, cpu_of, rank, subhistory_of}
use Rattle.rmi_codec.proofs.PartLaws.{word_count-le}
use Rattle.history.specs.Entry.{stretch, words_at, HasFewWords, event_of, entry_cpu, events_after, events_in, HasWithin, HasWords, HasStored, IsHeld}
use Rattle.history.specs.declared.entry.Entry.{Entry}
use Rattle.history.specs.declared.entry.Entry.TheVariants as of
use Rattle.history.specs.declared.entry.Stretch.{Stretch}
use Rattle.history.specs.Spelling.{call_number}
use Rattle.history.proofs.SubhistoryLaws.{half_rank}

-- words at the end leave those of a stretch as they are
words_at-append : (words more : List ℕ) (place : Stretch) → HasWithin (length words) place → words_at (words ++ more) place ≡ words_at words place
words_at-append words more place within =
    let before : place.first ≤ length words = omega (arith, within.0) in
    let enough : place.count ≤ length (drop place.first words) = omega (arith, within.0, length-drop place.first words) in
    ap (λ (ws : List ℕ). record { items = ws })
    (ap (λ ws. take place.count ws) (drop-append-le place.first words more before) ∙ take-append-le place.count (drop place.first words) more enough)

-- they leave the event of an entry as it is
event_of-append : (words more : List ℕ) (number : ℕ) (entry : Entry) → HasWords (length words) entry
    → event_of (words ++ more) number entry ≡ event_of words number entry
event_of-append words more number (of.Called cpu function count first) has =
    ap (λ (ws : ArrayVec ℕ). seen.Called cpu number (record { function = function; words = ws }))
    (words_at-append words more (stretch first count) has)
event_of-append words more number (of.Answered cpu count first) has =
    ap (λ (ws : ArrayVec ℕ). seen.Returned cpu number (reply.Ok ws)) (words_at-append words more (stretch first count) has)
event_of-append words more number (of.Refused cpu status index) has = refl
event_of-append words more number (of.Misplaced cpu) has = refl

events_after-append : (had : ℕ → ℕ) (words more : List ℕ) (entries : List Entry) → AllByRecursion (HasWords (length words)) entries
    → events_after had (words ++ more) entries ≡ events_after had words entries
events_after-append had words more [] each = refl
events_after-append had words more (entry ∷ entries) each =
    let first = event_of-append words more (had (entry_cpu entry) / 2) entry each.0 in
    let rest = events_after-append (put had (entry_cpu entry) (had (entry_cpu entry) + 1)) words more entries each.1 in
    cc (first, rest)

-- there is an event for each entry
length-events_after : (had : ℕ → ℕ) (words : List ℕ) (entries : List Entry) → length (events_after had words entries) ≡ length entries
length-events_after had words [] = refl
length-events_after had words (entry ∷ entries) =
    omega (arith, length-events_after (put had (entry_cpu entry) (had (entry_cpu entry) + 1)) words entries)

pub length-events_in : (words : List ℕ) (entries : List Entry) → length (events_in words entries) ≡ length entries
length-events_in words entries = length-events_after (λ cpu. 0) words entries

pub cpu_of-event_of : (words : List ℕ) (number : ℕ) (entry : Entry) → cpu_of (event_of words number entry) ≡ entry_cpu entry
cpu_of-event_of words number (of.Called cpu function count first) = refl
cpu_of-event_of words number (of.Answered cpu count first) = refl
cpu_of-event_of words number (of.Refused cpu status index) = refl
cpu_of-event_of words number (of.Misplaced cpu) = refl

-- an event at the front is one more that its CPU had
counted-front : (had : ℕ → ℕ) (cpu of_entry : ℕ) (event : Event) (events : List Event) → cpu_of event ≡ of_entry
    → put had of_entry (had of_entry + 1) cpu + length (subhistory_of cpu events) ≡ had cpu + length (subhistory_of cpu (event ∷ events))
counted-front had cpu of_entry event events is =
    ⊎_elim
    (λ (same : cpu ≡ of_entry).
    let longer = subhistory_of-same cpu event events (is ∙ sym same) in
    let here : put had of_entry (had of_entry + 1) cpu ≡ had cpu + 1 =
    ap (λ b. if b then had of_entry + 1 else had cpu) (eq-eqb cpu of_entry same) ∙ ap (λ c. had c + 1) (sym same) in
    omega (arith, here, ap length longer))
    (λ (other : cpu ≡ of_entry → ⊥).
    let as_long = subhistory_of-other cpu event events (ne_eqb (cpu_of event) cpu (λ e. other (sym e ∙ is))) in
    let there : put had of_entry (had of_entry + 1) cpu ≡ had cpu = ap (λ b. if b then had of_entry + 1 else had cpu) (ne_eqb cpu of_entry other) in
    omega (arith, there, ap length as_long))
    (cases_eq cpu of_entry)

-- the last entry's number is told by how many events its CPU has before it
events_after-push : (had : ℕ → ℕ) (words : List ℕ) (entries : List Entry) (entry : Entry) → events_after had words (entries ++ entry ∷ [])
    ≡ events_after had words entries
    ++ event_of words ((had (entry_cpu entry) + length (subhistory_of (entry_cpu entry) (events_after had words entries))) / 2) entry ∷ []
events_after-push had words [] entry =
    ap (λ (n : ℕ). event_of words (n / 2) entry ∷ []) (let none : had (entry_cpu entry) ≡ had (entry_cpu entry) + 0 = omega arith in none)
events_after-push had words (first ∷ entries) entry =
    let event = event_of words (had (entry_cpu first) / 2) first in
    let next = put had (entry_cpu first) (had (entry_cpu first) + 1) in
    let counted = counted-front had (entry_cpu entry) (entry_cpu first) event
    (events_after next words entries) (cpu_of-event_of words (had (entry_cpu first) / 2) first) in
    ap (λ es. event ∷ es) (events_after-push next words entries entry)
    ∙ ap (λ (n : ℕ). event ∷ (events_after next words entries ++ event_of words (n / 2) entry ∷ [])) counted

-- more words leave each entry its own
HasWords-more : (count more : ℕ) (entry : Entry) → HasWords count entry → HasWords (count + more) entry
HasWords-more size more (of.Called cpu function count first) has = (omega (arith, has.0), has.1)
HasWords-more size more (of.Answered cpu count first) has = (omega (arith, has.0), has.1)
HasWords-more size more (of.Refused cpu status index) has = tt
HasWords-more size more (of.Misplaced cpu) has = tt

-- the entries are held after one more event was of
pub IsHeld-stored : (words new_words : List ℕ) (entries new_entries : List Entry) (event : Event) → IsHeld words entries
    → HasStored words entries new_words new_entries event → IsHeld new_words new_entries
IsHeld-stored words new_words entries new_entries event held stored =
    let is_entered = stored.is_entered in
    let longer : length new_words ≡ length words + length is_entered.more = ap length is_entered.appended ∙ length-append words is_entered.more in
    let one_more : length new_entries ≡ length entries + 1 = ap length stored.is_last ∙ length-append entries (stored.entry ∷ []) in
    record {
      each = subst (AllByRecursion (HasWords (length new_words))) (sym stored.is_last)
          (AllByRecursion-append (HasWords (length new_words)) entries (stored.entry ∷ [])
          (subst (λ count. AllByRecursion (HasWords count) entries) (sym longer)
          (each-weaker (HasWords (length words)) (HasWords (length words + length is_entered.more))
          (HasWords-more (length words) (length is_entered.more)) entries held.each))
          (is_entered.has_words, tt));
      few_words = omega (arith, held.few_words, longer, one_more, is_entered.few);
    }

-- the events after one more was of, which is its CPU's next
pub events_in-stored : (words new_words : List ℕ) (entries new_entries : List Entry) (event : Event) → IsHeld words entries
    → HasStored words entries new_words new_entries event → rank event ≡ length (subhistory_of (cpu_of event) (events_in words entries))
    → events_in new_words new_entries ≡ events_in words entries ++ event ∷ []
events_in-stored words new_words entries new_entries event held stored ranked =
    let is_entered = stored.is_entered in
    let entry = stored.entry in
    let same_events : events_in new_words entries ≡ events_in words entries =
    ap (λ ws. events_in ws entries) is_entered.appended ∙ events_after-append (λ cpu. 0) words is_entered.more entries held.each in
    let same_cpu : entry_cpu entry ≡ cpu_of event = sym (cpu_of-event_of new_words (call_number event) entry) ∙ ap cpu_of is_entered.is_event in
    let counted : 0 + length (subhistory_of (entry_cpu entry) (events_in new_words entries)) ≡ rank event =
    omega (
      arith,
      ap (λ c. length (subhistory_of c (events_in new_words entries))) same_cpu,
      ap (λ es. length (subhistory_of (cpu_of event) es)) same_events,
      ranked,
    ) in
    let number : (0 + length (subhistory_of (entry_cpu entry) (events_in new_words entries))) / 2 ≡ call_number event =
    ap (λ n. n / 2) counted ∙ half_rank event in
    ap (events_in new_words) stored.is_last ∙ events_after-push (λ cpu. 0) new_words entries entry
    ∙ ap (λ (n : ℕ). events_in new_words entries ++ event_of new_words n entry ∷ []) number
    ∙ ap (λ e. events_in new_words entries ++ e ∷ []) is_entered.is_event
    ∙ ap (λ es. es ++ event ∷ []) same_events

-- an entry at a place stands for the event there, of some number
slice_get-events_after : (had : ℕ → ℕ) (words : List ℕ) (entries : List Entry) (place : ℕ) (found : Entry) → slice_get entries place ≡ Some found
    → (number : ℕ) × (slice_get (events_after had words entries) place ≡ Some (event_of words number found))
slice_get-events_after had words [] place found is = absurd (none-some found is)
slice_get-events_after had words (entry ∷ entries) zero found is =
    let number = had (entry_cpu entry) / 2 in
    (number, ap (λ (e : Entry). Some (event_of words number e)) (same_Some entry found is))
slice_get-events_after had words (entry ∷ entries) (suc place) found is =
    slice_get-events_after (put had (entry_cpu entry) (had (entry_cpu entry) + 1)) words entries place found is

pub IfNone_then : {X : Type 0} (found : Option X) {P Q : Type 0} → IfNone found P → (P → Q) → IfNone found Q
IfNone_then None holds f = f holds
IfNone_then (Some x) holds f = tt

HasWords-slice_get : (size : ℕ) (entries : List Entry) (place : ℕ) (found : Entry)
    → AllByRecursion (HasWords size) entries → slice_get entries place ≡ Some found
    → HasWords size found
HasWords-slice_get size [] place found each is = absurd (none-some found is)
HasWords-slice_get size (entry ∷ entries) zero found each is = subst (HasWords size) (same_Some entry found is) each.0
HasWords-slice_get size (entry ∷ entries) (suc place) found each is = HasWords-slice_get size entries place found each.1 is

-- an entry that stands at a place
pub record IsEntryAt (words : List ℕ) (events : List Event) (place : ℕ) (found : Entry) : Type 0 where
  pub has_words : HasWords (length words) found
  pub number : ℕ
  pub is_event : slice_get events place ≡ Some (event_of words number found)

-- there is an entry at each place of an event
pub within_entries : {Z : Type 0} (words : List ℕ) (entries : Vec Entry Z) (events : List Event) (place : ℕ) → events_in words entries.items ≡ events
    → place < length events → place < vec_len entries
within_entries words entries events place events_are within =
    omega (arith, within, ap length events_are, length-events_in words entries.items, entries.ok.0)

pub IsEntryAt-read : (words : List ℕ) (entries : List Entry) (events : List Event) (place : ℕ) (found : Entry) → IsHeld words entries
    → events_in words entries ≡ events → place < length events → found ≡ get_or entries place found → IsEntryAt words events place found
IsEntryAt-read words entries events place found held events_are within is_found =
    let within_entries : place < length entries = omega (arith, within, ap length events_are, length-events_in words entries) in
    let read = slice_get_read entries (length entries) place found refl within_entries is_found in
    let at = slice_get-events_after (λ cpu. 0) words entries place found read in
    record {
      has_words = HasWords-slice_get (length words) entries place found held.each read;
      number = at.0;
      is_event = ap (λ es. slice_get es place) (sym events_are) ∙ at.1;
    }

call_number-event_of : (words : List ℕ) (number : ℕ) (entry : Entry) → call_number (event_of words number entry) ≡ number
call_number-event_of words number (of.Called cpu function count first) = refl
call_number-event_of words number (of.Answered cpu count first) = refl
call_number-event_of words number (of.Refused cpu status index) = refl
call_number-event_of words number (of.Misplaced cpu) = refl

-- its event with the number that the event there has
pub event_of-numbered : (words : List ℕ) (events : List Event) (place number : ℕ) (found : Entry) → IsEntryAt words events place found
    → ((event : Event) → slice_get events place ≡ Some event → call_number event ≡ number)
    → slice_get events place ≡ Some (event_of words number found)
event_of-numbered words events place number found at numbered =
    let same : at.number ≡ number = sym (call_number-event_of words at.number found) ∙ numbered (event_of words at.number found) at.is_event in
    at.is_event ∙ ap (λ (n : ℕ). Some (event_of words n found)) same

-- An entry that is no call's stands for no call.
pub event_of-no_call : (words : List ℕ) (of_call : ℕ) (found : Entry)
    → ((cpu : ℕ) (function : FunctionId) (count first : ℕ) → found ≡ of.Called cpu function count first → ⊥)
    → (cpu number : ℕ) (command : Command) → event_of words of_call found ≡ seen.Called cpu number command → ⊥
event_of-no_call words of_call (of.Called cpu function count first) not_called = λ _ _ _ _. not_called cpu function count first refl
event_of-no_call words of_call (of.Answered cpu count first) not_called = λ c n command is_called. absurd (cc)
event_of-no_call words of_call (of.Refused cpu status index) not_called = λ c n command is_called. absurd (cc)
event_of-no_call words of_call (of.Misplaced cpu) not_called = λ c n command is_called. absurd (cc)

-- an event that may be recorded has no more words than an entry
pub few_words : (cpus : ℕ) (event : Event) → IsEvent cpus event → HasFewWords event
few_words cpus (seen.Called cpu number command) is = omega (arith, is.1.counted, word_count-le command.function)
few_words cpus (seen.Returned cpu number (reply.Ok words)) is = is.1.0
few_words cpus (seen.Returned cpu number (reply.Err status index)) is = tt
few_words cpus (seen.Returned cpu number reply.Misplaced) is = tt
