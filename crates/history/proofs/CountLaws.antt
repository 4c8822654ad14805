-- The events of each CPU, counted along a history up to an entry.
use Rattle.std.proofs.Common.{◌≡◌, ℕ, ◌+◌, ◌/◌, ◌<◌, List, [], ◌∷◌, ◌++◌, length, get_or, set, take, Some, sym, ap, ◌∙◌, arith, ⊎_elim, add-one, ◌==◌}
use Rattle.std.specs.Prelude.{slice_get}
use Rattle.std.proofs.Math.Seq.{take-suc}
use Rattle.std.proofs.lemmas.Bool.{cases_eq, ne_eqb}
use Rattle.std.proofs.lemmas.Option.{same_Some, slice_get_within, get_or_from_slice_get}
use Rattle.std.proofs.lemmas.List.{length_push, length-set, get_or-set_same, get_or-set_other}
use Rattle.std.proofs.lemmas.List.Sums.{length-filter, count_by-le-length}
use Rattle.rmm_spec.specs.HistoryText.{History, IsHistory, cpu_of, rank, subhistory_of}
use Rattle.spec_lemmas.proofs.Places.{IsEvent-slice_get, rank-slice_get, length-subhistory_of-take, cpu_below}
use Rattle.spec_lemmas.proofs.Records.{subhistory_of-push_same, subhistory_of-push_other}
use Rattle.history.specs.Counts.{AreCounts}
use Rattle.history.specs.Entry.{entry_cpu, event_of}
use Rattle.history.specs.declared.entry.Entry.{Entry}
use Rattle.history.proofs.EntryLaws.{IsEntryAt, cpu_of-event_of, event_of-numbered}
use Rattle.history.proofs.SubhistoryLaws.{half_rank}

-- an entry is of a CPU that a machine can have
pub cpu_within : (history : History) (words : List ℕ) (place : ℕ) (found : Entry) → IsHistory history → IsEntryAt words history.events place found
    → entry_cpu found < 8
cpu_within history words place found is_history at =
    let event = event_of words at.number found in
    let limits = is_history.config in
    omega (
      arith,
      cpu_below history.config.cpus event (IsEvent-slice_get history.config.cpus history.events place event is_history.events at.is_event),
      cpu_of-event_of words at.number found,
      limits.most_cpus,
    )

-- the count of its CPU is the rank of its event
count_before : (history : History) (words : List ℕ) (place : ℕ) (found : Entry) (counts : List ℕ) → IsHistory history
    → (at : IsEntryAt words history.events place found) → AreCounts counts (take place history.events)
    → get_or counts (entry_cpu found) 0 ≡ rank (event_of words at.number found)
count_before history words place found counts is_history at had =
    had.each (entry_cpu found) 0 (cpu_within history words place found is_history at)
    ∙ sym (rank-slice_get (entry_cpu found) history.events place (event_of words at.number found) (is_history.records (entry_cpu found)) at.is_event
    (cpu_of-event_of words at.number found))

pub count_few : (history : History) (words : List ℕ) (place : ℕ) (found : Entry) (counts : List ℕ)
    → IsHistory history → IsEntryAt words history.events place found
    → AreCounts counts (take place history.events) → get_or counts (entry_cpu found) 0 < 1000000
count_few history words place found counts is_history at had =
    let few = is_history.lines in
    let cpu = entry_cpu found in
    omega (
      arith,
      few,
      had.each cpu 0 (cpu_within history words place found is_history at),
      length-subhistory_of-take cpu history.events place (event_of words at.number found) at.is_event (cpu_of-event_of words at.number found),
      length-filter (λ event. cpu_of event == cpu) history.events,
      count_by-le-length (λ event. cpu_of event == cpu) history.events,
    )

-- and tells the number of its call
pub event_counted : (history : History) (words : List ℕ) (place : ℕ) (found : Entry) (counts : List ℕ) → IsHistory history
    → IsEntryAt words history.events place found → AreCounts counts (take place history.events)
    → slice_get history.events place ≡ Some (event_of words (get_or counts (entry_cpu found) 0 / 2) found)
event_counted history words place found counts is_history at had =
    event_of-numbered words history.events place (get_or counts (entry_cpu found) 0 / 2) found at (λ event is_event.
    let same : event_of words at.number found ≡ event = same_Some (event_of words at.number found) event (sym at.is_event ∙ is_event) in
    sym (half_rank event) ∙ ap (λ (n : ℕ). n / 2) (ap rank (sym same) ∙ sym (count_before history words place found counts is_history at had)))

-- with it its CPU has one more
pub AreCounts-next : (history : History) (words : List ℕ) (place : ℕ) (found : Entry) (counts : List ℕ) → IsHistory history
    → IsEntryAt words history.events place found → AreCounts counts (take place history.events)
    → AreCounts (set counts (entry_cpu found) (get_or counts (entry_cpu found) 0 + 1)) (take (place + 1) history.events)
AreCounts-next history words place found counts is_history at had =
    let events = history.events in
    let event = event_of words at.number found in
    let of_cpu = cpu_of-event_of words at.number found in
    let below = cpu_within history words place found is_history at in
    let more = get_or counts (entry_cpu found) 0 + 1 in
    let next : take (place + 1) events ≡ take place events ++ event ∷ [] =
    ap (λ n. take n events) (add-one place) ∙ take-suc events place event (slice_get_within events place event at.is_event)
    ∙ ap (λ e. take place events ++ e ∷ []) (get_or_from_slice_get events place event event at.is_event) in
    record {
      counted = length-set counts (entry_cpu found) more ∙ had.counted;
      each = λ cpu other within. ⊎_elim
          (λ (same : cpu ≡ entry_cpu found).
          let inside : entry_cpu found < length counts = omega (arith, below, had.counted) in
          ap (λ k. get_or (set counts (entry_cpu found) more) k other) same ∙ get_or-set_same counts (entry_cpu found) more other inside
          ∙ ap (λ k. get_or counts k 0 + 1) (sym same) ∙ ap (λ n. n + 1) (had.each cpu 0 within)
          ∙ sym (ap (λ es. length (subhistory_of cpu es)) next ∙ ap length (subhistory_of-push_same cpu (take place events) event (of_cpu ∙ sym same))
          ∙ length_push (subhistory_of cpu (take place events)) event))
          (λ (elsewhere : cpu ≡ entry_cpu found → ⊥).
          get_or-set_other counts (entry_cpu found) cpu more other elsewhere ∙ had.each cpu other within
          ∙ sym (ap (λ es. length (subhistory_of cpu es)) next
          ∙ ap length (subhistory_of-push_other cpu (take place events) event (ne_eqb (cpu_of event) cpu (λ e. elsewhere (sym e ∙ of_cpu))))))
          (cases_eq cpu (entry_cpu found));
    }
