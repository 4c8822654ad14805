-- What one more line makes of a table, and of a text that has its events.
use Rattle.std.proofs.Common.{◌≡◌, ◌≢◌, ℕ, ◌+◌, ◌<◌, List, [], ◌∷◌, ◌++◌, ◌⊎◌, length, Option, Some, None, true, false, refl, sym, ap, ◌∙◌, subst, arith, ⊎_elim, append_assoc}
use Rattle.std.specs.Prelude.{slice_get, IsSome, is_some, option_map}
use Rattle.std.proofs.lemmas.Bool.{cases_eq}
use Rattle.std.proofs.lemmas.Option.{none-some}
use Rattle.std.proofs.lemmas.List.{length_push}
use Rattle.rmm_spec.specs.Text.{HasNoNewline, IsBadLine, parts_of}
use Rattle.merging.specs.Events.{Recorded, Recording, IsRecordingText, InRecordings}
use Rattle.merging.specs.Faults.{IsTableOf, BeginsWith, RepeatsStamp, IsFaultOf}
use Rattle.merging.specs.SeenEvents.{IsLineOf, IsNoLine, IsSizesOf}
use Rattle.merging.specs.Table.{Happened, Table, slot_at, happened, ArePlaced, IsPut}
use Rattle.merging.specs.declared.event_fault.EventsFault.TheVariants.{NoMemory}
use Rattle.merging.proofs.GrammarLaws.{begun, pushed, bad_line, line_too_many, unfinished_line}
use Rattle.lemmas.proofs.Elements.{slice_get-append, slice_get-push, slice_get-push_cases}

-- one more event is placed where none was
pub ArePlaced-put : (events : List Recorded) (event : Recorded) (count : ℕ) (slots new : List (Option Happened))
    → ArePlaced events slots → count ≡ length events
    → IsPut slots new event.stamp (record { line = count + 2; cpu = event.cpu; moment = event.moment })
    → ArePlaced (events ++ event ∷ []) new
ArePlaced-put events event count slots new placed counted put =
    let own : slot_at new event.stamp ≡ Some (happened (length events) event) =
    put.here ∙ ap (λ (n : ℕ). Some (record { line = n + 2; cpu = event.cpu; moment = event.moment })) counted in
    record {
      each_event = λ place e is.
          ⊎_elim
          (λ (earlier : slice_get events place ≡ Some e).
          let known = placed.each_event place e earlier in
          put.others e.stamp (λ same. none-some (happened place e) (sym put.free ∙ ap (slot_at slots) (sym same) ∙ known)) ∙ known)
          (λ (last : (place ≡ length events) × (event ≡ e)).
          subst (λ (f : Recorded). slot_at new f.stamp ≡ Some (happened place f)) last.1
          (own ∙ ap (λ (n : ℕ). Some (happened n event)) (sym last.0)))
          (slice_get-push_cases events event place e is);
      each_slot = λ stamp slot is.
          ⊎_elim
          (λ (same : stamp ≡ event.stamp).
          let e : Some slot ≡ Some (happened (length events) event) = sym is ∙ ap (slot_at new) same ∙ own in
          record {
            place = length events;
            event = event;
            is_event = slice_get-push events event;
            is_stamp = sym same;
            is_slot = (let f : slot ≡ happened (length events) event = cc in f);
          })
          (λ (other : stamp ≢ event.stamp).
          let of_event = placed.each_slot stamp slot (sym (put.others stamp other) ∙ is) in
          record {
            place = of_event.place;
            event = of_event.event;
            is_event = slice_get-append events (event ∷ []) of_event.place of_event.event of_event.is_event;
            is_stamp = of_event.is_stamp;
            is_slot = of_event.is_slot;
          })
          (cases_eq stamp event.stamp);
      no_more = λ last is_last.
          ⊎_elim
          (λ (same : last ≡ event.stamp). subst IsSome (sym (ap (slot_at new) same ∙ own)) refl)
          (λ (other : last ≢ event.stamp). subst IsSome (sym (put.others last other)) (placed.no_more last (put.no_more last is_last other)))
          (cases_eq last event.stamp);
    }

-- the texts of a line and of what comes after it
pub regroup : (front bytes more : List ℕ) → front ++ (bytes ++ 10 ∷ more) ≡ (front ++ (bytes ++ 10 ∷ [])) ++ more
regroup front bytes more = sym (append_assoc front (bytes ++ 10 ∷ []) more ∙ ap (λ bs. front ++ bs) (append_assoc bytes (10 ∷ []) more))

module _ (front bytes : List ℕ) (table : Table) (event : Recorded) (of_text : IsTableOf front table) (of_line : IsLineOf (parts_of bytes) event)
    (room : table.count < 2000000) where
  events : List Recorded
  events = of_text.events ++ event ∷ []

  text_is : IsRecordingText (front ++ (bytes ++ 10 ∷ []))
      (record { granules = table.granules; cpus = table.cpus; events = of_text.events ++ event ∷ [] })
  text_is = pushed table.granules table.cpus of_text.events event front bytes of_text.is_recording of_line (omega (arith, of_text.counted))

  pub IsTableOf-put : (new : List (Option Happened))
      → IsPut table.slots new event.stamp (record { line = table.count + 2; cpu = event.cpu; moment = event.moment })
      → IsTableOf (front ++ (bytes ++ 10 ∷ [])) (record { granules = table.granules; cpus = table.cpus; count = table.count + 1; slots = new })
  IsTableOf-put new put = record {
    events = of_text.events ++ event ∷ [];
    is_recording = text_is;
    counted = omega (arith, of_text.counted, length_push of_text.events event);
    are_placed = ArePlaced-put of_text.events event table.count table.slots new of_text.are_placed of_text.counted put;
  }

  begins : (more : List ℕ)
      → BeginsWith (front ++ (bytes ++ 10 ∷ more)) (record { granules = table.granules; cpus = table.cpus; events = of_text.events ++ event ∷ [] })
  begins more = record {
    more = more;
    is_recording = text_is.is_recording;
    is_text = regroup front bytes more ∙ ap (λ t. t ++ more) text_is.is_text;
  }

  pub no_memory : (more : List ℕ) → IsFaultOf (front ++ (bytes ++ 10 ∷ more)) NoMemory
  no_memory more = (
    record { granules = table.granules; cpus = table.cpus; events = of_text.events ++ event ∷ [] },
    (let some : 0 < length (of_text.events ++ event ∷ []) = omega (arith, length_push of_text.events event) in some),
    begins more,
  )

  pub repeats : (more : List ℕ) → IsSome (slot_at table.slots event.stamp) → RepeatsStamp (front ++ (bytes ++ 10 ∷ more)) (table.count + 2)
  repeats more taken = earlier (slot_at table.slots event.stamp) refl taken
    where
      earlier : (found : Option Happened)
          → slot_at table.slots event.stamp ≡ found → IsSome found → RepeatsStamp (front ++ (bytes ++ 10 ∷ more)) (table.count + 2)
      earlier None is some = absurd cc
      earlier (Some slot) is some =
          let of_event = of_text.are_placed.each_slot event.stamp slot is in
          record {
            granules = table.granules;
            cpus = table.cpus;
            before = of_text.events;
            event = event;
            begins = begins more;
            is_line = ap (λ n. n + 2) of_text.counted;
            place = of_event.place;
            other = of_event.event;
            is_other = of_event.is_event;
            same_stamp = of_event.is_stamp;
          }

-- ---- bad lines, counted by the table

module _ (front : List ℕ) (table : Table) (of_text : IsTableOf front table) where
  recording : Recording
  recording = record { granules = table.granules; cpus = table.cpus; events = of_text.events }

  at_number : (text : List ℕ) → IsBadLine InRecordings text (length of_text.events + 2) → IsBadLine InRecordings text (table.count + 2)
  at_number text bad = subst (λ n. IsBadLine InRecordings text (n + 2)) (sym of_text.counted) bad

  pub too_many : (bytes more : List ℕ) → table.count ≡ 2000000 → IsBadLine InRecordings (front ++ (bytes ++ 10 ∷ more)) (table.count + 2)
  unfolding recording
  too_many bytes more full = at_number _ (line_too_many recording front bytes more of_text.is_recording (sym of_text.counted ∙ full))

  pub bad : (bytes more : List ℕ) → HasNoNewline bytes → IsNoLine (parts_of bytes)
      → IsBadLine InRecordings (front ++ (bytes ++ 10 ∷ more)) (table.count + 2)
  unfolding recording
  bad bytes more none no_line = at_number _ (bad_line recording front bytes more of_text.is_recording none no_line)

  pub unfinished : (rest : List ℕ) → HasNoNewline rest → rest ≢ [] → IsBadLine InRecordings (front ++ rest) (table.count + 2)
  unfolding recording
  unfinished rest none some = at_number _ (unfinished_line recording front rest of_text.is_recording none some)

-- what is seen somewhere is known there
pub seen_known : {A B : Type 0} (f : A → B) (found : Option A) (known : Option B) → option_map f found ≡ known → is_some found ≡ true → IsSome known
seen_known f None known is some = absurd cc
seen_known f (Some x) known is some = subst IsSome is refl

pub not_seen_known : {A B : Type 0} (f : A → B) (found : Option A) (known : Option B)
    → option_map f found ≡ known → is_some found ≡ false → known ≡ None
not_seen_known f None known is none = sym is
not_seen_known f (Some x) known is none = absurd cc

-- the text of a header, with no event yet
pub IsTableOf-begun : (granules cpus : ℕ) (front : List ℕ) → IsSizesOf (parts_of front) granules cpus
    → IsTableOf (front ++ 10 ∷ []) (record { granules = granules; cpus = cpus; count = 0; slots = [] })
IsTableOf-begun granules cpus front of_sizes = record {
  events = [];
  is_recording = begun granules cpus front of_sizes;
  counted = refl;
  are_placed = record {
    each_event = λ place event is. absurd (none-some event is);
    each_slot = λ stamp slot is. absurd (none-some slot is);
    no_more = λ last is. absurd (omega (arith, is));
  };
}
