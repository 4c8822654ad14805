-- Laws on the index, one event longer.
use Rattle.std.proofs.Common.{◌≡◌, ℕ, ◌+◌, ◌/◌, ◌<◌, ◌≤◌, Bool, true, false, eqb, List, [], ◌∷◌, ◌++◌, length, get_or, set, Option, Some, None, if◌then◌else◌, refl, arith, sym, ap, ◌∙◌, subst, ⊎_elim}
use Rattle.std.specs.Prelude.{slice_get, is_some, IsSome, IsTrue, MatchOption, ◌↔◌}
use Rattle.std.proofs.lemmas.Bool.{cases_Bool, cases_lt, cases_order, cases_eq, eqb-true, eq-eqb}
use Rattle.std.proofs.lemmas.Option.{same_Some}
use Rattle.std.proofs.lemmas.List.{length_push, get_or_push, get_or_append_left, get_or-set_same, get_or-set_other, length-set, take_at}
use Rattle.rmm_spec.specs.declared.command.Command.{Command}
use Rattle.rmm_spec.specs.declared.event.Event.{Event}
use Rattle.rmm_spec.specs.declared.event.Event.TheVariants.{Called, Returned}
use Rattle.rmm_spec.specs.declared.reply.Reply.{Reply}
use Rattle.rmm_spec.specs.HistoryText.{Config, IsHistory, CanFollow, Stand, start, stand_after, stand_from, subhistory_of, cpu_of, IsRecord, rank}
use Rattle.rmm_spec.specs.Linearization.{IsCalled, IsReturned, IsKnown, IsFinished}
use Rattle.spec_lemmas.proofs.Places.{open_count, stand_of_record, rank-slice_get, length-stand_from, length-subhistory_of-lt, length-subhistory_of-take, one_place, below-IsKnown, below-IsFinished, cpu_below}
use Rattle.spec_lemmas.proofs.Records.{subhistory_of-push_same, subhistory_of-push_other, stand_from-push_at, IsHistory-push}
use Rattle.history.specs.declared.subhistory.Subhistory.{Subhistory}
use Rattle.history.specs.Calls.{ArePlacesOf}
use Rattle.history.specs.Spelling.{call_number}
use Rattle.history.specs.Index.{HasRank, IsSubhistory, IsIndexed}
use Rattle.lemmas.proofs.Elements.{slice_get-append, slice_get-push}

-- ---- which event is a CPU's next

-- where a stand leads, by its two parts
can_step : (next : ℕ) (is_open : Bool) (event : Event) → rank event + open_count is_open ≡ next + next
    → IsSome (stand_after (record { next = next; is_open = is_open }) event)
can_step next true (Called cpu number command) ranked = absurd (let e : number + number + 1 ≡ next + next = ranked in omega (arith, e))
can_step next false (Called cpu number command) ranked =
    let e : number + number + 0 ≡ next + next = ranked in
    let same : number ≡ next = omega (arith, e) in
    ap (λ b. is_some {T = Stand} (if b then Some (record { next = next + 1; is_open = true }) else None)) (eq-eqb number next same)
can_step next true (Returned cpu number given) ranked =
    let e : number + number + 1 + 1 ≡ next + next = ranked in
    let same : number + 1 ≡ next = omega (arith, e) in
    ap (λ b. is_some {T = Stand} (if b then Some (record { next = next; is_open = false }) else None)) (eq-eqb (number + 1) next same)
can_step next false (Returned cpu number given) ranked = absurd (let e : number + number + 1 + 0 ≡ next + next = ranked in omega (arith, e))

-- an event whose rank is the count of its CPU's events is next
pub goes_on : (events : List Event) (event : Event)
    → IsRecord (subhistory_of (cpu_of event) events) → rank event ≡ length (subhistory_of (cpu_of event) events)
    → IsRecord (subhistory_of (cpu_of event) (events ++ event ∷ []))
goes_on events event is_record ranked =
    let last = stand_of_record (subhistory_of (cpu_of event) events) is_record in
    let counted : length (subhistory_of (cpu_of event) events) + (0 + 0) + open_count last.0.is_open ≡ last.0.next + last.0.next + 0 =
    length-stand_from start (subhistory_of (cpu_of event) events) last.0 last.1 in
    let leads : stand_from start (subhistory_of (cpu_of event) (events ++ event ∷ [])) ≡ stand_after last.0 event =
    ap (λ (es : List Event). stand_from start es) (subhistory_of-push_same (cpu_of event) events event refl)
    ∙ stand_from-push_at (subhistory_of (cpu_of event) events) event last.0 last.1 in
    ap (λ (o : Option Stand). is_some o) leads ∙ can_step last.0.next last.0.is_open event (omega (arith, ranked, counted))

-- and no other is
pub next_rank : (events : List Event) (event : Event) → IsRecord (subhistory_of (cpu_of event) (events ++ event ∷ []))
    → rank event ≡ length (subhistory_of (cpu_of event) events)
next_rank events event is_record =
    rank-slice_get (cpu_of event) (events ++ event ∷ []) (length events) event is_record (slice_get-push events event) refl
    ∙ ap (λ (es : List Event). length (subhistory_of (cpu_of event) es)) (take_at events (event ∷ []) (length events) refl)

-- ---- a subhistory

-- the places of a subhistory, after a push
old_places : (P : ℕ → ℕ → Type 0) (places : List ℕ) (place : ℕ) → ((n : ℕ) → n < length places → P n (get_or places n 0)) → P (length places) place
    → (n : ℕ) → n < length (places ++ place ∷ []) → P n (get_or (places ++ place ∷ []) n 0)
old_places P places place each here n within =
    let longer : length (places ++ place ∷ []) ≡ length places + 1 = length_push places place in
    ⊎_elim
    (λ (same : n ≡ length places).
    subst (λ k. P k (get_or (places ++ place ∷ []) k 0)) (sym same)
    (subst (P (length places)) (sym (get_or_push places place 0 (length places) refl)) here))
    (⊎_elim
    (λ (below : n < length places). subst (P n) (sym (get_or_append_left places (place ∷ []) 0 n below)) (each n below))
    (λ (above : length places < n). absurd (omega arith)))
    (cases_order n (length places))

same_places : (P : ℕ → ℕ → Type 0) (places more : List ℕ) → more ≡ places → ((n : ℕ) → n < length places → P n (get_or places n 0))
    → (n : ℕ) → n < length more → P n (get_or more n 0)
same_places P places more same each = subst (λ xs. (n : ℕ) → n < length xs → P n (get_or xs n 0)) (sym same) each

-- another event takes no place away
HasRank-push : (events : List Event) (event : Event) (cpu ranked place : ℕ)
    → HasRank events cpu ranked place → HasRank (events ++ event ∷ []) cpu ranked place
HasRank-push events event cpu ranked place had = record {
  event = had.event;
  is_event = slice_get-append events (event ∷ []) place had.event had.is_event;
  of_cpu = had.of_cpu;
  is_ranked = had.is_ranked;
}

-- a subhistory with the same places
pub IsSubhistory-same : (events : List Event) (cpu : ℕ) (old new : Subhistory)
    → new.places.items ≡ old.places.items → IsSubhistory events cpu old → IsSubhistory events cpu new
IsSubhistory-same events cpu old new same had = record {
  counted = ap length same ∙ had.counted;
  each = same_places (HasRank events cpu) old.places.items new.places.items same had.each;
}

-- an event of another CPU
IsSubhistory-other : (events : List Event) (event : Event) (cpu : ℕ) (subhistory : Subhistory)
    → eqb (cpu_of event) cpu ≡ false → IsSubhistory events cpu subhistory → IsSubhistory (events ++ event ∷ []) cpu subhistory
IsSubhistory-other events event cpu subhistory other had = record {
  counted = had.counted ∙ ap length (sym (subhistory_of-push_other cpu events event other));
  each = λ n within. HasRank-push events event cpu n (get_or subhistory.places.items n 0) (had.each n within);
}

-- the CPU's next event, entered
IsSubhistory-enters : (events : List Event) (event : Event) (cpu : ℕ) (old new : Subhistory)
    → cpu_of event ≡ cpu → rank event ≡ length old.places.items
    → new.places.items ≡ old.places.items ++ length events ∷ [] → IsSubhistory events cpu old → IsSubhistory (events ++ event ∷ []) cpu new
IsSubhistory-enters events event cpu old new same ranked entered had = record {
  counted = ap length entered ∙ length_push old.places.items (length events) ∙ ap (λ n. n + 1) had.counted
      ∙ sym (ap length (subhistory_of-push_same cpu events event same) ∙ length_push (subhistory_of cpu events) event);
  each = same_places (HasRank (events ++ event ∷ []) cpu) (old.places.items ++ length events ∷ []) new.places.items entered
      (old_places (HasRank (events ++ event ∷ []) cpu) old.places.items (length events)
      (λ n within. HasRank-push events event cpu n (get_or old.places.items n 0) (had.each n within))
      (record { event = event; is_event = slice_get-push events event; of_cpu = same; is_ranked = ranked }));
}

-- the subhistory's test says whether the record goes on
pub continues_iff : (cpus : ℕ) (events : List Event) (event : Event) (subhistory : Subhistory) (answer : Bool) → cpu_of event < cpus
    → IsRecord (subhistory_of (cpu_of event) events) → IsSubhistory events (cpu_of event) subhistory
    → IsTrue answer ↔ (rank event ≡ length subhistory.places.items)
    → IsTrue answer ↔ ((cpu_of event < cpus) × IsRecord (subhistory_of (cpu_of event) (events ++ event ∷ [])))
continues_iff cpus events event subhistory answer below is_record had says = (
  λ taken. (below, goes_on events event is_record (says.0 taken ∙ had.counted)),
  λ both. says.1 (next_rank events event both.1 ∙ sym had.counted),
)

-- ---- the index

-- the CPU of an event that can follow has a subhistory
pub has_subhistory : (config : Config) (events : List Event) (subhistories : List Subhistory) (event : Event) → IsIndexed config events subhistories
    → CanFollow (record { config = config; events = events }) event → cpu_of event < 8
has_subhistory config events subhistories event indexed can_follow =
    let history = indexed.is_history in
    let limits = history.config in
    omega (arith, cpu_below config.cpus event can_follow.is_event, limits.most_cpus)

pub subhistory_within : (config : Config) (events : List Event) (subhistories : List Subhistory) (event : Event) (cpu : ℕ)
    → IsIndexed config events subhistories → CanFollow (record { config = config; events = events }) event → cpu ≡ cpu_of event
    → cpu < length subhistories
subhistory_within config events subhistories event cpu indexed can_follow same =
    omega (arith, same, indexed.counted, has_subhistory config events subhistories event indexed can_follow)

-- the index with subhistories that have the same places
pub IsIndexed-same : (config : Config) (events : List Event) (old new : List Subhistory) → length new ≡ 8
    → ((cpu : ℕ) (other : Subhistory) → cpu < 8 → (get_or new cpu other).places.items ≡ (get_or old cpu other).places.items)
    → IsIndexed config events old → IsIndexed config events new
IsIndexed-same config events old new counted same indexed = record {
  is_history = indexed.is_history;
  counted = counted;
  each = λ cpu other within. IsSubhistory-same events cpu (get_or old cpu other)
      (get_or new cpu other) (same cpu other within) (indexed.each cpu other within);
}

-- the index with another subhistory for a CPU
IsIndexed-set : (config : Config) (events more : List Event) (subhistories : List Subhistory) (at : ℕ) (new : Subhistory)
    → IsHistory (record { config = config; events = more })
    → length subhistories ≡ 8 → at < 8 → IsSubhistory more at new
    → ((cpu : ℕ) (other : Subhistory) → cpu < 8 → (cpu ≡ at → ⊥) → IsSubhistory more cpu (get_or subhistories cpu other))
    → IsIndexed config more (set subhistories at new)
IsIndexed-set config events more subhistories at new is_history counted within_subhistories subhistory others = record {
  is_history = is_history;
  counted = length-set subhistories at new ∙ counted;
  each = λ cpu other within. ⊎_elim
      (λ (here : cpu ≡ at).
      subst (λ k. IsSubhistory more k (get_or (set subhistories at new) k other)) (sym here)
      (subst (IsSubhistory more at) (sym (get_or-set_same subhistories at new other (omega (arith, counted)))) subhistory))
      (λ (elsewhere : cpu ≡ at → ⊥).
      subst (IsSubhistory more cpu) (sym (get_or-set_other subhistories at cpu new other elsewhere)) (others cpu other within elsewhere))
      (cases_eq cpu at);
}

-- the index where the subhistory's growth was refused
pub IsIndexed-refused : (config : Config) (events : List Event) (subhistories : List Subhistory) (at : ℕ) (other new : Subhistory)
    → IsIndexed config events subhistories → at < 8
    → new.places.items ≡ (get_or subhistories at other).places.items → IsIndexed config events (set subhistories at new)
IsIndexed-refused config events subhistories at other new indexed within same =
    IsIndexed-set config events events subhistories at new indexed.is_history indexed.counted within
    (IsSubhistory-same events at (get_or subhistories at other) new same (indexed.each at other within))
    (λ cpu another below elsewhere. indexed.each cpu another below)

-- the index where the event was recorded
pub IsIndexed-push : (config : Config) (events : List Event) (subhistories : List Subhistory) (event : Event) (other new : Subhistory)
    → IsIndexed config events subhistories
    → CanFollow (record { config = config; events = events }) event → length events + 1 < 1000000
    → new.places.items ≡ (get_or subhistories (cpu_of event) other).places.items ++ length events ∷ []
    → IsIndexed config (events ++ event ∷ []) (set subhistories (cpu_of event) new)
IsIndexed-push config events subhistories event other new indexed can_follow room entered =
    let within = has_subhistory config events subhistories event indexed can_follow in
    let had = indexed.each (cpu_of event) other within in
    IsIndexed-set config events (events ++ event ∷ []) subhistories (cpu_of event) new
    (IsHistory-push (record { config = config; events = events }) event indexed.is_history can_follow room) indexed.counted within
    (IsSubhistory-enters events event (cpu_of event) (get_or subhistories (cpu_of event) other) new refl
    (next_rank events event can_follow.record_goes_on ∙ sym had.counted) entered had)
    (λ cpu another below elsewhere.
    IsSubhistory-other events event cpu (get_or subhistories cpu another)
    (⊎_elim (λ (same : eqb (cpu_of event) cpu ≡ true). absurd (elsewhere (sym (eqb-true (cpu_of event) cpu same))))
    (λ (differ : eqb (cpu_of event) cpu ≡ false). differ) (cases_Bool (eqb (cpu_of event) cpu)))
    (indexed.each cpu another below))

-- ---- look-ups

-- a call past the places isn't known, and one whose return is past them is pending
pub unknown_past : (events : List Event) (cpu number : ℕ) (subhistory : Subhistory)
    → IsSubhistory events cpu subhistory → IsRecord (subhistory_of cpu events)
    → length subhistory.places.items ≤ number + number → IsKnown events cpu number → ⊥
unknown_past events cpu number subhistory had is_record past known = omega (arith, below-IsKnown cpu number events is_record known, had.counted)

pending_past : (events : List Event) (cpu number : ℕ) (subhistory : Subhistory)
    → IsSubhistory events cpu subhistory → IsRecord (subhistory_of cpu events)
    → length subhistory.places.items ≤ number + number + 1 → IsFinished events cpu number → ⊥
pending_past events cpu number subhistory had is_record past finished =
    omega (arith, below-IsFinished cpu number events is_record finished, had.counted)

-- the place that a subhistory has for a rank
rank_at : (events : List Event) (cpu ranked place : ℕ) (subhistory : Subhistory)
    → IsSubhistory events cpu subhistory → ranked < length subhistory.places.items
    → place ≡ get_or subhistory.places.items ranked 0 → HasRank events cpu ranked place
rank_at events cpu ranked place subhistory had within is_place = subst (HasRank events cpu ranked) (sym is_place) (had.each ranked within)

-- the event of a call's rank is that call, and the event of a return's rank its return
call_at : (events : List Event) (cpu number place : ℕ) → HasRank events cpu (number + number) place
    → (command : Command) × IsCalled events place cpu number command
call_at events cpu number place has = of_event has.event has.is_event has.of_cpu has.is_ranked
  where
    of_event : (event : Event) → slice_get events place ≡ Some event → cpu_of event ≡ cpu → rank event ≡ number + number
        → (command : Command) × IsCalled events place cpu number command
    of_event (Called c n command) is_event same ranked =
        let number_is : n ≡ number = omega (arith, ranked) in
        (command, is_event ∙ ap (λ (x : ℕ). Some (Called x n command)) same ∙ ap (λ (x : ℕ). Some (Called cpu x command)) number_is)
    of_event (Returned c n given) is_event same ranked = absurd (omega (arith, ranked))

return_at : (events : List Event) (cpu number place : ℕ) → HasRank events cpu (number + number + 1) place
    → (given : Reply) × IsReturned events place cpu number given
return_at events cpu number place has = of_event has.event has.is_event has.of_cpu has.is_ranked
  where
    of_event : (event : Event) → slice_get events place ≡ Some event → cpu_of event ≡ cpu → rank event ≡ number + number + 1
        → (given : Reply) × IsReturned events place cpu number given
    of_event (Called c n command) is_event same ranked = absurd (omega (arith, ranked))
    of_event (Returned c n given) is_event same ranked =
        let number_is : n ≡ number = omega (arith, ranked) in
        (given, is_event ∙ ap (λ (x : ℕ). Some (Returned x n given)) same ∙ ap (λ (x : ℕ). Some (Returned cpu x given)) number_is)

-- the places of a CPU's events rise
pub places-rise : (events : List Event) (cpu : ℕ) (subhistory : Subhistory) → IsSubhistory events cpu subhistory → IsRecord (subhistory_of cpu events)
    → (i j : ℕ) → i ≤ j → j < length subhistory.places.items → get_or subhistory.places.items i 0 ≤ get_or subhistory.places.items j 0
places-rise events cpu subhistory had is_record i j order within =
    let before : i < length subhistory.places.items = omega (arith, order, within) in
    let first = had.each i before in
    let last = had.each j within in
    let first_place = get_or subhistory.places.items i 0 in
    let last_place = get_or subhistory.places.items j 0 in
    ⊎_elim
    (λ (falls : last_place < first_place).
    absurd (omega (
      arith,
      order,
      rank-slice_get cpu events first_place first.event is_record first.is_event first.of_cpu,
      first.is_ranked,
      rank-slice_get cpu events last_place last.event is_record last.is_event last.of_cpu,
      last.is_ranked,
      length-subhistory_of-lt cpu events last_place first_place last.event last.is_event last.of_cpu falls,
    )))
    (λ (rises : first_place ≤ last_place). rises)
    (cases_lt last_place first_place)

-- the place of each of its events is among them
pub place_of_event : (events : List Event) (cpu place : ℕ) (event : Event) (subhistory : Subhistory) → IsSubhistory events cpu subhistory
    → IsRecord (subhistory_of cpu events) → slice_get events place ≡ Some event → cpu_of event ≡ cpu
    → (ranked : ℕ) × (ranked < length subhistory.places.items) × (get_or subhistory.places.items ranked 0 ≡ place)
place_of_event events cpu place event subhistory had is_record is_event of_cpu =
    let within : rank event < length subhistory.places.items =
    omega (
      arith,
      rank-slice_get cpu events place event is_record is_event of_cpu,
      length-subhistory_of-take cpu events place event is_event of_cpu,
      had.counted,
    ) in
    let found = had.each (rank event) within in (
      rank event,
      within,
      one_place cpu events (get_or subhistory.places.items (rank event) 0)
          place found.event event is_record found.is_event is_event found.of_cpu of_cpu
          found.is_ranked,
    )

-- half of an event's rank is the number of its call
pub half_rank : (event : Event) → rank event / 2 ≡ call_number event
half_rank (Called cpu number command) = omega arith
half_rank (Returned cpu number given) = omega arith

pub call_number-ranked : (events : List Event) (cpu ranked place : ℕ) (event : Event)
    → HasRank events cpu ranked place → slice_get events place ≡ Some event
    → call_number event ≡ ranked / 2
call_number-ranked events cpu ranked place event has is_event =
    let same : has.event ≡ event = same_Some has.event event (sym has.is_event ∙ is_event) in
    sym (half_rank event) ∙ ap (λ (n : ℕ). n / 2) (ap rank (sym same) ∙ has.is_ranked)

-- what a subhistory has for the ranks of a call and of its return are their places
pub ArePlacesOf-subhistory : (events : List Event) (cpu number : ℕ) (subhistory : Subhistory) (called : ℕ) (returned : Option ℕ)
    → IsSubhistory events cpu subhistory → IsRecord (subhistory_of cpu events)
    → number + number < length subhistory.places.items → called ≡ get_or subhistory.places.items (number + number) 0
    → MatchOption returned (length subhistory.places.items ≤ number + number + 1)
    (λ place. (number + number + 1 < length subhistory.places.items) × (place ≡ get_or subhistory.places.items (number + number + 1) 0))
    → ArePlacesOf events cpu number (record { called = called; returned = returned })
ArePlacesOf-subhistory events cpu number subhistory called returned had is_record within is_called is_returned = record {
  called = call_at events cpu number called (rank_at events cpu (number + number) called subhistory had within is_called);
  returned = of_return returned is_returned;
}
  where
    of_return : (place : Option ℕ)
        → MatchOption place (length subhistory.places.items ≤ number + number + 1)
        (λ at. (number + number + 1 < length subhistory.places.items) × (at ≡ get_or subhistory.places.items (number + number + 1) 0))
        → MatchOption place (¬ IsFinished events cpu number) (λ at. (given : Reply) × IsReturned events at cpu number given)
    of_return None past = pending_past events cpu number subhistory had is_record past
    of_return (Some at) is = return_at events cpu number at (rank_at events cpu (number + number + 1) at subhistory had is.0 is.1)
