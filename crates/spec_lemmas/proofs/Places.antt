-- Laws on the places of a history's calls and returns.
use Rattle.std.proofs.Common.{◌≡◌, ℕ, zero, suc, ◌+◌, ◌<◌, Bool, true, false, cond, eqb, List, [], ◌∷◌, length, take, Option, Some, None, refl, arith, ap, ◌∙◌, ◌⊎◌, inl, inr, subst, ⊎_elim}
use Rattle.std.specs.Prelude.{slice_get, IsSome, not, ◌&&◌}
use Rattle.std.specs.List.{AllByRecursion}
use Rattle.std.proofs.lemmas.Bool.{and_parts, not-true, eqb-true, eq-eqb, cases_Bool, cases_order, false≢true}
use Rattle.std.proofs.lemmas.Option.{cond_some, none-some, same_Some, option_and_then_some, slice_get_within}
use Rattle.std.proofs.lemmas.List.{take_all}
use Rattle.rmm_spec.specs.declared.command.Command.{Command}
use Rattle.rmm_spec.specs.declared.reply.Reply.{Reply}
use Rattle.rmm_spec.specs.declared.event.Event.{Event}
use Rattle.rmm_spec.specs.declared.event.Event.TheVariants.{Called, Returned}
use Rattle.rmm_spec.specs.CommandText.{IsCommand}
use Rattle.rmm_spec.specs.HistoryText.{History, IsHistory, IsEvent, Stand, start, stand_after, stand_from, subhistory_of, cpu_of, IsRecord, rank}
use Rattle.rmm_spec.specs.Linearization.{IsCalled, IsReturned, IsKnown, IsFinished}

abbrev pub open_count : Bool → ℕ
open_count is_open = cond is_open 1 0

-- where a call is made, and where it leads
pub stand-called : (old : Stand) (cpu number : ℕ) (command : Command) (new : Stand) → stand_after old (Called cpu number command) ≡ Some new
    → (old.is_open ≡ false) × (number ≡ old.next) × (record { next = old.next + 1; is_open = true } ≡ new)
stand-called old cpu number command new is_new =
    let made = cond_some (not old.is_open && eqb number old.next) (record { next = old.next + 1; is_open = true }) new is_new in
    let parts = and_parts (not old.is_open) (eqb number old.next) made.0 in
    (not-true old.is_open parts.0, eqb-true number old.next parts.1, made.1)

-- where a call returns, and where it leads
pub stand-returned : (old : Stand) (cpu number : ℕ) (given : Reply) (new : Stand) → stand_after old (Returned cpu number given) ≡ Some new
    → (old.is_open ≡ true) × (number + 1 ≡ old.next) × (record { next = old.next; is_open = false } ≡ new)
stand-returned old cpu number given new is_new =
    let made = cond_some (old.is_open && eqb (number + 1) old.next) (record { next = old.next; is_open = false }) new is_new in
    let parts = and_parts old.is_open (eqb (number + 1) old.next) made.0 in
    (parts.0, eqb-true (number + 1) old.next parts.1, made.1)

-- one step, by the event's rank
pub record IsRankedStep (old : Stand) (event : Event) (new : Stand) : Type 0 where
  pub ranked : rank event + open_count old.is_open ≡ old.next + old.next
  pub counted : new.next + new.next + open_count old.is_open ≡ old.next + old.next + open_count new.is_open + 1

pub IsRankedStep-stand_after : (old : Stand) (event : Event) (new : Stand) → stand_after old event ≡ Some new → IsRankedStep old event new
IsRankedStep-stand_after old (Called cpu number command) new is_new =
    let made = stand-called old cpu number command new is_new in
    let is_open : open_count old.is_open ≡ 0 = ap open_count made.0 in
    let next : old.next + 1 ≡ new.next = ap (λ (s : Stand). s.next) made.2 in
    let opens : 1 ≡ open_count new.is_open = ap (λ (s : Stand). open_count s.is_open) made.2 in
    record { ranked = omega (arith, made.1); counted = omega arith }
IsRankedStep-stand_after old (Returned cpu number given) new is_new =
    let made = stand-returned old cpu number given new is_new in
    let is_open : open_count old.is_open ≡ 1 = ap open_count made.0 in
    let next : old.next ≡ new.next = ap (λ (s : Stand). s.next) made.2 in
    let opens : 0 ≡ open_count new.is_open = ap (λ (s : Stand). open_count s.is_open) made.2 in
    record { ranked = omega (arith, made.1); counted = omega arith }

-- the first of some events that lead from one stand to another
pub first_step : {P : Type 0} (old : Stand) (event : Event) (events : List Event) (last : Stand) → stand_from old (event ∷ events) ≡ Some last
    → ((new : Stand) → stand_after old event ≡ Some new → stand_from new events ≡ Some last → P) → P
first_step old event events last leads k = option_and_then_some (λ next. stand_from next events) (stand_after old event) last leads k

-- how many events lead from one stand to another
pub length-stand_from : (old : Stand) (events : List Event) (last : Stand) → stand_from old events ≡ Some last
    → length events + (old.next + old.next) + open_count last.is_open ≡ last.next + last.next + open_count old.is_open
length-stand_from old [] last leads =
    let same : old ≡ last = same_Some old last leads in
    let next : old.next ≡ last.next = ap (λ (s : Stand). s.next) same in
    let opens : open_count old.is_open ≡ open_count last.is_open = ap (λ (s : Stand). open_count s.is_open) same in
    omega arith
length-stand_from old (event ∷ events) last leads =
    first_step old event events last leads (λ new is_new rest.
    let step = IsRankedStep-stand_after old event new is_new in
    let more : length events + (new.next + new.next) + open_count last.is_open ≡ last.next + last.next + open_count new.is_open =
    length-stand_from new events last rest in
    omega (arith, step.counted))

-- the events of a CPU, one event longer at the front
pub subhistory_of-same : (cpu : ℕ) (event : Event) (events : List Event)
    → cpu_of event ≡ cpu → subhistory_of cpu (event ∷ events) ≡ event ∷ subhistory_of cpu events
subhistory_of-same cpu event events same = rw (eq-eqb (cpu_of event) cpu same) refl

pub subhistory_of-other : (cpu : ℕ) (event : Event) (events : List Event)
    → eqb (cpu_of event) cpu ≡ false → subhistory_of cpu (event ∷ events) ≡ subhistory_of cpu events
subhistory_of-other cpu event events other = rw other refl

-- where some events of a CPU stand, and its event at a place
pub record Ranked (old : Stand) (cpu : ℕ) (events : List Event) (place : ℕ) (event : Event) : Type 0 where
  pub ranked : rank event + open_count old.is_open ≡ length (subhistory_of cpu (take place events)) + (old.next + old.next)

-- the rank of an event is the count of its CPU's events before it
pub Ranked-slice_get : (old : Stand) (cpu : ℕ) (events : List Event) (last : Stand) (place : ℕ) (event : Event)
    → stand_from old (subhistory_of cpu events) ≡ Some last → slice_get events place ≡ Some event
    → cpu_of event ≡ cpu → Ranked old cpu events place event
Ranked-slice_get old cpu [] last place event leads is_event same = absurd (none-some event is_event)
Ranked-slice_get old cpu (first ∷ events) last zero event leads is_event same =
    let is_first : first ≡ event = same_Some first event is_event in
    let same_cpu : cpu_of first ≡ cpu = ap cpu_of is_first ∙ same in
    let all : stand_from old (first ∷ subhistory_of cpu events) ≡ Some last = rw (subhistory_of-same cpu first events same_cpu) at leads in
    first_step old first (subhistory_of cpu events) last all (λ new is_new rest.
    let step = IsRankedStep-stand_after old first new is_new in
    let e : rank first ≡ rank event = ap rank is_first in
    record { ranked = omega (arith, step.ranked) })
Ranked-slice_get old cpu (first ∷ events) last (suc place) event leads is_event same =
    elim (cases_Bool (eqb (cpu_of first) cpu)) [
      | inl is_same ↦
          let same_cpu : cpu_of first ≡ cpu = eqb-true (cpu_of first) cpu is_same in
          let all : stand_from old (first ∷ subhistory_of cpu events) ≡ Some last = rw (subhistory_of-same cpu first events same_cpu) at leads in
          first_step old first (subhistory_of cpu events) last all (λ new is_new rest.
          let step = IsRankedStep-stand_after old first new is_new in
          let later : Ranked new cpu events place event = Ranked-slice_get new cpu events last place event rest is_event same in
          let longer : length (subhistory_of cpu (first ∷ take place events)) ≡ length (subhistory_of cpu (take place events)) + 1 =
          ap length (subhistory_of-same cpu first (take place events) same_cpu) ∙ omega arith in
          record { ranked = omega (arith, step.counted, later.ranked, longer) })
      | inr is_other ↦
          let all : stand_from old (subhistory_of cpu events) ≡ Some last = rw (subhistory_of-other cpu first events is_other) at leads in
          let later : Ranked old cpu events place event = Ranked-slice_get old cpu events last place event all is_event same in
          let as_long : length (subhistory_of cpu (first ∷ take place events)) ≡ length (subhistory_of cpu (take place events)) =
          ap length (subhistory_of-other cpu first (take place events) is_other) in
          record { ranked = omega (arith, later.ranked, as_long) }
    ]

-- the stand that a record leads to
pub stand_of_record : (events : List Event) → IsRecord events → (last : Stand) × (stand_from start events ≡ Some last)
stand_of_record events is_record = value_of (stand_from start events) is_record
  where
    value_of : (o : Option Stand) → IsSome o → (last : Stand) × (o ≡ Some last)
    value_of None is_some = absurd (false≢true is_some)
    value_of (Some last) is_some = (last, refl)

-- the same from the start
pub rank-slice_get : (cpu : ℕ) (events : List Event) (place : ℕ) (event : Event)
    → IsRecord (subhistory_of cpu events) → slice_get events place ≡ Some event
    → cpu_of event ≡ cpu → rank event ≡ length (subhistory_of cpu (take place events))
rank-slice_get cpu events place event is_record is_event same =
    let stand = stand_of_record (subhistory_of cpu events) is_record in
    let ranked : Ranked start cpu events place event = Ranked-slice_get start cpu events stand.0 place event stand.1 is_event same in
    omega (arith, ranked.ranked)

-- an event of a CPU makes that CPU's part longer for every later place
pub length-subhistory_of-lt : (cpu : ℕ) (events : List Event) (place later : ℕ) (event : Event)
    → slice_get events place ≡ Some event → cpu_of event ≡ cpu → place < later
    → length (subhistory_of cpu (take place events)) < length (subhistory_of cpu (take later events))
length-subhistory_of-lt cpu [] place later event is_event same before = absurd (none-some event is_event)
length-subhistory_of-lt cpu (first ∷ events) place zero event is_event same before = absurd (omega arith)
length-subhistory_of-lt cpu (first ∷ events) zero (suc later) event is_event same before =
    let same_cpu : cpu_of first ≡ cpu = ap cpu_of (same_Some first event is_event) ∙ same in
    let longer : length (subhistory_of cpu (first ∷ take later events)) ≡ length (subhistory_of cpu (take later events)) + 1 =
    ap length (subhistory_of-same cpu first (take later events) same_cpu) ∙ omega arith in
    omega (arith, longer)
length-subhistory_of-lt cpu (first ∷ events) (suc place) (suc later) event is_event same before =
    let rest : length (subhistory_of cpu (take place events)) < length (subhistory_of cpu (take later events)) =
    length-subhistory_of-lt cpu events place later event is_event same (omega arith) in
    elim (cases_Bool (eqb (cpu_of first) cpu)) [
      | inl is_same ↦
          let same_cpu : cpu_of first ≡ cpu = eqb-true (cpu_of first) cpu is_same in
          rw (subhistory_of-same cpu first (take place events) same_cpu, subhistory_of-same cpu first (take later events) same_cpu) (omega arith)
      | inr is_other ↦
          rw (subhistory_of-other cpu first (take place events) is_other, subhistory_of-other cpu first (take later events) is_other) rest
    ]

-- so that it is within the CPU's part
pub length-subhistory_of-take : (cpu : ℕ) (events : List Event) (place : ℕ) (event : Event)
    → slice_get events place ≡ Some event → cpu_of event ≡ cpu → length (subhistory_of cpu (take place events)) < length (subhistory_of cpu events)
length-subhistory_of-take cpu events place event is_event same =
    let all : length (subhistory_of cpu (take place events)) < length (subhistory_of cpu (take (length events) events)) =
    length-subhistory_of-lt cpu events place (length events) event is_event same (slice_get_within events place event is_event) in
    let whole : length (subhistory_of cpu (take (length events) events)) ≡ length (subhistory_of cpu events) =
    ap (λ (es : List Event). length (subhistory_of cpu es)) (take_all (length events) events (omega arith)) in
    omega (arith, all, whole)

-- a CPU's event that has so many of its events before it
pub record HasPlace (cpu : ℕ) (events : List Event) (count : ℕ) : Type 0 where
  pub place : ℕ
  pub event : Event
  pub is_event : slice_get events place ≡ Some event
  pub same : cpu_of event ≡ cpu
  pub counted : length (subhistory_of cpu (take place events)) ≡ count

-- each event of a CPU's part has its place
pub HasPlace-subhistory_of : (cpu : ℕ) (events : List Event) (count : ℕ) → count < length (subhistory_of cpu events) → HasPlace cpu events count
HasPlace-subhistory_of cpu [] count within = absurd (omega arith)
HasPlace-subhistory_of cpu (first ∷ events) count within =
    HasPlace-step (cases_Bool (eqb (cpu_of first) cpu)) count within (HasPlace-subhistory_of cpu events)
  where
    HasPlace-step : (eqb (cpu_of first) cpu ≡ true) ⊎ (eqb (cpu_of first) cpu ≡ false) → (n : ℕ) → n < length (subhistory_of cpu (first ∷ events))
        → ((k : ℕ) → k < length (subhistory_of cpu events) → HasPlace cpu events k) → HasPlace cpu (first ∷ events) n
    HasPlace-step (inl is_same) zero below rest = record {
      place = 0;
      event = first;
      is_event = refl;
      same = eqb-true (cpu_of first) cpu is_same;
      counted = refl;
    }
    HasPlace-step (inl is_same) (suc n) below rest =
        let same_cpu : cpu_of first ≡ cpu = eqb-true (cpu_of first) cpu is_same in
        let longer : length (subhistory_of cpu (first ∷ events)) ≡ length (subhistory_of cpu events) + 1 =
        ap length (subhistory_of-same cpu first events same_cpu) ∙ omega arith in
        let later : HasPlace cpu events n = rest n (omega (arith, longer, below)) in
        let more : length (subhistory_of cpu (first ∷ take later.place events)) ≡ length (subhistory_of cpu (take later.place events)) + 1 =
        ap length (subhistory_of-same cpu first (take later.place events) same_cpu) ∙ omega arith in
        record {
          place = suc later.place;
          event = later.event;
          is_event = later.is_event;
          same = later.same;
          counted = omega (arith, more, later.counted);
        }
    HasPlace-step (inr is_other) n below rest =
        let as_long : length (subhistory_of cpu (first ∷ events)) ≡ length (subhistory_of cpu events) =
        ap length (subhistory_of-other cpu first events is_other) in
        let later : HasPlace cpu events n = rest n (omega (arith, as_long, below)) in
        let more : length (subhistory_of cpu (first ∷ take later.place events)) ≡ length (subhistory_of cpu (take later.place events)) =
        ap length (subhistory_of-other cpu first (take later.place events) is_other) in
        record { place = suc later.place; event = later.event; is_event = later.is_event; same = later.same; counted = more ∙ later.counted }

-- two events of a CPU's record with one rank are one
pub one_place : (cpu : ℕ) (events : List Event) (place other : ℕ) (event other_event : Event) → IsRecord (subhistory_of cpu events)
    → slice_get events place ≡ Some event → slice_get events other ≡ Some other_event → cpu_of event ≡ cpu → cpu_of other_event ≡ cpu
    → rank event ≡ rank other_event → place ≡ other
one_place cpu events place other event other_event is_record is_event is_other same other_same ranks =
    let here : rank event ≡ length (subhistory_of cpu (take place events)) = rank-slice_get cpu events place event is_record is_event same in
    let there : rank other_event ≡ length (subhistory_of cpu (take other events)) =
    rank-slice_get cpu events other other_event is_record is_other other_same in
    ⊎_elim (λ (e : place ≡ other). e)
    (⊎_elim
    (λ (before : place < other).
    absurd (omega (arith, here, there, ranks, length-subhistory_of-lt cpu events place other event is_event same before)))
    (λ (before : other < place).
    absurd (omega (arith, here, there, ranks, length-subhistory_of-lt cpu events other place other_event is_other other_same before))))
    (cases_order place other)

-- a call is made at one place
pub one_call_place : (cpu number : ℕ) (events : List Event) (place other : ℕ) (command other_command : Command) → IsRecord (subhistory_of cpu events)
    → IsCalled events place cpu number command → IsCalled events other cpu number other_command → place ≡ other
one_call_place cpu number events place other command other_command is_record is_called is_other =
    one_place cpu events place other (Called cpu number command) (Called cpu number other_command) is_record is_called is_other refl refl refl

-- a call returns at one place
pub one_return_place : (cpu number : ℕ) (events : List Event) (place other : ℕ) (given other_given : Reply) → IsRecord (subhistory_of cpu events)
    → IsReturned events place cpu number given → IsReturned events other cpu number other_given → place ≡ other
one_return_place cpu number events place other given other_given is_record is_returned is_other =
    one_place cpu events place other (Returned cpu number given) (Returned cpu number other_given) is_record is_returned is_other refl refl refl

-- a call within the first half of the ranks is known
pub IsKnown-below : (cpu number : ℕ) (events : List Event) → IsRecord (subhistory_of cpu events) → number + number < length (subhistory_of cpu events)
    → IsKnown events cpu number
IsKnown-below cpu number events is_record within = known (HasPlace-subhistory_of cpu events (number + number) within)
  where
    known : HasPlace cpu events (number + number) → IsKnown events cpu number
    known found = named found.event found.is_event found.same
        (rank-slice_get cpu events found.place found.event is_record found.is_event found.same ∙ found.counted)
      where
        named : (event : Event) → slice_get events found.place ≡ Some event
            → cpu_of event ≡ cpu → rank event ≡ number + number → IsKnown events cpu number
        named (Called c n command) is_event same ranked =
            let number_is : n ≡ number = omega arith in
            (found.place, command, is_event ∙ ap (λ (x : ℕ). Some (Called x n command)) same ∙ ap (λ (x : ℕ). Some (Called cpu x command)) number_is)
        named (Returned c n given) is_event same ranked = absurd (omega arith)

pub IsFinished-below : (cpu number : ℕ) (events : List Event)
    → IsRecord (subhistory_of cpu events) → number + number + 1 < length (subhistory_of cpu events)
    → IsFinished events cpu number
IsFinished-below cpu number events is_record within = finished (HasPlace-subhistory_of cpu events (number + number + 1) within)
  where
    finished : HasPlace cpu events (number + number + 1) → IsFinished events cpu number
    finished found = named found.event found.is_event found.same
        (rank-slice_get cpu events found.place found.event is_record found.is_event found.same ∙ found.counted)
      where
        named : (event : Event) → slice_get events found.place ≡ Some event → cpu_of event ≡ cpu
            → rank event ≡ number + number + 1 → IsFinished events cpu number
        named (Called c n command) is_event same ranked = absurd (omega arith)
        named (Returned c n given) is_event same ranked =
            let number_is : n ≡ number = omega arith in
            (found.place, given, is_event ∙ ap (λ (x : ℕ). Some (Returned x n given)) same ∙ ap (λ (x : ℕ). Some (Returned cpu x given)) number_is)

-- and no other
pub below-IsKnown : (cpu number : ℕ) (events : List Event) → IsRecord (subhistory_of cpu events) → IsKnown events cpu number
    → number + number < length (subhistory_of cpu events)
below-IsKnown cpu number events is_record known =
    let ranked : number + number ≡ length (subhistory_of cpu (take known.0 events)) =
    rank-slice_get cpu events known.0 (Called cpu number known.1) is_record known.2 refl in
    omega (arith, ranked, length-subhistory_of-take cpu events known.0 (Called cpu number known.1) known.2 refl)

pub below-IsFinished : (cpu number : ℕ) (events : List Event) → IsRecord (subhistory_of cpu events) → IsFinished events cpu number
    → number + number + 1 < length (subhistory_of cpu events)
below-IsFinished cpu number events is_record finished =
    let ranked : number + number + 1 ≡ length (subhistory_of cpu (take finished.0 events)) =
    rank-slice_get cpu events finished.0 (Returned cpu number finished.1) is_record finished.2 refl in
    omega (arith, ranked, length-subhistory_of-take cpu events finished.0 (Returned cpu number finished.1) finished.2 refl)

-- a call that returns was made
pub finished_is_known : (cpu number : ℕ) (events : List Event)
    → IsRecord (subhistory_of cpu events) → IsFinished events cpu number → IsKnown events cpu number
finished_is_known cpu number events is_record finished =
    IsKnown-below cpu number events is_record (let within = below-IsFinished cpu number events is_record finished in omega (arith, within))

-- each event of a history is of one of its CPUs, and has a text
pub IsEvent-slice_get : (cpus : ℕ) (events : List Event) (place : ℕ) (event : Event) → AllByRecursion (IsEvent cpus) events
    → slice_get events place ≡ Some event → IsEvent cpus event
IsEvent-slice_get cpus [] place event each is_event = absurd (none-some event is_event)
IsEvent-slice_get cpus (first ∷ events) zero event each is_event = subst (IsEvent cpus) (same_Some first event is_event) each.0
IsEvent-slice_get cpus (first ∷ events) (suc place) event each is_event = IsEvent-slice_get cpus events place event each.1 is_event

pub call_is_event : (history : History) (place cpu number : ℕ) (command : Command) → IsHistory history
    → IsCalled history.events place cpu number command → (cpu < history.config.cpus) × IsCommand command
call_is_event history place cpu number command is_history is_called =
    IsEvent-slice_get history.config.cpus history.events place (Called cpu number command) is_history.events is_called

-- an event that has a text is of one of the CPUs
pub cpu_below : (cpus : ℕ) (event : Event) → IsEvent cpus event → cpu_of event < cpus
cpu_below cpus (Called cpu number command) is_event = is_event.0
cpu_below cpus (Returned cpu number given) is_event = is_event.0
