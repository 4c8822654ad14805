-- The certificate of a world: its lines have texts, and there are no more of them than events.
use Rattle.std.proofs.Common.{◌≡◌, ℕ, suc, ◌<◌, ◌≤◌, Bool, true, false, ◌||◌, ◌==◌, eqb, if◌then◌else◌, List, [], ◌∷◌, map, length, Some, slice_get, refl, sym, ap, ◌∙◌, subst, arith, eqb-true}
use Rattle.std.specs.List.{AllByRecursion, IsDistinct, list_any}
use Rattle.std.proofs.lemmas.Bool.{false≢true}
use Rattle.std.proofs.lemmas.Option.{same_Some, slice_get_within}
use Rattle.std.proofs.lemmas.List.{length-map}
use Rattle.std.proofs.lemmas.List.Sums.{length-filter, count_by-le-length}
use Rattle.std.proofs.lemmas.Map.Steps.{length-le_from_distinct_below}
use Rattle.rmm_spec.specs.declared.event.Event.{Event}
use Rattle.rmm_spec.specs.declared.event.Event.TheVariants.{Called}
use Rattle.rmm_spec.specs.declared.line.Line.TheVariants.{Keep, Unfinished}
use Rattle.rmm_spec.specs.CommandText.{IsReply}
use Rattle.rmm_spec.specs.HistoryText.{IsConfig, IsHistory, start, stand_from, cpu_of, subhistory_of}
use Rattle.rmm_spec.specs.CertificateText.{IsLine, IsCertificate}
use Rattle.rmm_spec.specs.Linearization.{IsCalled}
use Rattle.rmm_spec.specs.World.{World, Commitment, is_return_of, line_for, certificate_of, history_of}
use Rattle.spec_lemmas.proofs.Places.{below-IsKnown, call_is_event}
use Rattle.world_laws.proofs.Recorded.{AreRecorded, IsAccounted}
use Rattle.world_laws.proofs.Written.{IsWritten, IsSome-AtStand}

-- ---- places of calls

-- the commits' calls, each at a place of its own
record HavePlaces (events : List Event) (commits : List Commitment) : Type 0 where
  places : List ℕ
  counted : length places ≡ length commits
  distinct : IsDistinct eqb places
  called : (place : ℕ) → list_any (eqb place) places ≡ true
      → (i : ℕ) × (c : Commitment) × (slice_get commits i ≡ Some c) × IsCalled events place c.cpu c.number c.command

-- no two commits are of one call
abbrev AreApart : List Commitment → Type 0
AreApart commits =
    (i j : ℕ) (c d : Commitment) → i < j → slice_get commits i ≡ Some c → slice_get commits j ≡ Some d → c.cpu ≡ d.cpu → c.number ≡ d.number → ⊥

-- a number that no test finds is none of them
absent : (place : ℕ) (places : List ℕ) → (list_any (eqb place) places ≡ true → ⊥) → AllByRecursion (λ other. eqb place other ≡ false) places
absent place [] none = tt
absent place (other ∷ places) none = by (eqb place other) refl (absent place places) none
  where
    by : (b : Bool) → eqb place other ≡ b
        → ((list_any (eqb place) places ≡ true → ⊥) → AllByRecursion (λ o. eqb place o ≡ false) places)
        → ((b || list_any (eqb place) places) ≡ true → ⊥)
        → (eqb place other ≡ false) × AllByRecursion (λ o. eqb place o ≡ false) places
    by true is rest never = absurd (never refl)
    by false is rest never = (is, rest never)

-- the place of a call names its CPU and number
same_call : (events : List Event) (place : ℕ) (c d : Commitment)
    → IsCalled events place c.cpu c.number c.command → IsCalled events place d.cpu d.number d.command
    → (c.cpu ≡ d.cpu) × (c.number ≡ d.number)
same_call events place c d is_c is_d =
    parts (same_Some (Called c.cpu c.number c.command) (Called d.cpu d.number d.command) (sym is_c ∙ is_d))
  where
    parts : Called c.cpu c.number c.command ≡ Called d.cpu d.number d.command → (c.cpu ≡ d.cpu) × (c.number ≡ d.number)
    parts same = (cc, cc)

-- one call more, at another place
HavePlaces-more : (events : List Event) (c : Commitment) (commits : List Commitment) (place : ℕ) → IsCalled events place c.cpu c.number c.command
    → AreApart (c ∷ commits) → HavePlaces events commits → HavePlaces events (c ∷ commits)
unfolding IsDistinct
HavePlaces-more events c commits place is_called apart rest = record {
  places = place ∷ rest.places;
  counted = ap suc rest.counted;
  distinct = (
    absent place rest.places (λ any.
        let other = rest.called place any in
        let same = same_call events place c other.1 is_called other.3 in
        apart 0 (suc other.0) c other.1 (omega arith) refl other.2 same.0 same.1),
    rest.distinct,
  );
  called = λ other any. by other (eqb other place) refl any;
}
  where
    by : (other : ℕ) (b : Bool) → eqb other place ≡ b → (b || list_any (eqb other) rest.places) ≡ true
        → (i : ℕ) × (d : Commitment) × (slice_get (c ∷ commits) i ≡ Some d) × IsCalled events other d.cpu d.number d.command
    by other true is any = (0, c, refl, subst (λ p. IsCalled events p c.cpu c.number c.command) (sym (eqb-true other place is)) is_called)
    by other false is any = let found = rest.called other any in (suc found.0, found.1, found.2, found.3)

HavePlaces-commits : (events : List Event) (commits : List Commitment)
    → ((i : ℕ) (c : Commitment) → slice_get commits i ≡ Some c → (place : ℕ) × IsCalled events place c.cpu c.number c.command)
    → AreApart commits → HavePlaces events commits
unfolding IsDistinct
HavePlaces-commits events [] called apart =
    record { places = []; counted = refl; distinct = tt; called = λ place any. absurd (false≢true any) }
HavePlaces-commits events (c ∷ commits) called apart =
    let here = called 0 c refl in
    HavePlaces-more events c commits here.0 here.1 apart
    (HavePlaces-commits events commits (λ i d is. called (suc i) d is)
    (λ i j d e before. apart (suc i) (suc j) d e (let later : suc i < suc j = omega (arith, before) in later)))

-- there are no more commits than events
length-journal : (journal : List Commitment) (events : List Event) → AreRecorded journal events → length journal ≤ length events
length-journal journal events recorded =
    let have = HavePlaces-commits events journal recorded.commits.called recorded.commits.once in
    let below = length-le_from_distinct_below have.places (length events) have.distinct (λ place any.
    let found = have.called place any in slice_get_within events place (Called found.1.cpu found.1.number found.1.command) found.3) in
    omega (arith, below, have.counted)

-- ---- lines

-- what holds at each place holds of each element
each_from_places : {X : Type 0} (P : X → Type 0) (xs : List X) → ((i : ℕ) (x : X) → slice_get xs i ≡ Some x → P x) → AllByRecursion P xs
each_from_places P [] each = tt
each_from_places P (x ∷ xs) each = (each 0 x refl, each_from_places P xs (λ i y is. each (suc i) y is))

each_mapped : {X Y : Type 0} (P : Y → Type 0) (f : X → Y) (xs : List X) → AllByRecursion (λ x. P (f x)) xs → AllByRecursion P (map f xs)
each_mapped P f [] each = tt
each_mapped P f (x ∷ xs) each = (each.0, each_mapped P f xs each.1)

IsLine-line_for : (events : List Event) (c : Commitment) → c.cpu < 8 → c.number < 1000000 → IsReply c.given → IsLine (line_for events c)
IsLine-line_for events c is_cpu is_number is_reply = by (list_any (is_return_of c.cpu c.number) events)
  where
    by : (b : Bool) → IsLine (if b then Keep c.cpu c.number else Unfinished c.cpu c.number c.given)
    by true = (is_cpu, is_number)
    by false = (is_cpu, is_number, is_reply)

-- a CPU's events are no more than all
length-subhistory_of : (cpu : ℕ) (events : List Event) → length (subhistory_of cpu events) ≤ length events
length-subhistory_of cpu events =
    let test : Event → Bool = λ e. cpu_of e == cpu in
    omega (arith, length-filter test events, count_by-le-length test events)

-- the history of a world has a text, where its configuration has one and there is room
pub IsHistory-written : (w : World) → IsConfig w.config → IsWritten w → length w.events < 1000000 → IsHistory (history_of w)
IsHistory-written w is_config written room = record {
  config = is_config;
  events = written.events;
  records = λ cpu. IsSome-AtStand (w.phase cpu) (stand_from start (subhistory_of cpu w.events)) (written.stands cpu);
  lines = room;
}

-- and then so has its certificate
pub IsCertificate-written : (w : World) → IsAccounted w → IsWritten w → IsHistory (history_of w) → IsCertificate (certificate_of w)
IsCertificate-written w accounted written is_history = record {
  each = each_mapped IsLine (line_for w.events) w.journal (each_from_places (λ c. IsLine (line_for w.events c)) w.journal (λ i c is.
      let call = accounted.recorded.commits.called i c is in
      let is_event = call_is_event (history_of w) call.0 c.cpu c.number c.command is_history call.1 in
      let number = below-IsKnown c.cpu c.number w.events (is_history.records c.cpu) (call.0, c.command, call.1) in
      let of_cpu = length-subhistory_of c.cpu w.events in
      IsLine-line_for w.events c
      (omega (arith, is_event.0, is_history.config.most_cpus))
      (omega (arith, number, of_cpu, is_history.lines))
      (written.replies i c is)));
  count = omega (arith, length-map w.journal (line_for w.events), length-journal w.journal w.events accounted.recorded, is_history.lines);
}
