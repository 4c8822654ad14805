-- Laws on what happened, with one moment more at the end.
use Rattle.merging.proofs.Common.{◌++◌, ◌+◌, ◌<◌, ◌∙◌, ◌∷◌, ◌≡◌, ◌≤◌, Call, Commit, Happened, List, Moment, Option, Return, Some, Stand, [], ap, append-nil, append_assoc, arith, events_from, events_of, false, known_front, length, lines_from, lines_of, refl, returns_in, slice_get, stand_at, stand_seen, stands_after, stands_in, stands_with, starts, subst, suc, sym, take, zero, ℕ}
use Rattle.std.proofs.Common.{Bool, true, get_or, set, None, if◌then◌else◌, ⊎_elim, length-append}
use Rattle.std.specs.Prelude.{slice_index, ◌==◌}
use Rattle.std.specs.List.{AllByRecursion}
use Rattle.std.proofs.Math.Seq.{take-length}
use Rattle.std.proofs.lemmas.Bool.{cases_eq, eq-eqb, ne_eqb}
use Rattle.std.proofs.lemmas.Option.{none-some}
use Rattle.std.proofs.lemmas.List.{get_or-set_same, get_or-set_other, length-set, length-map, length-take, map-set}
use Rattle.rmm_spec.specs.Cell.{put}
use Rattle.spec_lemmas.proofs.Texts.{AllByRecursion-append}
use Rattle.merging.specs.Table.{IsHappened, slot_at}
use Rattle.merging.specs.Run.{start, stand_after, CanFollow, IsRun, call_count, return_count}
use Rattle.merging.specs.Merge.{Walked, CanMerge, IsStep, AreFew, AreReturns, IsWalkedTo}
use Rattle.merging.specs.declared.cpu.Cpu.{Cpu}
use Rattle.merging.proofs.CountLaws.{length-events_of, length-lines_of}
use Rattle.lemmas.proofs.Elements.{take-next_at}

pub stands_after-push : (stands : ℕ → Stand) (slots : List Happened) (slot : Happened)
    → stands_after stands (slots ++ slot ∷ []) ≡ stands_with (stands_after stands slots) slot
stands_after-push stands [] slot = refl
stands_after-push stands (first ∷ slots) slot = stands_after-push (stands_with stands first) slots slot

pub IsRun-push : (cpus : ℕ) (stands : ℕ → Stand) (slots : List Happened) (slot : Happened) → IsRun cpus stands slots
    → CanFollow cpus (stands_after stands slots slot.cpu) slot → IsRun cpus stands (slots ++ slot ∷ [])
IsRun-push cpus stands [] slot run follows = (follows, tt)
IsRun-push cpus stands (first ∷ slots) slot run follows = (run.0, IsRun-push cpus (stands_with stands first) slots slot run.1 follows)

pub events_from-push : (stands : ℕ → Stand) (slots : List Happened) (slot : Happened)
    → events_from stands (slots ++ slot ∷ []) ≡ events_from stands slots ++ events_of (stands_after stands slots slot.cpu) slot.cpu slot.moment
events_from-push stands [] slot = append-nil (events_of (stands slot.cpu) slot.cpu slot.moment)
events_from-push stands (first ∷ slots) slot =
    let own = events_of (stands first.cpu) first.cpu first.moment in
    let rest = stands_with stands first in
    ap (λ es. own ++ es) (events_from-push rest slots slot)
    ∙ sym (append_assoc own (events_from rest slots) (events_of (stands_after rest slots slot.cpu) slot.cpu slot.moment))

pub lines_from-push : (returns : ℕ → ℕ) (stands : ℕ → Stand) (slots : List Happened) (slot : Happened)
    → lines_from returns stands (slots ++ slot ∷ [])
    ≡ lines_from returns stands slots ++ lines_of (returns slot.cpu) (stands_after stands slots slot.cpu) slot.cpu slot.moment
lines_from-push returns stands [] slot = append-nil (lines_of (returns slot.cpu) (stands slot.cpu) slot.cpu slot.moment)
lines_from-push returns stands (first ∷ slots) slot =
    let own = lines_of (returns first.cpu) (stands first.cpu) first.cpu first.moment in
    let rest = stands_with stands first in
    ap (λ ls. own ++ ls) (lines_from-push returns rest slots slot)
    ∙ sym (append_assoc own (lines_from returns rest slots) (lines_of (returns slot.cpu) (stands_after rest slots slot.cpu) slot.cpu slot.moment))

-- ---- the first moments, one more

-- what is known up to a stamp of which nothing is
pub known_front-none : (slots : List (Option Happened)) (stamp : ℕ) → stamp ≤ length (known_front slots) → slot_at slots stamp ≡ None
    → length (known_front slots) ≡ stamp
known_front-none [] stamp within none = omega (arith, within)
known_front-none (None ∷ slots) stamp within none = omega (arith, within)
known_front-none (Some slot ∷ slots) zero within none = absurd (none-some slot (sym none))
known_front-none (Some slot ∷ slots) (suc stamp) within none =
    let less : stamp ≤ length (known_front slots) = omega (arith, within) in
    ap suc (known_front-none slots stamp less none)

pub known_front-some : (slots : List (Option Happened)) (stamp : ℕ) (slot : Happened)
    → stamp ≤ length (known_front slots) → slot_at slots stamp ≡ Some slot
    → slice_get (known_front slots) stamp ≡ Some slot
known_front-some [] stamp slot within is = absurd (none-some slot is)
known_front-some (None ∷ slots) zero slot within is = absurd (none-some slot is)
known_front-some (None ∷ slots) (suc stamp) slot within is = absurd (let none : suc stamp ≤ 0 = within in omega (arith, none))
known_front-some (Some first ∷ slots) zero slot within is = is
known_front-some (Some first ∷ slots) (suc stamp) slot within is =
    known_front-some slots stamp slot (let less : stamp ≤ length (known_front slots) = omega (arith, within) in less) is

-- what is known is at its stamp
pub known_front-slot_at : (slots : List (Option Happened)) (stamp : ℕ)
    → stamp < length (known_front slots) → (slot : Happened) × (slot_at slots stamp ≡ Some slot)
known_front-slot_at [] stamp within = absurd (omega (arith, within))
known_front-slot_at (None ∷ slots) stamp within = absurd (omega (arith, within))
known_front-slot_at (Some slot ∷ slots) zero within = (slot, refl)
known_front-slot_at (Some slot ∷ slots) (suc stamp) within =
    known_front-slot_at slots stamp (let less : stamp < length (known_front slots) = omega (arith, within) in less)

pub length-known_front : (slots : List (Option Happened)) → length (known_front slots) ≤ length slots
length-known_front [] = omega arith
length-known_front (None ∷ slots) = omega arith
length-known_front (Some slot ∷ slots) = omega (arith, length-known_front slots)

-- ---- returns, counted

pub returns_in-push : (cpu : ℕ) (slots : List Happened) (slot : Happened)
    → returns_in cpu (slots ++ slot ∷ []) ≡ returns_in cpu slots + (if slot.cpu == cpu then return_count slot.moment else 0)
returns_in-push cpu [] slot = omega arith
returns_in-push cpu (first ∷ slots) slot = omega (arith, returns_in-push cpu slots slot)

pub returns_in-le : (cpu : ℕ) (slots : List Happened) → returns_in cpu slots ≤ length slots
returns_in-le cpu [] = omega arith
returns_in-le cpu (slot ∷ slots) = omega (arith, counted (slot.cpu == cpu) slot.moment, returns_in-le cpu slots)
  where
    counted : (b : Bool) (moment : Moment) → (if b then return_count moment else 0) ≤ 1
    counted false moment = omega arith
    counted true (Call command) = omega arith
    counted true (Commit given) = omega arith
    counted true (Return given) = omega arith

pub AreReturns-push : (returns : List ℕ) (slots : List Happened) (slot : Happened) → AreReturns returns slots → slot.cpu < 8
    → AreReturns (set returns slot.cpu (slice_index returns slot.cpu + return_count slot.moment)) (slots ++ slot ∷ [])
AreReturns-push returns slots slot are below = record {
  counted = length-set returns slot.cpu (slice_index returns slot.cpu + return_count slot.moment) ∙ are.counted;
  each = λ cpu few.
      let more = slice_index returns slot.cpu + return_count slot.moment in
      ⊎_elim
      (λ (same : slot.cpu ≡ cpu).
      let within : slot.cpu < length returns = omega (arith, below, are.counted) in
      let here : get_or (set returns slot.cpu more) cpu 0 ≡ more =
      ap (λ c. get_or (set returns slot.cpu more) c 0) (sym same) ∙ get_or-set_same returns slot.cpu more 0 within in
      here ∙ ap (λ n. n + return_count slot.moment) (are.each slot.cpu below ∙ ap (λ c. returns_in c slots) same)
      ∙ ap (λ b. returns_in cpu slots + (if b then return_count slot.moment else 0)) (sym (eq-eqb slot.cpu cpu same))
      ∙ sym (returns_in-push cpu slots slot))
      (λ (other : slot.cpu ≡ cpu → ⊥).
      let none : returns_in cpu slots ≡ returns_in cpu slots + 0 = omega arith in
      get_or-set_other returns slot.cpu cpu more 0 (λ e. other (sym e)) ∙ are.each cpu few ∙ none
      ∙ ap (λ b. returns_in cpu slots + (if b then return_count slot.moment else 0)) (sym (ne_eqb slot.cpu cpu other))
      ∙ sym (returns_in-push cpu slots slot))
      (cases_eq slot.cpu cpu);
}

-- ---- CPUs, one of them after one more moment

pub stands_in-set : (cpus : List Cpu) (at : ℕ) (cpu : Cpu) → at < length cpus
    → stand_at (stands_in (set cpus at cpu)) ≡ put (stand_at (stands_in cpus)) at (stand_seen cpu)
stands_in-set cpus at cpu within = λ i other. each other i
  where
    longer : at < length (stands_in cpus)
    longer = omega (arith, within, length-map cpus stand_seen)

    each : (other : ℕ) → stand_at (stands_in (set cpus at cpu)) other ≡ put (stand_at (stands_in cpus)) at (stand_seen cpu) other
    each other =
        ap (λ (ss : List Stand). stand_at ss other) (map-set stand_seen cpus at cpu)
        ∙ ⊎_elim
        (λ (same : other ≡ at).
        ap (stand_at (set (stands_in cpus) at (stand_seen cpu))) same ∙ get_or-set_same (stands_in cpus) at (stand_seen cpu) start longer
        ∙ ap (λ b. if b then stand_seen cpu else stand_at (stands_in cpus) other) (sym (eq-eqb other at same)))
        (λ (apart : other ≡ at → ⊥).
        get_or-set_other (stands_in cpus) at other (stand_seen cpu) start apart
        ∙ ap (λ b. if b then stand_seen cpu else stand_at (stands_in cpus) other) (sym (ne_eqb other at apart)))
        (cases_eq other at)

-- ---- a walk, one moment further

pub IsWalkedTo-next : (stamp : ℕ) (slots : List Happened) (slot : Happened) (cpus : ℕ) (old new : Walked) → IsWalkedTo stamp slots cpus old
    → slice_get slots stamp ≡ Some slot → IsHappened slot → IsStep cpus old new slot → IsWalkedTo (stamp + 1) slots cpus new
IsWalkedTo-next stamp slots slot cpus old new walked is happened step =
    let before = take stamp slots in
    let next : take (stamp + 1) slots ≡ before ++ slot ∷ [] = take-next_at slots stamp slot is in
    let all = λ (cpu : ℕ). returns_in cpu slots in
    let stand : stand_at old.stands slot.cpu ≡ stands_after starts before slot.cpu = λ i. walked.stands i slot.cpu in
    record {
      is_run = subst (IsRun cpus starts) (sym next)
          (IsRun-push cpus starts before slot walked.is_run (subst (λ s. CanFollow cpus s slot) stand step.can_follow));
      each = subst (AllByRecursion IsHappened) (sym next) (AllByRecursion-append IsHappened before (slot ∷ []) walked.each (happened, tt));
      stands =
          step.stands ∙ ap (λ (s : ℕ → Stand). stands_with s slot) walked.stands
          ∙ sym (ap (stands_after starts) next ∙ stands_after-push starts before slot);
      events = omega (
        arith,
        step.events,
        walked.events,
        ap (λ ss. length (events_from starts ss)) next,
        ap length (events_from-push starts before slot),
        length-append (events_from starts before) (events_of (stands_after starts before slot.cpu) slot.cpu slot.moment),
        length-events_of (stands_after starts before slot.cpu) slot.cpu slot.moment,
      );
      lines = omega (
        arith,
        step.lines,
        walked.lines,
        ap (λ ss. length (lines_from all starts ss)) next,
        ap length (lines_from-push all starts before slot),
        length-append (lines_from all starts before) (lines_of (all slot.cpu) (stands_after starts before slot.cpu) slot.cpu slot.moment),
        length-lines_of (all slot.cpu) (stands_after starts before slot.cpu) slot.cpu slot.moment,
      );
      few_events = step.few_events;
      few_lines = step.few_lines;
    }

pub IsWalkedTo-begun : (slots : List Happened) (cpus : ℕ) (stands : List Stand) → stand_at stands ≡ starts
    → IsWalkedTo 0 slots cpus (record { stands = stands; events = 0; lines = 0 })
IsWalkedTo-begun slots cpus stands are = record {
  is_run = tt;
  each = tt;
  stands = are;
  events = refl;
  lines = refl;
  few_events = omega arith;
  few_lines = omega arith;
}

-- a walk over all
pub CanMerge-walked : (stamp : ℕ) (slots : List Happened) (cpus : ℕ) (walked : Walked) → stamp ≡ length slots → IsWalkedTo stamp slots cpus walked
    → CanMerge cpus slots
CanMerge-walked stamp slots cpus walked all to =
    let whole : take stamp slots ≡ slots = ap (λ n. take n slots) all ∙ take-length slots in
    record {
      is_run = subst (IsRun cpus starts) whole to.is_run;
      each = subst (AllByRecursion IsHappened) whole to.each;
      few_events = omega (arith, to.few_events, to.events, ap (λ ss. length (events_from starts ss)) whole);
      few_lines = omega (arith, to.few_lines, to.lines, ap (λ ss. length (lines_from (λ cpu. returns_in cpu slots) starts ss)) whole);
    }

-- ---- how often a CPU has called and returned

call_count-le : (moment : Moment) → call_count moment ≤ 1
call_count-le (Call command) = omega arith
call_count-le (Commit given) = omega arith
call_count-le (Return given) = omega arith

return_count-le : (moment : Moment) → return_count moment ≤ 1
return_count-le (Call command) = omega arith
return_count-le (Commit given) = omega arith
return_count-le (Return given) = omega arith

-- a moment more is one call and one return more at most
one_more : (b : Bool) (own other : Stand) (slot : Happened) (bound : ℕ)
    → (own.calls ≤ bound) × (own.returns ≤ bound) → (other.calls ≤ bound) × (other.returns ≤ bound)
    → ((if b then stand_after own slot else other).calls ≤ suc bound) × ((if b then stand_after own slot else other).returns ≤ suc bound)
one_more true own other slot bound few others =
    (omega (arith, few.0, call_count-le slot.moment), omega (arith, few.1, return_count-le slot.moment))
one_more false own other slot bound few others = (omega (arith, others.0), omega (arith, others.1))

few_after : (slots : List Happened) (stands : ℕ → Stand) (bound : ℕ) → ((cpu : ℕ) → ((stands cpu).calls ≤ bound) × ((stands cpu).returns ≤ bound))
    → (cpu : ℕ) → ((stands_after stands slots cpu).calls ≤ bound + length slots) × ((stands_after stands slots cpu).returns ≤ bound + length slots)
few_after [] stands bound few cpu = (omega (arith, (few cpu).0), omega (arith, (few cpu).1))
few_after (slot ∷ slots) stands bound few cpu =
    let rest = few_after slots (stands_with stands slot) (suc bound)
    (λ other. one_more (other == slot.cpu) (stands slot.cpu) (stands other) slot bound (few slot.cpu) (few other)) cpu in
    (omega (arith, rest.0), omega (arith, rest.1))

-- no CPU has called or returned more often than there are stamps
pub AreFew-walked : (events : List Happened) (stamp : ℕ) (stands : ℕ → Stand)
    → stands ≡ stands_after starts (take stamp events) → stamp ≤ 2000000 → AreFew stands
AreFew-walked events stamp stands are below =
    let few = few_after (take stamp events) starts 0 (λ cpu. (omega arith, omega arith)) in
    let short : length (take stamp events) ≤ stamp = omega (arith, length-take stamp events) in
    subst AreFew (sym are) (record {
      calls = λ cpu. omega (arith, (few cpu).0, short, below);
      returns = λ cpu. omega (arith, (few cpu).1, short, below);
    })

-- the returns of the first moments, where these are all
pub AreReturns-whole : (returns : List ℕ) (slots : List Happened) (stamp : ℕ)
    → stamp ≡ length slots → AreReturns returns (take stamp slots) → AreReturns returns slots
AreReturns-whole returns slots stamp all are = subst (AreReturns returns) (ap (λ n. take n slots) all ∙ take-length slots) are
