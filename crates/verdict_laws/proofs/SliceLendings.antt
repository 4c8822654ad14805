-- The lines of a slice's lendings, which stand before those of its other calls.
use Rattle.verdict_laws.proofs.Common.{◌≡◌, ℕ, zero, suc, ◌+◌, ◌<◌, ◌≤◌, List, [], ◌∷◌, map, Some, refl, subst, arith, slice_get, none-some, Command, Event, Called, Returned, Line, Keep, Reply, History, IsHistory, IsCalled, IsReturned, IsNamed, IsOfItsKind, ReturnsBefore, AreEntriesOf, cpu_named, number_named, ok, HasOnePlaces-from_history}
use Rattle.spec_lemmas.proofs.Calls.{HasOnePlaces}
use Rattle.verdict_laws.specs.Slices.{delegation, lending_events}
use Rattle.verdict_laws.proofs.CallOrder.{call_before_return, finished_below, returns_in_order}
use Rattle.verdict_laws.proofs.Moves.{Each, Pairs}
use Rattle.verdict_laws.proofs.Settled.{Apart}
use Rattle.verdict_laws.proofs.SliceTerms.{lending}

-- the lines that lend granules, from a number of the calls of CPU 0 on
abbrev pub lending_lines : ℕ → List ℕ → List Line
lending_lines number [] = []
lending_lines number (granule ∷ more) = Keep 0 number ∷ lending_lines (number + 1) more

-- ---- calls

-- one of them names each call that returns among the lendings
pub lending_named : (number : ℕ) (lent : List ℕ) (place cpu called : ℕ) (given : Reply)
    → IsReturned (lending_events number lent) place cpu called given → IsNamed (lending_lines number lent) cpu called
lending_named number [] place cpu called given is_returned = absurd (none-some (Returned cpu called given) is_returned)
lending_named number (granule ∷ more) zero cpu called given is_returned = absurd cc
lending_named number (granule ∷ more) (suc zero) cpu called given is_returned =
    let of_cpu : 0 ≡ cpu = cc in
    let same : number ≡ called = cc in
    (0, Keep 0 number, refl, of_cpu, same)
lending_named number (granule ∷ more) (suc (suc place)) cpu called given is_returned =
    let rest = lending_named (number + 1) more place cpu called given is_returned in
    (suc rest.0, rest.1, rest.2, rest.3, rest.4)

-- the events of lendings stand among these, before the place
abbrev pub StandBefore : List Event → ℕ → List Event → Type 0
StandBefore events end lendings = (i : ℕ) (event : Event) → slice_get lendings i ≡ Some event
    → (place : ℕ) × (slice_get events place ≡ Some event) × (place < end)

-- the line's call is made there before the place
abbrev pub IsMadeBefore : List Event → ℕ → Line → Type 0
IsMadeBefore events end line =
    (called : ℕ) × (command : Command) × IsCalled events called (cpu_named line) (number_named line) command × (called < end)

-- or no earlier
abbrev pub IsMadeFrom : List Event → ℕ → Line → Type 0
IsMadeFrom events end line =
    (called : ℕ) × (command : Command) × IsCalled events called (cpu_named line) (number_named line) command × (end ≤ called)

-- the calls of the lines are made where their events stand
pub lendings-made : (events : List Event) (end number : ℕ) (lent : List ℕ) → StandBefore events end (lending_events number lent)
    → Each (IsMadeBefore events end) (lending_lines number lent)
lendings-made events end number [] stand = tt
lendings-made events end number (granule ∷ more) stand =
    let call = stand 0 (Called 0 number (delegation granule)) refl in
    ((call.0, delegation granule, call.1, call.2), lendings-made events end (number + 1) more (λ i. stand (suc (suc i))))

-- they return
pub lendings-finished : (events : List Event) (end number : ℕ) (lent : List ℕ) → StandBefore events end (lending_events number lent)
    → Each (IsOfItsKind events) (lending_lines number lent)
lendings-finished events end number [] stand = tt
lendings-finished events end number (granule ∷ more) stand =
    let back = stand 1 (Returned 0 number (ok [])) refl in
    ((back.0, ok [], back.1), lendings-finished events end (number + 1) more (λ i. stand (suc (suc i))))

-- and are the commits that lend
pub lendings-claimed : (events : List Event) (end number : ℕ) (lent : List ℕ) → StandBefore events end (lending_events number lent)
    → AreEntriesOf events (lending_lines number lent) (map lending lent)
lendings-claimed events end number [] stand = tt
lendings-claimed events end number (granule ∷ more) stand =
    let call = stand 0 (Called 0 number (delegation granule)) refl in
    let back = stand 1 (Returned 0 number (ok [])) refl in (
      record { cpu = refl; called = call.0; is_called = call.1; given = (back.0, back.1) },
      lendings-claimed events end (number + 1) more (λ i. stand (suc (suc i))),
    )

-- ---- order

module _ (history : History) (is_history : IsHistory history) where
  -- each call has one place
  one : HasOnePlaces history.events
  one = HasOnePlaces-from_history history is_history

  -- a later call of a CPU doesn't return before an earlier one is made
  in_order : (cpu number later : ℕ) → number < later → ¬ ReturnsBefore history.events cpu later cpu number
  in_order cpu number later below returns =
      let finished = finished_below history is_history cpu number later (omega (arith, below))
      (returns.returned, returns.given, returns.is_returned) in
      let made = call_before_return history is_history cpu number returns.called finished.0 returns.command finished.1
      returns.is_called finished.2 in
      let ordered = returns_in_order history is_history cpu number later finished.0 returns.returned finished.1 returns.given (omega (arith, below))
      finished.2 returns.is_returned in
      omega (arith, made, ordered, returns.before)

  -- a lending is apart from those after it
  lending-apart : (number next : ℕ) (lent : List ℕ) → number < next → Each (Apart history.events (Keep 0 number)) (lending_lines next lent)
  lending-apart number next [] below = tt
  lending-apart number next (granule ∷ more) below =
      ((λ same. omega (arith, same.1, below), in_order 0 number next below), lending-apart number (next + 1) more (omega (arith, below)))

  -- so each two are apart
  pub lendings-apart : (number : ℕ) (lent : List ℕ) → Pairs (Apart history.events) (lending_lines number lent)
  lendings-apart number [] = tt
  lendings-apart number (granule ∷ more) = (lending-apart number (number + 1) more (omega arith), lendings-apart (number + 1) more)

  -- and so are two calls of which one is made before a place, and the other from it on
  pub made-apart : (end : ℕ) (line later : Line) → IsMadeBefore history.events end line → IsMadeFrom history.events end later
      → Apart history.events line later
  made-apart end line later first behind = (
    λ same.
        let is_called = subst (λ (cpu : ℕ). IsCalled history.events first.0 cpu (number_named later) first.1) same.0
        (subst (λ (number : ℕ). IsCalled history.events first.0 (cpu_named line) number first.1) same.1 first.2) in
        let at = one.one_call first.0 behind.0 (cpu_named later) (number_named later) first.1 behind.1 is_called behind.2 in
        omega (arith, at, first.3, behind.3),
    λ returns.
        let made = call_before_return history is_history (cpu_named later) (number_named later) behind.0 returns.returned behind.1 returns.given
        behind.2 returns.is_returned in
        let at = one.one_call returns.called first.0 (cpu_named line) (number_named line) returns.command first.1 returns.is_called first.2 in
        omega (arith, at, made, returns.before, first.3, behind.3),
  )
