-- Later lines that are taken, and calls that overlap.
use Rattle.explain.proofs.Common.{◌+◌, ◌<◌, ◌≡◌, Bool, Command, Event, History, IsCalled, IsHistory, IsTrue, Line, List, None, Option, Reply, Some, State, arith, cpu_named, false, number_named, refl, slice_get, subst, suc, true, zero, ℕ}
use Rattle.std.specs.Prelude.{◌&&◌, IfNone, IfOk, IfSome, MatchOption, Result, Ok, Err, not}
use Rattle.rmm_spec.specs.Linearization.{IsOfItsKind, IsReplyOf, IsReturned, ReturnsBefore}
use Rattle.rmm_spec.specs.Step.{Step}
use Rattle.reasons.specs.declared.test.Test.{Test}
use Rattle.spec_lemmas.proofs.Calls.{same_command, same_reply, HasOnePlaces-from_history}
use Rattle.explain.specs.Late.{holds, IsMoved, Moves, Overlap, TakesLine}

-- the condition fails after lines that were taken
pub fails_moved : (events : List Event) (lines : List Line) (cpu number : ℕ) (t : Test) (first count : ℕ) (old new : State)
    → IsMoved events lines cpu number t first count old new → holds new t ≡ false
fails_moved events lines cpu number t first zero old new moved = moved.1
fails_moved events lines cpu number t first (suc count) old new moved = moved.2

-- with one more
pub moved_next : (events : List Event) (lines : List Line) (cpu number : ℕ)
    (t : Test) (first count : ℕ) (old mid new : State) (line : Line) (taken : Bool)
    → IsMoved events lines cpu number t first count old mid → slice_get lines (first + count) ≡ Some line → Moves events cpu number line mid taken new
    → holds new t ≡ false → IsMoved events lines cpu number t first (suc count) old new
moved_next events lines cpu number t first count old mid new line taken moved is_line moves fails =
    (mid, moved, fails, (line, is_line, (taken, moves)))

-- ---- one line

-- a line of another kind, or of a call that doesn't overlap, isn't taken
pub not_taken : (events : List Event) (cpu number : ℕ) (line : Line) (s : State) → ((next : State) → ¬ TakesLine events cpu number line s next)
    → Moves events cpu number line s false s
not_taken events cpu number line s only = record { taken = λ bad. absurd cc; kept = λ _. refl; only = λ _. only }

-- the machine takes the reply that a line of its kind claims, or no step of the line leads on
pub moves_by : (history : History) → IsHistory history → (cpu number : ℕ) (line : Line) (called : ℕ) (command : Command) (given : Reply)
    (old new : State) (taken : Bool) → Overlap history.events cpu number (cpu_named line) (number_named line) → IsOfItsKind history.events line
    → IsCalled history.events called (cpu_named line) (number_named line) command → IsReplyOf history.events line given
    → (IsTrue taken → Step old (cpu_named line) command given new) → (taken ≡ false → new ≡ old)
    → (taken ≡ false → (next : State) → ¬ Step old (cpu_named line) command given next) → Moves history.events cpu number line old taken new
moves_by history is_history cpu number line called command given old new taken overlaps kind is_called is_given step kept only = record {
  taken = λ is. record {
    overlaps = overlaps;
    kind = kind;
    called = called;
    command = command;
    is_called = is_called;
    given = given;
    is_given = is_given;
    step = step is;
  };
  kept = kept;
  only = λ is next takes.
      let one = HasOnePlaces-from_history history is_history in
      let made =
      same_command history.events one takes.called called (cpu_named line) (number_named line) takes.command command takes.is_called is_called in
      let told = same_reply history.events one line takes.given given takes.is_given is_given in
      only is next (subst (λ (r : Reply). Step old (cpu_named line) command r next) told
      (subst (λ (c : Command). Step old (cpu_named line) c takes.given next) made takes.step));
}

-- ---- places

-- one call returned before the other was made exactly where its place is before the other's
pub returns_before : (history : History) → IsHistory history → (cpu number other_cpu other returned called : ℕ)
    → (given : Reply) × IsReturned history.events returned cpu number given
    → (command : Command) × IsCalled history.events called other_cpu other command
    → (returned < called → ReturnsBefore history.events cpu number other_cpu other)
    × (ReturnsBefore history.events cpu number other_cpu other → returned < called)
returns_before history is_history cpu number other_cpu other returned called is_returned is_called = (
  λ before. record {
    returned = returned;
    given = is_returned.0;
    is_returned = is_returned.1;
    called = called;
    command = is_called.0;
    is_called = is_called.1;
    before = before;
  },
  λ returns.
      let one = HasOnePlaces-from_history history is_history in
      let here = one.one_return returns.returned returned cpu number returns.given is_returned.0 returns.is_returned is_returned.1 in
      let there = one.one_call returns.called called other_cpu other returns.command is_called.0 returns.is_called is_called.1 in
      subst (λ (r : ℕ). r < called) here (subst (λ (c : ℕ). returns.returned < c) there returns.before),
)

-- ---- tests

pub not_both : (b : Bool) → IsTrue (not b) → IsTrue b → ⊥
not_both true denied holds = let bad : false ≡ true = denied in cc
not_both false denied holds = let bad : false ≡ true = holds in cc

pub not_if : (b : Bool) → (IsTrue b → ⊥) → IsTrue (not b)
not_if true none = absurd (none refl)
not_if false none = refl

pub match_both : {X : Type 0} (found : Option X) (Otherwise : Type 0) (P : X → Type 0)
    → IfNone found Otherwise → IfSome found P → MatchOption found Otherwise P
match_both None Otherwise P none some = none
match_both (Some x) Otherwise P none some = some

-- what fails is so
pub fails_so : (there holds : Bool) → (there && not holds) ≡ true → holds ≡ false
fails_so true true is = absurd (let bad : false ≡ true = is in cc)
fails_so true false is = refl
fails_so false holds is = absurd (let bad : false ≡ true = is in cc)

-- ---- one line more

pub moved_on : (events : List Event) (lines : List Line) (cpu number : ℕ) (t : Test) (index i : ℕ) (old mid new : State) (line : Line) (did : Bool)
    → (count : ℕ) × (i ≡ index + 1 + count) × IsMoved events lines cpu number t (index + 1) count old mid → slice_get lines i ≡ Some line
    → Moves events cpu number line mid did new → holds new t ≡ false
    → (count : ℕ) × (i + 1 ≡ index + 1 + count) × IsMoved events lines cpu number t (index + 1) count old new
moved_on events lines cpu number t index i old mid new line did (count, at, moved) is_line moves fails = (
  suc count,
  omega (arith, at),
  moved_next events lines cpu number t (index + 1) count old mid new line did moved
      (subst (λ (k : ℕ). slice_get lines k ≡ Some line) at is_line) moves fails,
)

-- by what an offer answers
pub moves_ok : {E : Type 0} (history : History) → IsHistory history → (cpu number : ℕ) (line : Line) (called : ℕ) (command : Command) (given : Reply)
    (old new : State) (result : Result Bool E)
    → Overlap history.events cpu number (cpu_named line) (number_named line) → IsOfItsKind history.events line
    → IsCalled history.events called (cpu_named line) (number_named line) command → IsReplyOf history.events line given
    → IfOk result (λ did. IsTrue did → Step old (cpu_named line) command given new) → IfOk result (λ did. did ≡ false → new ≡ old)
    → IfOk result (λ did. did ≡ false → (next : State) → ¬ Step old (cpu_named line) command given next)
    → IfOk result (λ did. Moves history.events cpu number line old did new)
moves_ok history is_history cpu number line called command given old new (Ok did) overlaps kind is_called is_given step kept only =
    moves_by history is_history cpu number line called command given old new did overlaps kind is_called is_given step kept only
moves_ok history is_history cpu number line called command given old new (Err none) overlaps kind is_called is_given step kept only = tt
