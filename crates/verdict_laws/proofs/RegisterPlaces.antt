-- Calls that stand in lines, and what is made, returned and open at the next place.
use Rattle.verdict_laws.proofs.Common.{◌≡◌, ℕ, ◌+◌, ◌<◌, ◌⊎◌, Bool, inl, inr, List, [], ◌∷◌, ◌++◌, length, Some, refl, sym, subst, arith, cases_lt, cases_order, slice_get-append, Event, Line, Keep, Reply, IsReturned, cpu_named, number_named, Register}
use Rattle.lemmas.proofs.Elements.{slice_get-push, slice_get_push_cases}
use Rattle.verdict_laws.specs.Forward.{MadeBefore}
use Rattle.verdict_laws.specs.Registers.{IsDone, IsOpenCall, RegisterCall, Stands}

-- ---- calls that stand

-- the line names the call, and does something to the register
pub record IsItself (events : List Event) (register : Register) (mine : ℕ → Bool) (line : Line) (cpu number : ℕ) : Type 0 where
  pub of_cpu : cpu_named line ≡ cpu
  pub numbered : number_named line ≡ number
  pub given : Reply
  pub done : RegisterCall
  pub is_done : IsDone events register mine line given (Some done)

module _ (events : List Event) (register : Register) (mine : ℕ → Bool) where
  -- a call stands in more lines
  pub Stands-append : (lines more : List Line) (cpu number : ℕ) → Stands events register mine lines cpu number
      → Stands events register mine (lines ++ more) cpu number
  Stands-append lines more cpu number stands = record {
    i = stands.i;
    line = stands.line;
    at = slice_get-append lines more stands.i stands.line stands.at;
    of_cpu = stands.of_cpu;
    numbered = stands.numbered;
    given = stands.given;
    done = stands.done;
    is_done = stands.is_done;
  }

  -- and where its own line is put behind them
  pub Stands-last : (lines : List Line) (line : Line) (given : Reply) (done : RegisterCall) → IsDone events register mine line given (Some done)
      → Stands events register mine (lines ++ line ∷ []) (cpu_named line) (number_named line)
  Stands-last lines line given done is_done = record {
    i = length lines;
    line = line;
    at = slice_get-push lines line;
    of_cpu = refl;
    numbered = refl;
    given = given;
    done = done;
    is_done = is_done;
  }

  -- in no other case
  pub Stands-push_cases : (lines : List Line) (line : Line) (cpu number : ℕ) → Stands events register mine (lines ++ line ∷ []) cpu number
      → Stands events register mine lines cpu number ⊎ IsItself events register mine line cpu number
  Stands-push_cases lines line cpu number stands = elim (slice_get_push_cases lines line stands.i stands.line stands.at) [
    | inl old ↦
        inl (record {
          i = stands.i;
          line = stands.line;
          at = old;
          of_cpu = stands.of_cpu;
          numbered = stands.numbered;
          given = stands.given;
          done = stands.done;
          is_done = stands.is_done;
        })
    | inr new ↦
        inr (record {
          of_cpu = subst (λ (l : Line). cpu_named l ≡ cpu) new.1 stands.of_cpu;
          numbered = subst (λ (l : Line). number_named l ≡ number) new.1 stands.numbered;
          given = stands.given;
          done = stands.done;
          is_done = subst (λ (l : Line). IsDone events register mine l stands.given (Some stands.done)) new.1 stands.is_done;
        })
  ]

-- each call that returned before the place and does something to the register stands in the lines
abbrev pub HasReturned : List Event → Register → (ℕ → Bool) → ℕ → List Line → Type 0
HasReturned events register mine place lines = (cpu number returned : ℕ) (given : Reply) (done : RegisterCall)
    → IsReturned events returned cpu number given → returned < place → IsDone events register mine (Keep cpu number) given (Some done)
    → Stands events register mine lines cpu number

-- so it does in more lines
pub HasReturned-append : (events : List Event) (register : Register) (mine : ℕ → Bool) (place : ℕ) (lines more : List Line)
    → HasReturned events register mine place lines → HasReturned events register mine place (lines ++ more)
HasReturned-append events register mine place lines more before cpu number returned given done is soon is_done =
    Stands-append events register mine lines more cpu number (before cpu number returned given done is soon is_done)

-- and behind the place, if the call that returns there stands
pub HasReturned-next : (events : List Event) (register : Register) (mine : ℕ → Bool) (place : ℕ) (lines : List Line)
    → HasReturned events register mine place lines
    → ((cpu number : ℕ) (given : Reply) (done : RegisterCall) → IsReturned events place cpu number given
    → IsDone events register mine (Keep cpu number) given (Some done) → Stands events register mine lines cpu number)
    → HasReturned events register mine (place + 1) lines
HasReturned-next events register mine place lines before here cpu number returned given done is soon is_done = elim (cases_lt returned place) [
  | inl early ↦ before cpu number returned given done is early is_done
  | inr late ↦
      let at : returned ≡ place = omega (arith, late, soon) in
      here cpu number given done (subst (λ (p : ℕ). IsReturned events p cpu number given) at is) is_done
]

-- ---- the next place

-- what was made before a place was made before the next one
pub MadeBefore-next : (events : List Event) (lines : List Line) (place : ℕ) → MadeBefore events lines place → MadeBefore events lines (place + 1)
MadeBefore-next events lines place made cpu number called command is below =
    let early = made cpu number called command is below in omega (arith, early)

-- what is open behind a place and was made before it is open there
pub IsOpenCall-before : (events : List Event) (place cpu number : ℕ) → (is_open : IsOpenCall events (place + 1) cpu number) → is_open.called < place
    → IsOpenCall events place cpu number
IsOpenCall-before events place cpu number is_open before = record {
  called = is_open.called;
  command = is_open.command;
  is_called = is_open.is_called;
  before = before;
  unreturned = λ returned given is. let late = is_open.unreturned returned given is in omega (arith, late);
}

-- what is open there and doesn't return there is open behind it
pub IsOpenCall-next : (events : List Event) (place cpu number : ℕ) → IsOpenCall events place cpu number
    → ((given : Reply) → ¬ IsReturned events place cpu number given) → IsOpenCall events (place + 1) cpu number
IsOpenCall-next events place cpu number is_open stays = record {
  called = is_open.called;
  command = is_open.command;
  is_called = is_open.is_called;
  before = let early = is_open.before in omega (arith, early);
  unreturned = λ returned given is.
      let late = is_open.unreturned returned given is in
      elim (cases_order place returned) [
        | inl at ↦ absurd (stays given (subst (λ (p : ℕ). IsReturned events p cpu number given) (sym at) is))
        | inr apart ↦ elim apart [
          | inl before ↦ omega (arith, before)
          | inr after ↦ absurd (omega (arith, late, after))
        ]
      ];
}
