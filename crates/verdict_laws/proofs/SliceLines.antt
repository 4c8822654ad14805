-- Lines of an order and their commits in a slice: a CPU is inside of a REC behind those of its first calls where the next is made inside of one.
use Rattle.verdict_laws.proofs.Common.{◌≡◌, ℕ, zero, suc, ◌+◌, ◌<◌, ◌==◌, Bool, true, false, List, [], ◌∷◌, map, inl, inr, ◌⊎◌, Option, Some, None, refl, sym, ◌∙◌, ap, subst, arith, eqb-true, eq-eqb, slice_get, cases_Bool, cases_order, false≢true, none-some, same_Some, Command, Event, Line, Keep, Unfinished, Reply, call_of, History, IsHistory, is_accepted, JournalEntry, IsCalled, IsReturned, IsFinished, IsOfItsKind, IsEntryOf, ReturnsBefore, cpu_named, number_named, both_ways, HasOnePlaces-from_history}
use Rattle.std.specs.Option.{IsSome}
use Rattle.rmm_spec.specs.Linearization.{IsReplyOf}
use Rattle.spec_lemmas.proofs.Calls.{HasOnePlaces, same_given}
use Rattle.verdict_laws.specs.Slices.{AreEntered, is_entered_by}
use Rattle.verdict_laws.proofs.CallOrder.{finished_before_call, returns_before_later}
use Rattle.verdict_laws.proofs.Moves.{Each, Pairs}
use Rattle.verdict_laws.proofs.Settled.{Apart}
use Rattle.verdict_laws.proofs.SliceTerms.{Commit, is_entered_behind, is_entered_in}

-- ---- lists

-- one of the elements
abbrev pub OneOf : {X : Type 0} → (X → Type 0) → List X → Type 0
OneOf P [] = ⊥
OneOf P (x ∷ xs) = P x ⊎ OneOf P xs

-- one is found at its place
pub OneOf-from_place : {X : Type 0} (P : X → Type 0) (xs : List X) (i : ℕ) (x : X) → slice_get xs i ≡ Some x → P x → OneOf P xs
OneOf-from_place P [] i x is holds = absurd (none-some x is)
OneOf-from_place P (y ∷ xs) zero x is holds = inl (subst P (sym (same_Some y x is)) holds)
OneOf-from_place P (y ∷ xs) (suc i) x is holds = inr (OneOf-from_place P xs i x is holds)

-- each is what follows from what it is
pub Each-map : {X : Type 0} (P Q : X → Type 0) → ((x : X) → P x → Q x) → (xs : List X) → Each P xs → Each Q xs
Each-map P Q goes [] each = tt
Each-map P Q goes (x ∷ xs) each = (goes x each.0, Each-map P Q goes xs each.1)

-- one is what follows from what it is
pub OneOf-map : {X : Type 0} (P Q : X → Type 0) → ((x : X) → P x → Q x) → (xs : List X) → OneOf P xs → OneOf Q xs
OneOf-map P Q goes [] any = any
OneOf-map P Q goes (x ∷ xs) (inl here) = inl (goes x here)
OneOf-map P Q goes (x ∷ xs) (inr there) = inr (OneOf-map P Q goes xs there)

-- what no element is none is
pub none_of : {X : Type 0} (P : X → Type 0) (xs : List X) → Each (λ x. ¬ P x) xs → ¬ OneOf P xs
none_of P [] each any = any
none_of P (x ∷ xs) each (inl here) = each.0 here
none_of P (x ∷ xs) each (inr there) = none_of P xs each.1 there

-- ---- lines

-- a line of its kind, with the commit that it claims
pub record Claim (events : List Event) : Type 0 where
  pub line : Line
  pub entry : JournalEntry
  pub kind : IsOfItsKind events line
  pub is_entry : IsEntryOf events line entry

-- whether the line stays in the slice: its call has a number there, and is finished, or carried out
abbrev pub stays : Line → Option ℕ → Bool → Bool
stays line None accepted = false
stays (Keep cpu number) (Some new) accepted = true
stays (Unfinished cpu number claimed) (Some new) accepted = accepted

-- the line names the call
abbrev pub Names : {events : List Event} → ℕ → ℕ → Claim events → Type 0
Names cpu number c = (cpu_named c.line ≡ cpu) × (number_named c.line ≡ number)

-- what is said of the call is said of the one that the line names
pub of_named : {events : List Event} (P : ℕ → ℕ → Type 0) (cpu number : ℕ) (c : Claim events) → Names cpu number c → P cpu number
    → P (cpu_named c.line) (number_named c.line)
of_named P cpu number c is holds = subst (λ (x : ℕ). P x (number_named c.line)) (sym is.0) (subst (P cpu) (sym is.1) holds)

-- the line of a finished call that has a number stays
pub stays-finished : (events : List Event) (line : Line) (o : Option ℕ) (accepted : Bool) → IsSome o → IsOfItsKind events line
    → IsFinished events (cpu_named line) (number_named line) → stays line o accepted ≡ true
stays-finished events line None accepted some kind finished = absurd (false≢true some)
stays-finished events (Keep cpu number) (Some new) accepted some kind finished = refl
stays-finished events (Unfinished cpu number claimed) (Some new) accepted some kind finished = absurd (kind finished)

-- a recorded reply of the line's call is the one that it claims
pub claimed_reply : (events : List Event) → HasOnePlaces events → (line : Line) → IsOfItsKind events line → (given told : Reply) (place : ℕ)
    → IsReplyOf events line given → IsReturned events place (cpu_named line) (number_named line) told → given ≡ told
claimed_reply events one (Keep cpu number) kind given told place is is_returned =
    same_given events one is.0 place cpu number given told is.1 is_returned
claimed_reply events one (Unfinished cpu number claimed) kind given told place is is_returned = absurd (kind (place, told, is_returned))

-- ---- commits

-- the commit of a finished call leaves its CPU inside of a REC where the call does
entered_line : (events : List Event) (line : Line) (e : JournalEntry) (o : Option ℕ) (inside : Bool) → IsOfItsKind events line
    → IsFinished events (cpu_named line) (number_named line)
    → is_entered_behind (stays line o (is_accepted e.given)) e inside ≡ is_entered_by o (call_of e.command) e.given inside
entered_line events line e None inside kind finished = refl
entered_line events line e (Some new) inside kind finished =
    ap (λ (b : Bool). is_entered_behind b e inside) (stays-finished events line (Some new) (is_accepted e.given) refl kind finished)

-- the number of the line's call in the slice, if it has one
abbrev pub number_of : {events : List Event} → (ℕ → Option ℕ) → Claim events → Option ℕ
number_of numbers c = numbers c.is_entry.called

-- whether the line stays
abbrev pub is_staying : {events : List Event} → (ℕ → Option ℕ) → Claim events → Bool
is_staying numbers c = stays c.line (number_of numbers c) (is_accepted c.entry.given)

-- its commit
abbrev pub commit_of : {events : List Event} → (ℕ → Option ℕ) → Claim events → Commit
commit_of numbers c = record { kept = is_staying numbers c; entry = c.entry }

-- ---- where a CPU's lines leave it

module _ (history : History) (is_history : IsHistory history) where
  -- of two lines of a CPU the earlier one is of the earlier call
  pub number_below : (c later : Claim history.events) → Apart history.events c.line later.line → cpu_named c.line ≡ cpu_named later.line
      → number_named c.line < number_named later.line
  number_below c later apart same = elim (cases_order (number_named c.line) (number_named later.line)) [
    | inl numbered ↦ absurd (apart.0 (same, numbered))
    | inr other ↦ elim other [
      | inl below ↦ below
      | inr above ↦
          let returns = returns_before_later history is_history (cpu_named c.line) (number_named later.line) (number_named c.line) above
          (c.is_entry.called, c.entry.command, c.is_entry.is_called) in
          absurd (apart.1 (subst (λ (cpu : ℕ). ReturnsBefore history.events cpu (number_named later.line) (cpu_named c.line)
          (number_named c.line)) same returns))
    ]
  ]

  -- a call of the CPU comes next behind the lines: those of the CPU among them are of the calls before it, and each of these has one
  pub record ComesNext (before : List (Claim history.events)) (cpu number : ℕ) : Type 0 where
    pub below : Each (λ c. cpu_named c.line ≡ cpu → number_named c.line < number) before
    pub first : (earlier : ℕ) → earlier < number → OneOf (Names cpu earlier) before

  -- where a call comes next behind a line of its CPU, that is of the call before
  next_number : (c : Claim history.events) (cs : List (Claim history.events)) (number : ℕ) → Each (λ d. Apart history.events d.line c.line) cs
      → ComesNext (c ∷ cs) (cpu_named c.line) number → number ≡ number_named c.line + 1
  next_number c cs number apart next = elim (cases_order number (number_named c.line + 1)) [
    | inl is ↦ is
    | inr other ↦ elim other [
      | inl early ↦ let below = next.below.0 refl in absurd (omega (arith, early, below))
      | inr late ↦ elim (next.first (number_named c.line + 1) late) [
        | inl is ↦ let at = is.1 in absurd (omega (arith, at))
        | inr there ↦ absurd (none_of (Names (cpu_named c.line) (number_named c.line + 1)) cs (Each-map _ _ (λ d far is.
            let below = number_below d c far is.0 in
            let at = is.1 in
            omega (arith, below, at)) cs apart) there)
      ]
    ]
  ]

  -- and that comes next behind the lines before
  next_before : (c : Claim history.events) (cs : List (Claim history.events)) (number : ℕ) → Each (λ d. Apart history.events d.line c.line) cs
      → ComesNext (c ∷ cs) (cpu_named c.line) number → ComesNext cs (cpu_named c.line) (number_named c.line)
  next_before c cs number apart next =
      let under = next.below.0 refl in
      record {
        below = Each-map _ _ (λ d. number_below d c) cs apart;
        first = λ m below. elim (next.first m (omega (arith, below, under))) [
          | inl is ↦ let at = is.1 in absurd (omega (arith, at, below))
          | inr there ↦ there
        ];
      }

  module _ (numbers : ℕ → Option ℕ) (entered : ℕ → Bool) (inside : AreEntered history.events numbers entered) where
    -- a line's commit leaves its CPU inside of a REC where the next call is made inside of one
    entered_behind : (c : Claim history.events) (place number : ℕ) (command : Command)
        → IsCalled history.events place (cpu_named c.line) number command → number ≡ number_named c.line + 1
        → is_entered_behind (is_staying numbers c) c.entry (entered c.is_entry.called) ≡ entered place
    entered_behind c place number command is_called numbered =
        let cpu = cpu_named c.line in
        let finished = finished_before_call history is_history cpu (number_named c.line) number (omega (arith, numbered))
        (place, command, is_called) in
        let told = claimed_reply history.events (HasOnePlaces-from_history history is_history) c.line c.kind c.entry.given finished.1 finished.0
        c.is_entry.given finished.2 in
        entered_line history.events c.line c.entry (number_of numbers c) (entered c.is_entry.called) c.kind finished
        ∙ sym (inside.next c.is_entry.called finished.0 place cpu (number_named c.line) c.entry.command command c.entry.given
        c.is_entry.is_called (subst (IsReturned history.events finished.0 cpu (number_named c.line)) (sym told) finished.2)
        (subst (λ (n : ℕ). IsCalled history.events place cpu n command) numbered is_called))

    -- behind the lines of its calls before, the CPU is inside of a REC where its next call is made inside of one
    pub entered_next : (before : List (Claim history.events)) → Pairs (λ later c. Apart history.events c.line later.line) before
        → (place cpu number : ℕ) (command : Command) → IsCalled history.events place cpu number command → ComesNext before cpu number
        → is_entered_in (map (commit_of numbers) before) cpu ≡ entered place
    entered_next [] back place cpu zero command is_called next = sym (inside.first place cpu command is_called)
    entered_next [] back place cpu (suc m) command is_called next = absurd (next.first 0 (omega arith))
    entered_next (c ∷ cs) back place cpu number command is_called next = elim (cases_Bool (c.entry.cpu == cpu)) [
      | inl same ↦
          let of_cpu : cpu ≡ cpu_named c.line = sym (eqb-true c.entry.cpu cpu same) ∙ c.is_entry.cpu in
          let is = subst (λ (k : ℕ). IsCalled history.events place k number command) of_cpu is_called in
          let also = subst (λ (k : ℕ). ComesNext (c ∷ cs) k number) of_cpu next in
          let before = entered_next cs back.1 c.is_entry.called (cpu_named c.line) (number_named c.line) c.entry.command c.is_entry.is_called
          (next_before c cs number back.0 also) in
          rw same (ap (λ (k : ℕ). is_entered_behind (is_staying numbers c) c.entry (is_entered_in (map (commit_of numbers) cs) k)) of_cpu
          ∙ ap (is_entered_behind (is_staying numbers c) c.entry) before
          ∙ entered_behind c place number command is (next_number c cs number back.0 also))
      | inr other ↦ rw other (entered_next cs back.1 place cpu number command is_called (record {
        below = next.below.1;
        first = λ m below. elim (next.first m below) [
          | inl is ↦ absurd (both_ways (eq-eqb c.entry.cpu cpu (c.is_entry.cpu ∙ is.0)) other)
          | inr there ↦ there
        ];
      }))
    ]
