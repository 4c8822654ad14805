-- An order has one first fault at most.
use Rattle.verdict_laws.proofs.Common.{◌≡◌, ℕ, zero, suc, ◌<◌, ◌⊎◌, inl, inr, List, [], ◌∷◌, Some, refl, sym, ◌∙◌, ap, subst, arith, slice_get, cases_order, same_Some, Event, Called, Line, History, State, opening}
use Rattle.std.proofs.Common.{take, ⊎_elim}
use Rattle.rmm_spec.specs.declared.verdict.Reason.{Reason}
use Rattle.rmm_spec.specs.declared.verdict.Reason.TheVariants as reason
use Rattle.rmm_spec.specs.FirstFault.{Passes, FailsBy, FailsAt, IsFirstMissing, IsMissing, FirstFault}
use Rattle.lemmas.proofs.Elements.{slice_get-front, slice_get-take}
use Rattle.spec_lemmas.proofs.Calls.{HasOnePlaces}
use Rattle.rmm_laws.proofs.EntryRuns.{not-IsRefused}

-- ---- reasons

-- a line fails by one reason, since each denies the reasons before it
one_reason : (why other : Reason) (events : List Event) (before : List Line) (old new : State) (line : Line)
    → FailsBy why events before old line → FailsBy other events before new line → why ≡ other
one_reason (reason.Missing cpu number) other events before old new line p q = absurd p
one_reason why (reason.Missing cpu number) events before old new line p q = absurd q
one_reason reason.Unknown reason.Unknown events before old new line p q = refl
one_reason reason.Unknown other events before old new line p q = absurd (p q.0)
one_reason why reason.Unknown events before old new line p q = absurd (q p.0)
one_reason reason.Repeated reason.Repeated events before old new line p q = refl
one_reason reason.Repeated other events before old new line p q = absurd (q.1 p.1)
one_reason why reason.Repeated events before old new line p q = absurd (p.1 q.1)
one_reason reason.Kind reason.Kind events before old new line p q = refl
one_reason reason.Kind other events before old new line p q = absurd (p.2 q.2)
one_reason why reason.Kind events before old new line p q = absurd (q.2 p.2)
one_reason reason.Order reason.Order events before old new line p q = refl
one_reason reason.Order other events before old new line p q = absurd (q.3 p.3)
one_reason why reason.Order events before old new line p q = absurd (p.3 q.3)
one_reason reason.Reply reason.Reply events before old new line p q = refl

-- two readings of one place of the lines
one_reason_at : (why other : Reason) (events : List Event) (lines : List Line) (i j : ℕ) (line last : Line) (old new : State) → i ≡ j
    → slice_get lines i ≡ Some line → slice_get lines j ≡ Some last
    → FailsBy why events (take i lines) old line → FailsBy other events (take j lines) new last → why ≡ other
one_reason_at why other events lines i j line last old new at is_line is_last p q =
    let same : line ≡ last = same_Some line last (sym is_line ∙ ap (λ (n : ℕ). slice_get lines n) at ∙ is_last) in
    one_reason why other events (take i lines) old new line p
    (subst (λ (n : ℕ). FailsBy other events (take n lines) new line) (sym at)
    (subst (λ (x : Line). FailsBy other events (take j lines) new x) (sym same) q))

-- ---- lines that pass have no line that fails

-- each reason against what passing says
not-FailsBy : (history : History) → HasOnePlaces history.events → (why : Reason) (lines : List Line) (index : ℕ) (line : Line) (old last : State)
    → slice_get lines index ≡ Some line → Passes history (take index lines) old → FailsBy why history.events (take index lines) old line
    → Passes history lines last → ⊥
not-FailsBy history one reason.Unknown lines index line old last is before fails all = fails (all.names.known index line is)
not-FailsBy history one reason.Repeated lines index line old last is before fails all =
    let named = fails.1 in
    let earlier = slice_get-take index lines named.0 named.1 named.2 in
    all.names.once named.0 index named.1 line earlier.0 earlier.1 is (named.3, named.4)
not-FailsBy history one reason.Kind lines index line old last is before fails all = fails.2 (all.names.kinds index line is)
not-FailsBy history one reason.Order lines index line old last is before fails all =
    let late = fails.3 in
    let earlier = slice_get-take index lines late.0 late.1 late.2 in
    all.real_time late.0 index late.1 line earlier.0 earlier.1 is late.3
not-FailsBy history one reason.Reply lines index line old last is before fails all =
    not-IsRefused history.events one lines all.entries (opening history.config) last all.run.claimed all.run.run
    index line before.entries old is before.run.claimed before.run.run fails.4
not-FailsBy history one (reason.Missing cpu number) lines index line old last is before fails all = fails

-- the shorter front of a longer one
take-front : {X : Type 0} (i n : ℕ) (xs : List X) → i < n → take i (take n xs) ≡ take i xs
take-front zero n xs below = refl
take-front (suc i) zero xs below = absurd (omega (arith, below))
take-front (suc i) (suc n) [] below = refl
take-front (suc i) (suc n) (x ∷ xs) below = ap (λ ys. x ∷ ys) (take-front i n xs (omega (arith, below)))

-- a line that fails isn't among the first lines that pass
not-FailsAt-below : (history : History) → HasOnePlaces history.events → (why : Reason) (lines : List Line) (step count : ℕ) (last : State)
    → (fault : FailsAt history lines step why) → fault.index < count → Passes history (take count lines) last → ⊥
not-FailsAt-below history one why lines step count last fault below passes =
    let front : take fault.index lines ≡ take fault.index (take count lines) = sym (take-front fault.index count lines below) in
    not-FailsBy history one why (take count lines) fault.index fault.line fault.old last
    (slice_get-front count lines fault.index fault.line below fault.is_line)
    (subst (λ (ls : List Line). Passes history ls fault.old) front fault.before)
    (subst (λ (ls : List Line). FailsBy why history.events ls fault.old fault.line) front fault.fails) passes

-- ---- first faults

-- a first fault is a line that fails or a missing call
fault_cases : (why : Reason) (history : History) (lines : List Line) (step : ℕ) → FirstFault why history lines step
    → FailsAt history lines step why ⊎ ((cpu : ℕ) × (number : ℕ) × (why ≡ reason.Missing cpu number) × IsMissing history lines step cpu number)
fault_cases reason.Unknown history lines step fault = inl fault
fault_cases reason.Repeated history lines step fault = inl fault
fault_cases reason.Kind history lines step fault = inl fault
fault_cases reason.Order history lines step fault = inl fault
fault_cases reason.Reply history lines step fault = inl fault
fault_cases (reason.Missing cpu number) history lines step fault = inr (cpu, number, refl, fault)

-- one step, and one reason
pub record SameFaults (step later : ℕ) (why other : Reason) : Type 0 where
  pub steps : step ≡ later
  pub reasons : why ≡ other

-- two lines that fail first are one
same_failing : (history : History) → HasOnePlaces history.events → (lines : List Line) (step later : ℕ) (why other : Reason)
    → FailsAt history lines step why → FailsAt history lines later other → SameFaults step later why other
same_failing history one lines step later why other a b =
    ⊎_elim
    (λ (at : a.index ≡ b.index). record {
      steps = omega (arith, a.counted, b.counted, at);
      reasons = one_reason_at why other history.events lines a.index b.index a.line b.line a.old b.old at a.is_line b.is_line a.fails b.fails;
    })
    (⊎_elim
    (λ (below : a.index < b.index). absurd (not-FailsAt-below history one why lines step b.index b.old a below b.before))
    (λ (above : b.index < a.index). absurd (not-FailsAt-below history one other lines later a.index a.old b above a.before)))
    (cases_order a.index b.index)

-- lines that all pass have no line that fails
not-FailsAt-missing : (history : History) → HasOnePlaces history.events → (lines : List Line) (step later cpu number : ℕ) (why : Reason)
    → FailsAt history lines step why → IsMissing history lines later cpu number → ⊥
not-FailsAt-missing history one lines step later cpu number why a b =
    not-FailsBy history one why lines a.index a.line a.old b.last a.is_line a.before a.fails b.all

-- the first missing call was made at one place, so it is one
same_missing : (events : List Event) (lines : List Line) (cpu number other_cpu other : ℕ) → IsFirstMissing events lines cpu number
    → IsFirstMissing events lines other_cpu other → reason.Missing cpu number ≡ reason.Missing other_cpu other
same_missing events lines cpu number other_cpu other a b =
    ⊎_elim
    (λ (at : a.called ≡ b.called).
    let both : Some (Called cpu number a.command) ≡ Some (Called other_cpu other b.command) =
    sym a.is_called ∙ ap (λ (p : ℕ). slice_get events p) at ∙ b.is_called in cc)
    (⊎_elim
    (λ (before : a.called < b.called). absurd (a.unnamed (b.first a.called cpu number a.command before a.is_called a.finished)))
    (λ (after : b.called < a.called). absurd (b.unnamed (a.first b.called other_cpu other b.command after b.is_called b.finished))))
    (cases_order a.called b.called)

-- two first faults of an order are one
pub one_fault : (history : History) → HasOnePlaces history.events → (lines : List Line) (step later : ℕ) (why other : Reason)
    → FirstFault why history lines step → FirstFault other history lines later → SameFaults step later why other
one_fault history one lines step later why other p q = elim (fault_cases why history lines step p) [
  | inl a ↦ elim (fault_cases other history lines later q) [
    | inl b ↦ same_failing history one lines step later why other a b
    | inr b ↦ absurd (not-FailsAt-missing history one lines step later b.0 b.1 why a b.3)
  ]
  | inr a ↦ elim (fault_cases other history lines later q) [
    | inl b ↦ absurd (not-FailsAt-missing history one lines later step a.0 a.1 other b a.3)
    | inr b ↦ record {
      steps = omega (arith, a.3.counted, b.3.counted);
      reasons = a.2 ∙ same_missing history.events lines a.0 a.1 b.0 b.1 a.3.missing b.3.missing ∙ sym b.2;
    }
  ]
]
