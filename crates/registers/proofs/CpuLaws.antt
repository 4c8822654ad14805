-- Where the CPUs stand, and what a return changes there.
use Rattle.std.proofs.Common.{◌≡◌, ℕ, ◌+◌, ◌<◌, List, Option, None, Some, IfNone, IfSome, slice_index_or, slice_set, MatchOption, inl, inr, refl, sym, ◌∙◌, subst, arith, add-one}
use Rattle.std.specs.List.{slice_get}
use Rattle.std.proofs.lemmas.Bool.{cases_lt, cases_order}
use Rattle.std.proofs.lemmas.Bool.Decides.{eqb_tells}
use Rattle.std.proofs.lemmas.List.{length-set}
use Rattle.std.proofs.lemmas.Option.{slice_get-get_or}
use Rattle.rmm_spec.specs.declared.command.Command.{Command}
use Rattle.rmm_spec.specs.declared.event.Event.TheVariants.{Returned}
use Rattle.rmm_spec.specs.declared.reply.Reply.{Reply}
use Rattle.rmm_spec.specs.Call.{call_of}
use Rattle.rmm_spec.specs.HistoryText.{History, IsHistory}
use Rattle.rmm_spec.specs.Linearization.{IsCalled, IsReturned, IsKnown}
use Rattle.history.specs.Calls.{ArePlacesOf}
use Rattle.history.specs.declared.history.Places.{Places}
use Rattle.spec_lemmas.proofs.Calls.{told_at_call, told_at_return}
use Rattle.spec_lemmas.proofs.Calls.{HasOnePlaces-from_history}
use Rattle.verdict_laws.specs.Registers.{IsOpenCall, entered_after}
use Rattle.verdict_laws.proofs.CallOrder.{few_calls, returns_before_later, returns_in_order}
use Rattle.registers.specs.declared.cpus.Cpu.{Cpu}
use Rattle.registers.specs.declared.cpus.Return.{Return}
use Rattle.registers.specs.Cpus.{AreCpus, IsCpu, IsReturn, IsSomeReturn}
use Rattle.registers.proofs.Elements.{slice_get-set_cases}

module _ (history : History) where
  -- a CPU whose call doesn't return at the place stands there behind it
  IsCpu-next : (place cpu : ℕ) (one : Cpu) → IsCpu history.events place cpu one
      → ((given : Reply) → ¬ IsReturned history.events place cpu one.number given) → IsCpu history.events (place + 1) cpu one
  IsCpu-next place cpu one old none = record {
    is_entered = old.is_entered;
    places = old.places;
    below = λ number under. let was = old.below number under in let before = was.3 in (was.0, was.1, was.2, omega (arith, before));
    unreturned = λ returned given is. elim (eqb_tells returned place) [
      | inl same ↦ absurd (none given (subst (λ (p : ℕ). IsReturned history.events p cpu one.number given) same.1 is))
      | inr apart ↦
          let late = old.unreturned returned given is in
          let differs = apart.1 in omega (arith, late, differs)
    ];
  }

  -- behind a call each CPU stands where it stood
  pub AreCpus-call : (place : ℕ) (cpus : List Cpu) → AreCpus history.events place cpus
      → ((cpu number : ℕ) (given : Reply) → ¬ IsReturned history.events place cpu number given) → AreCpus history.events (place + 1) cpus
  AreCpus-call place cpus old none = record {
    size = old.size;
    each = λ cpu one is. IsCpu-next place cpu one (old.each cpu one is) (λ given. none cpu one.number given);
  }

module _ (history : History) (is_history : IsHistory history) where
  -- one whose call does goes on to its next call
  IsCpu-return : (place cpu : ℕ) (one : Cpu) (called : ℕ) (command : Command) (given : Reply) (entered : Option ℕ) (places : Option Places)
      → IsCpu history.events place cpu one → IsCalled history.events called cpu one.number command
      → IsReturned history.events place cpu one.number given → entered ≡ entered_after one.entered (call_of command) given
      → MatchOption places (¬ IsKnown history.events cpu (one.number + 1)) (ArePlacesOf history.events cpu (one.number + 1))
      → IsCpu history.events (place + 1) cpu (record { number = one.number + 1; places = places; entered = entered })
  IsCpu-return place cpu one called command given entered places old is_called returned after are = record {
    is_entered = rw add-one (
      one.entered,
      old.is_entered,
      record {
        called = called;
        command = command;
        is_called = is_called;
        returned = place;
        given = given;
        is_returned = returned;
        is = after;
      },
    );
    places = are;
    below = λ number under. elim (cases_lt number one.number) [
      | inl earlier ↦ let was = old.below number earlier in let before = was.3 in (was.0, was.1, was.2, omega (arith, before))
      | inr late ↦
          let same : one.number ≡ number = omega (arith, late, under) in (
            place,
            given,
            subst (λ (n : ℕ). IsReturned history.events place cpu n given) same returned,
            omega arith,
          )
    ];
    unreturned = λ later told is. elim (eqb_tells later place) [
      | inl same ↦
          let here = subst (λ (p : ℕ). IsReturned history.events p cpu (one.number + 1) told) same.1 is in
          let both : Some (Returned cpu (one.number + 1) told) ≡ Some (Returned cpu one.number given) = sym here ∙ returned in
          let numbered : one.number + 1 ≡ one.number = cc in
          absurd (omega (arith, numbered))
      | inr apart ↦
          let order = returns_in_order history is_history cpu one.number (one.number + 1) place later given told (omega arith) returned is in
          let differs = apart.1 in omega (arith, order, differs)
    ];
  }

  -- behind a return each but the one
  pub AreCpus-return : (cpus : List Cpu) (at : Return) (command : Command) (given : Reply) (entered : Option ℕ) (places : Option Places)
      → AreCpus history.events at.place cpus → IsReturn history.events cpus at command given
      → entered ≡ entered_after at.entered (call_of command) given
      → MatchOption places (¬ IsKnown history.events at.cpu (at.number + 1)) (ArePlacesOf history.events at.cpu (at.number + 1))
      → AreCpus history.events (at.place + 1) (slice_set cpus at.cpu (record { number = at.number + 1; places = places; entered = entered }))
  AreCpus-return cpus at command given entered places old returns after are = record {
    size = length-set cpus at.cpu (record { number = at.number + 1; places = places; entered = entered }) ∙ old.size;
    each = λ cpu one is. elim (slice_get-set_cases cpus at.cpu (record { number = at.number + 1; places = places; entered = entered }) cpu one is) [
      | inl here ↦
          let moved = IsCpu-return at.place at.cpu (record { number = at.number; places = returns.one.places; entered = at.entered })
          at.called command given entered places was returns.called returns.returned after are in
          subst (λ (c : ℕ). IsCpu history.events (at.place + 1) c one) (sym here.0)
          (subst (λ (o : Cpu). IsCpu history.events (at.place + 1) at.cpu o) (sym here.1) moved)
      | inr there ↦
          let apart = there.0 in
          IsCpu-next history at.place cpu one (old.each cpu one there.1) (λ told is.
          let both : Some (Returned cpu one.number told) ≡ Some (Returned at.cpu at.number given) = sym is ∙ returns.returned in
          let same : cpu ≡ at.cpu = cc in apart same)
    ];
  }
    where
      was : IsCpu history.events at.place at.cpu (record { number = at.number; places = returns.one.places; entered = at.entered })
      was =
          let there = old.each at.cpu returns.one returns.is_one in
          let same : returns.one ≡ record { number = at.number; places = returns.one.places; entered = at.entered } =
          rw (returns.numbered, returns.entered) refl in
          subst (λ (o : Cpu). IsCpu history.events at.place at.cpu o) same there

  -- an open call of a CPU is its first that hasn't returned
  pub open_number : (place cpu : ℕ) (one : Cpu) (number : ℕ) → IsCpu history.events place cpu one → IsOpenCall history.events place cpu number
      → number ≡ one.number
  open_number place cpu one number old is_open = elim (cases_order number one.number) [
    | inl same ↦ same
    | inr apart ↦ elim apart [
      | inl under ↦
          let was = old.below number under in
          let late = is_open.unreturned was.0 was.1 was.2 in
          let early = was.3 in absurd (omega (arith, late, early))
      | inr over ↦
          let order = returns_before_later history is_history cpu one.number number over (is_open.called, is_open.command, is_open.is_called) in
          let at = (HasOnePlaces-from_history history is_history).one_call order.called is_open.called cpu number order.command is_open.command
          order.is_called is_open.is_called in
          let late = old.unreturned order.returned order.given order.is_returned in
          let early = is_open.before in
          let before = order.before in absurd (omega (arith, at, late, early, before))
    ]
  ]

  -- the number of a call isn't large
  pub few_numbers : (cpus : List Cpu) (at : Return) (command : Command) (given : Reply) → IsReturn history.events cpus at command given
      → at.number < 1000000
  few_numbers cpus at command given returns = few_calls history is_history at.cpu at.number (at.called, command, returns.called)

-- where one of eight stands
pub is_cpu_at : (history : History) (place : ℕ) (cpus : List Cpu) (cpu : ℕ) (other : Cpu) → AreCpus history.events place cpus → cpu < 8
    → IsCpu history.events place cpu (slice_index_or cpus cpu other)
is_cpu_at history place cpus cpu other are under =
    are.each cpu (slice_index_or cpus cpu other) (slice_get-get_or cpus cpu other (omega (arith, under, are.size)))

-- and the places of its call there
pub places_at : (history : History) (place : ℕ) (cpus : List Cpu) (cpu : ℕ) (other : Cpu) (places : Places) → AreCpus history.events place cpus
    → cpu < 8 → (slice_index_or cpus cpu other).places ≡ Some places
    → ArePlacesOf history.events cpu (slice_index_or cpus cpu other).number places
places_at history place cpus cpu other places are under some = rw some at (is_cpu_at history place cpus cpu other are under).places

-- the call that returns there
pub IsReturn-of : (history : History) (place cpu : ℕ) (cpus : List Cpu) (one : Cpu) (places : Places) (returned : ℕ)
    → IsCpu history.events place cpu one → slice_get cpus cpu ≡ Some one → one.places ≡ Some places → places.returned ≡ Some returned
    → returned ≡ place
    → IsSomeReturn history.events cpus
    (record { place = place; cpu = cpu; number = one.number; called = places.called; entered = one.entered })
IsReturn-of history place cpu cpus one places returned is_cpu is_one some finished same =
    let are : ArePlacesOf history.events cpu one.number places = rw some at is_cpu.places in
    let told = rw finished at are.returned in (
      told.0,
      are.called.0,
      record {
        one = one;
        is_one = is_one;
        numbered = refl;
        entered = refl;
        called = are.called.1;
        returned = subst (λ (p : ℕ). IsReturned history.events p cpu one.number told.0) same told.1;
      },
    )

-- it is of the command and the reply that are told there
pub IsReturn-told : (history : History) (cpus : List Cpu) (at : Return) (command : Command) (given : Reply)
    → IsSomeReturn history.events cpus at
    → (c : ℕ) × (n : ℕ) × IsCalled history.events at.called c n command → (c : ℕ) × (n : ℕ) × IsReturned history.events at.place c n given
    → IsReturn history.events cpus at command given
IsReturn-told history cpus at command given there is_command is_given = record {
  one = there.2.one;
  is_one = there.2.is_one;
  numbered = there.2.numbered;
  entered = there.2.entered;
  called = told_at_call history.events at.called at.cpu at.number command (there.1, there.2.called) is_command;
  returned = told_at_return history.events at.place at.cpu at.number given (there.0, there.2.returned) is_given;
}

-- the places of a call, where there is one
pub MatchOption-places : (history : History) (cpu number : ℕ) (places : Option Places)
    → IfSome places (ArePlacesOf history.events cpu number) → IfNone places (¬ IsKnown history.events cpu number)
    → MatchOption places (¬ IsKnown history.events cpu number) (ArePlacesOf history.events cpu number)
MatchOption-places history cpu number None some none = none
MatchOption-places history cpu number (Some places) some none = some
