-- What is known of registers, event by event.
use Rattle.std.proofs.Common.{◌≡◌, ◌⊎◌, ℕ, ◌+◌, ◌==◌, true, false, List, [], Option, None, Some, inl, inr, refl, sym, ◌∙◌, ap, subst, arith}
use Rattle.std.proofs.lemmas.Bool.{cases_lt}
use Rattle.rmm_spec.specs.declared.call.Call.{Call}
use Rattle.rmm_spec.specs.declared.call.Call.TheVariants as call
use Rattle.rmm_spec.specs.declared.command.Command.{Command}
use Rattle.rmm_spec.specs.declared.event.Event.TheVariants.{Called, Returned}
use Rattle.rmm_spec.specs.declared.line.Line.TheVariants.{Keep}
use Rattle.rmm_spec.specs.declared.reply.Reply.{Reply}
use Rattle.rmm_spec.specs.Call.{call_of}
use Rattle.rmm_spec.specs.HistoryText.{History, IsHistory}
use Rattle.rmm_spec.specs.Linearization.{IsCalled, IsReturned, cpu_named, number_named}
use Rattle.verdict_laws.specs.Order.{LeadsNowhere}
use Rattle.verdict_laws.specs.Registers.{AreMine, AreNext, IsAmong, IsDone, IsEntered, IsRegister, Possibility, RegisterCall, done_call, is_placed, register_call, with_placed}
use Rattle.verdict_laws.proofs.RegisterCalls.{few_cpus}
use Rattle.verdict_laws.proofs.RegisterOrders.{HaveParts-return}
use Rattle.verdict_laws.proofs.RegisterParts.{HaveParts-first, HaveParts-next, LeadsNowhere-impossible}
use Rattle.verdict_laws.proofs.Steps.{apart_places}
use Rattle.registers.specs.declared.cpus.Cpu.{Cpu}
use Rattle.registers.specs.declared.cpus.Return.{Return}
use Rattle.registers.specs.declared.open_call.OpenCall.{OpenCall}
use Rattle.registers.specs.declared.slots.Slot.{Slot}
use Rattle.registers.specs.declared.slots.Slot.TheVariants.{AtFirst, Dropped, Kept}
use Rattle.registers.specs.Calls.{AsksForNone, DoesNothing}
use Rattle.registers.specs.Cpus.{AreCpus, CarriesOut, IsReturn}
use Rattle.registers.specs.Leads.{FitsOpen, Leads, call_done}
use Rattle.registers.specs.Opens.{HaveOpen}
use Rattle.registers.specs.Owners.{mine_at, rd_at, register_at}
use Rattle.registers.specs.Slots.{AreAsked, ArePossible, AreSlots, IsAsked, IsSlot, IsSlotOf}
use Rattle.registers.proofs.CallLaws.{done_call-ok}

-- each slot has one of the four registers of a realm
is_register : (slot : ℕ) → IsRegister (register_at slot)
is_register slot = (omega arith, omega arith)

-- before the first event
pub IsSlot-first : (history : History) (owners : List (Option ℕ)) (k : ℕ) (slot : Slot) → (slot ≡ AtFirst) ⊎ (slot ≡ Dropped)
    → IsSlot history owners 0 k slot
IsSlot-first history owners k slot is =
    let P : Slot → Type 0 = λ s. IsSlot history owners 0 k s in
    elim is [
      | inl at_first ↦ subst P (sym at_first) (record {
        mine = λ called cpu number command rd rec mpidr flags aux0 aux1 is_called before. absurd (omega (arith, before));
        parts = HaveParts-first history (register_at k) (mine_at owners k);
      })
      | inr dropped ↦ subst P (sym dropped) tt
    ]

module _ (history : History) (is_history : IsHistory history) (owners : List (Option ℕ)) where
  -- at the place a REC that is asked for is known, if one is
  Asked : ℕ → ℕ → Type 0
  Asked place k = (cpu number : ℕ) (command : Command) (rd rec mpidr flags aux0 aux1 : ℕ) → IsCalled history.events place cpu number command
      → call_of command ≡ call.RecCreate rd rec mpidr flags aux0 aux1 → mine_at owners k rec ≡ (rd == rd_at k)

  AreMine-next : (place k : ℕ) → AreMine history.events (register_at k) (mine_at owners k) place → Asked place k
      → AreMine history.events (register_at k) (mine_at owners k) (place + 1)
  unfolding Asked
  AreMine-next place k old here called cpu number command rd rec mpidr flags aux0 aux1 is_called before asks = elim (cases_lt called place) [
    | inl earlier ↦ old called cpu number command rd rec mpidr flags aux0 aux1 is_called earlier asks
    | inr late ↦
        let at : called ≡ place = omega (arith, late, before) in
        here cpu number command rd rec mpidr flags aux0 aux1 (subst (λ (p : ℕ). IsCalled history.events p cpu number command) at is_called) asks
  ]

  -- at the place no call that does something to the register returns
  NoneDone : ℕ → ℕ → Type 0
  NoneDone place k = (cpu number : ℕ) (given : Reply) → IsReturned history.events place cpu number given
      → IsDone history.events (register_at k) (mine_at owners k) (Keep cpu number) given None

  -- then what is known stays
  ArePossible-next : (place k : ℕ) (possibilities : List Possibility) → ArePossible history owners place k possibilities → Asked place k
      → NoneDone place k → ArePossible history owners (place + 1) k possibilities
  unfolding NoneDone
  ArePossible-next place k possibilities old here none = record {
    mine = AreMine-next place k old.mine here;
    parts = HaveParts-next history is_history (register_at k) (mine_at owners k) place none possibilities old.parts;
  }

  IsSlot-next : (place k : ℕ) (slot : Slot) → IsSlot history owners place k slot → Asked place k → NoneDone place k
      → IsSlot history owners (place + 1) k slot
  IsSlot-next place k AtFirst old here none = ArePossible-next place k _ old here none
  IsSlot-next place k (Kept possible) old here none = ArePossible-next place k possible.items old here none
  IsSlot-next place k Dropped old here none = tt

  -- ---- a call

  asked_there : (k : ℕ) (made : Call) (rd rec mpidr flags aux0 aux1 : ℕ) → made ≡ call.RecCreate rd rec mpidr flags aux0 aux1
      → IsAsked owners k made → mine_at owners k rec ≡ (rd == rd_at k)
  asked_there k made rd rec mpidr flags aux0 aux1 is asked = subst (λ (m : Call). IsAsked owners k m) is asked

  -- behind a call what isn't dropped is known
  pub AreSlots-call : (place cpu number : ℕ) (command : Command) (old new : List Slot) → IsCalled history.events place cpu number command
      → ((cpu number : ℕ) (given : Reply) → ¬ IsReturned history.events place cpu number given) → AreSlots history owners place old
      → AreAsked owners (call_of command) old new → AreSlots history owners (place + 1) new
  unfolding Asked NoneDone
  AreSlots-call place cpu number command old new is_called none were asked k slot is = elim (asked k slot is) [
    | inl dropped ↦ subst (λ (s : Slot). IsSlot history owners (place + 1) k s) (sym dropped) tt
    | inr there ↦
        IsSlot-next place k slot (were k slot there.0)
        (λ c n other rd rec mpidr flags aux0 aux1 is_other asks.
        let both : Some (Called cpu number command) ≡ Some (Called c n other) = sym is_called ∙ is_other in
        let same : command ≡ other = cc in
        asked_there k (call_of command) rd rec mpidr flags aux0 aux1 (ap (λ (m : Command). call_of m) same ∙ asks) there.1)
        (λ c n given returned. absurd (none c n given returned))
  ]

  -- what is known stays where there is no event
  pub AreSlots-none : (place : ℕ) (slots : List Slot)
      → ((cpu number : ℕ) (command : Command) → ¬ IsCalled history.events place cpu number command)
      → ((cpu number : ℕ) (given : Reply) → ¬ IsReturned history.events place cpu number given) → AreSlots history owners place slots
      → AreSlots history owners (place + 1) slots
  unfolding Asked NoneDone
  AreSlots-none place slots none_called none were k slot is =
      IsSlot-next place k slot (were k slot is)
      (λ c n command rd rec mpidr flags aux0 aux1 is_called asks. absurd (none_called c n command is_called))
      (λ c n given returned. absurd (none c n given returned))

  -- nothing is dropped where no REC is asked for
  pub AreAsked-none : (made : Call) (slots : List Slot) → AsksForNone made → AreAsked owners made slots slots
  AreAsked-none made slots none k slot is = inr (is, asked made none)
    where
      asked : (m : Call) → AsksForNone m → IsAsked owners k m
      asked (call.RecCreate rd rec mpidr flags aux0 aux1) asks = absurd asks
      asked _ asks = tt

  -- ---- a return

  module _ (cpus : List Cpu) (at : Return) (command : Command) (given : Reply) (are_cpus : AreCpus history.events at.place cpus)
      (returns : IsReturn history.events cpus at command given) where
    is_entered : IsEntered history.events at.cpu at.number at.entered
    is_entered =
        let there = (are_cpus.each at.cpu returns.one returns.is_one).is_entered in
        subst (λ (e : Option ℕ). IsEntered history.events at.cpu at.number e) (sym returns.entered)
        (subst (λ (n : ℕ). IsEntered history.events at.cpu n returns.one.entered) (sym returns.numbered) there)

    -- what the call that returns does
    is_done : (k : ℕ) → IsDone history.events (register_at k) (mine_at owners k) (Keep at.cpu at.number) given
        (done_call (register_at k) (mine_at owners k) at.entered (call_of command) given)
    is_done k = record {
      entered = at.entered;
      is_entered = is_entered;
      called = at.called;
      command = command;
      is_called = returns.called;
      is_given = (at.place, returns.returned);
      is = refl;
    }

    -- no REC is asked for there
    none_asked : (k : ℕ) → Asked at.place k
    unfolding Asked
    none_asked k cpu number other rd rec mpidr flags aux0 aux1 is_called asks =
        absurd (apart_places history.events at.place cpu number at.cpu at.number other given is_called returns.returned)

    none_done : (k : ℕ) → done_call (register_at k) (mine_at owners k) at.entered (call_of command) given ≡ None → NoneDone at.place k
    unfolding NoneDone
    none_done k none cpu number told returned =
        let both : Some (Returned cpu number told) ≡ Some (Returned at.cpu at.number given) = sym returned ∙ returns.returned in
        let of_cpu : at.cpu ≡ cpu = cc in
        let numbered : at.number ≡ number = cc in
        let same : given ≡ told = cc in
        let Is : ℕ → ℕ → Reply → Option RegisterCall → Type 0 =
        λ c n g done. IsDone history.events (register_at k) (mine_at owners k) (Keep c n) g done in
        subst (λ (g : Reply). Is cpu number g None) same
        (subst (λ (n : ℕ). Is cpu n given None) numbered
        (subst (λ (c : ℕ). Is c at.number given None) of_cpu
        (subst (λ (done : Option RegisterCall). Is at.cpu at.number given done) none (is_done k))))

    -- a return that does nothing to a register leaves it
    IsSlotOf-return : (k : ℕ) (slots : List Slot) → done_call (register_at k) (mine_at owners k) at.entered (call_of command) given ≡ None
        → IsSlotOf history owners at.place slots k → IsSlotOf history owners (at.place + 1) slots k
    IsSlotOf-return k slots none old slot is = IsSlot-next at.place k slot (old slot is) (none_asked k) (none_done k none)

    pub AreSlots-nothing : (slots : List Slot) → DoesNothing (call_of command) given → AreSlots history owners at.place slots
        → AreSlots history owners (at.place + 1) slots
    AreSlots-nothing slots nothing old k =
        IsSlotOf-return k slots (nothing.done (register_at k) (mine_at owners k) at.entered) (old k)

    module _ (k : ℕ) (done : RegisterCall)
        (is : done_call (register_at k) (mine_at owners k) at.entered (call_of command) given ≡ Some done)
        (opens : List OpenCall) (have : HaveOpen history owners at.place at.cpu k opens)
        (possible begun next : List Possibility) (leads : Leads history.events opens at.place at.cpu done possible begun next) where
      -- the possibilities that follow are the next ones, since each open line is one of the open calls
      are_next : AreNext history (register_at k) (mine_at owners k) at.place at.cpu given done possible begun next
      are_next = record {
        stays = leads.stays;
        begins = leads.begins;
        grows = λ p line other also among apart kind is_open unplaced is_also fits.
            let under = few_cpus history is_history (cpu_named line) (number_named line) is_open.called is_open.command is_open.is_called in
            let found = have line also p.value apart under
            (record { kind = kind; is_open = is_open; given = other; is_done = is_also; fits = fits }) in
            let one = found.0 in
            let of = found.2 in
            let grown = leads.grows p one among found.1 (subst (λ (c : ℕ). is_placed p c ≡ false) (sym of.cpu) unplaced)
            (subst (λ (d : RegisterCall). FitsOpen history.events d one.returned p.value) (sym of.done) of.fits) in
            subst (λ (d : RegisterCall). IsAmong (with_placed p (cpu_named line) true (Some d)) begun) of.done
            (subst (λ (c : ℕ). IsAmong (with_placed p c true (Some (call_done one.done))) begun) of.cpu grown);
        ends = λ p among fits. leads.ends p among (at.cpu, at.number, given, returns.returned, fits);
      }

      -- one that does something leads to the next possibilities
      ArePossible-return : ArePossible history owners at.place k possible → ArePossible history owners (at.place + 1) k next
      ArePossible-return old = record {
        mine = AreMine-next at.place k old.mine (none_asked k);
        parts = HaveParts-return history is_history (register_at k) (mine_at owners k) at.place at.cpu at.number given returns.returned done
            (subst
            (λ (d : Option RegisterCall). IsDone history.events (register_at k) (mine_at owners k) (Keep at.cpu at.number) given d) is (is_done k))
            possible begun next are_next (is_register k) old.mine old.parts;
      }

  module _ (cpus : List Cpu) (at : Return) (made : Call) (are_cpus : AreCpus history.events at.place cpus)
      (carries : CarriesOut history.events cpus at made) where
    -- what a call that isn't refused does
    done_there : (k : ℕ) → done_call (register_at k) (mine_at owners k) at.entered (call_of carries.command) carries.given
        ≡ register_call (register_at k) (mine_at owners k) at.entered made
    done_there k =
        done_call-ok (register_at k) (mine_at owners k) at.entered (call_of carries.command) carries.given carries.ok
        ∙ ap (λ (m : Call). register_call (register_at k) (mine_at owners k) at.entered m) (sym carries.is_made)

    pub IsSlotOf-other : (k : ℕ) (slots : List Slot) → register_call (register_at k) (mine_at owners k) at.entered made ≡ None
        → IsSlotOf history owners at.place slots k → IsSlotOf history owners (at.place + 1) slots k
    IsSlotOf-other k slots none old =
        IsSlotOf-return cpus at carries.command carries.given are_cpus carries.returns k slots (done_there k ∙ none) old

    module _ (k : ℕ) (done : RegisterCall) (is : register_call (register_at k) (mine_at owners k) at.entered made ≡ Some done)
        (opens : List OpenCall) (have : HaveOpen history owners at.place at.cpu k opens)
        (possible begun next : List Possibility) (leads : Leads history.events opens at.place at.cpu done possible begun next) where
      pub ArePossible-led : ArePossible history owners at.place k possible → ArePossible history owners (at.place + 1) k next
      ArePossible-led old =
          ArePossible-return cpus at carries.command carries.given are_cpus carries.returns k done (done_there k ∙ is) opens have possible begun next
          leads old

      -- where there are none, there is no order
      pub LeadsNowhere-led : ArePossible history owners at.place k possible → next ≡ [] → LeadsNowhere history []
      LeadsNowhere-led old none =
          let there = subst (λ (ps : List Possibility). ArePossible history owners (at.place + 1) k ps) none (ArePossible-led old) in
          LeadsNowhere-impossible history (register_at k) (mine_at owners k) (at.place + 1) there.parts
