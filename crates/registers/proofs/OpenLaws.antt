-- The open calls that do something to a register.
use Rattle.std.proofs.Common.{◌≡◌, ℕ, ◌+◌, ◌<◌, ◌≤◌, Bool, List, [], ◌∷◌, ◌++◌, Option, None, Some, MatchOption, inl, inr, length, refl, sym, ◌∙◌, subst, arith}
use Rattle.std.specs.List.{slice_get}
use Rattle.std.specs.Option.{option_map}
use Rattle.std.proofs.lemmas.Bool.{cases_lt}
use Rattle.std.proofs.lemmas.Option.{none-some, same_Some}
use Rattle.rmm_spec.specs.declared.call.Call.{Call}
use Rattle.rmm_spec.specs.declared.command.Command.{Command}
use Rattle.rmm_spec.specs.declared.line.Line.{Line}
use Rattle.rmm_spec.specs.declared.line.Line.TheVariants.{Keep, Unfinished}
use Rattle.rmm_spec.specs.declared.measurement.Measurement.{Measurement}
use Rattle.rmm_spec.specs.declared.reply.Reply.{Reply}
use Rattle.rmm_spec.specs.Call.{call_of}
use Rattle.rmm_spec.specs.HistoryText.{History, IsHistory}
use Rattle.rmm_spec.specs.Linearization.{IsCalled, IsReturned, IsFinished, IsOfItsKind, IsReplyOf, cpu_named, number_named}
use Rattle.spec_lemmas.proofs.Calls.{same_given, told_at_call, told_at_return}
use Rattle.spec_lemmas.proofs.Calls.{HasOnePlaces-from_history}
use Rattle.history.specs.Calls.{ArePlacesOf}
use Rattle.history.specs.declared.history.Places.{Places}
use Rattle.verdict_laws.specs.Registers.{Begins, Extends, FitsValue, IsDone, IsEntered, IsOpenCall, Reads, Register, RegisterCall, done_call, register_call}
use Rattle.verdict_laws.proofs.RegisterCalls.{same_done}
use Rattle.registers.specs.declared.cpus.Cpu.{Cpu}
use Rattle.registers.specs.declared.done.Done.{Done}
use Rattle.registers.specs.declared.open_call.OpenCall.{OpenCall}
use Rattle.registers.specs.Calls.{DoesNothing, IsCarriedOut}
use Rattle.registers.specs.Cpus.{IsCpu}
use Rattle.registers.specs.Leads.{FitsOpen, FitsUnfinished, call_done}
use Rattle.registers.specs.Opens.{HasOpen, HaveBelow, IsLineOf, IsOpenLine, IsReturnPlace, IsTold}
use Rattle.registers.specs.Owners.{mine_at, register_at}
use Rattle.registers.proofs.CallLaws.{done_call-ok, done_call-some}
use Rattle.registers.proofs.CpuLaws.{open_number}
use Rattle.lemmas.proofs.Elements.{slice_get-append, slice_get-push, slice_get-push_cases}

-- a call that doesn't return fits by any reply that it would fit by
fits_unfinished : (also : RegisterCall) (value : Option Measurement) (given : Reply) → FitsValue (Some also) value given → FitsUnfinished also value
fits_unfinished (Begins algo) value given fits = tt
fits_unfinished (Extends size values) value given fits = tt
fits_unfinished Reads value given fits = (fits.0, fits.1)

-- what a line's call does by its reply it does by the reply that is told, and fits by it
record Told (history : History) (register : Register) (mine : ℕ → Bool) (entered : Option ℕ) (made : Call) (returned : Option ℕ) (told : Reply)
    (also : RegisterCall) (value : Option Measurement) : Type 0 where
  ok : IsCarriedOut told
  does : register_call register mine entered made ≡ Some also
  fits : FitsOpen history.events also returned value

module _ (history : History) (is_history : IsHistory history) where
  line_told : (register : Register) (mine : ℕ → Bool) (entered : Option ℕ) (made : Call) (returned : Option ℕ) (told : Reply) (line : Line)
      (given : Reply) (also : RegisterCall) (value : Option Measurement) → IsOfItsKind history.events line → IsReplyOf history.events line given
      → MatchOption returned (¬ IsFinished history.events (cpu_named line) (number_named line))
      (λ place. (answer : Reply) × IsReturned history.events place (cpu_named line) (number_named line) answer)
      → IsTold history.events returned told → Some also ≡ done_call register mine entered made given → FitsValue (Some also) value given
      → Told history register mine entered made returned told also value
  line_told register mine entered made None told (Keep cpu number) given also value kind is are is_told does fits = absurd (are kind)
  line_told register mine entered made None told (Unfinished cpu number claimed) given also value kind is are is_told does fits = record {
    ok = is_told;
    does = sym (does ∙ done_call-ok register mine entered made given (done_call-some register mine entered made given also does));
    fits = fits_unfinished also value given fits;
  }
  line_told register mine entered made (Some place) told (Unfinished cpu number claimed) given also value kind is are is_told does fits =
      absurd (kind (place, are.0, are.1))
  line_told register mine entered made (Some place) told (Keep cpu number) given also value kind is are is_told does fits =
      let there = told_at_return history.events place cpu number told are is_told in
      let one = HasOnePlaces-from_history history is_history in
      let same = same_given history.events one is.0 place cpu number given told is.1 there in
      let ok = done_call-some register mine entered made given also does in
      record {
        ok = subst IsCarriedOut same ok;
        does = sym (does ∙ done_call-ok register mine entered made given ok);
        fits = (cpu, number, told, there, subst (λ (g : Reply). FitsValue (Some also) value g) same fits);
      }

  module _ (owners : List (Option ℕ)) (place slot cpu : ℕ) (one : Cpu) (is_cpu : IsCpu history.events place cpu one) where
    -- a CPU has no open call that isn't made, or is made later
    pub HasOpen-unmade : one.places ≡ None → HasOpen history owners place slot cpu None
    HasOpen-unmade none line also value of_cpu is_line =
        let is_open = subst (λ (c : ℕ). IsOpenCall history.events place c (number_named line)) of_cpu is_line.is_open in
        let numbered = open_number history is_history place cpu one (number_named line) is_cpu is_open in
        let unknown = rw none at is_cpu.places in
        let made = subst (λ (n : ℕ). IsCalled history.events is_open.called cpu n is_open.command) numbered is_open.is_called in
        absurd (unknown (is_open.called, is_open.command, made))

    module _ (places : Places) (some : one.places ≡ Some places) where
      are_places : ArePlacesOf history.events cpu one.number places
      are_places = rw some at is_cpu.places

      pub HasOpen-later : place ≤ places.called → HasOpen history owners place slot cpu None
      HasOpen-later late line also value of_cpu is_line =
          let is_open = subst (λ (c : ℕ). IsOpenCall history.events place c (number_named line)) of_cpu is_line.is_open in
          let numbered = open_number history is_history place cpu one (number_named line) is_cpu is_open in
          let made = subst (λ (n : ℕ). IsCalled history.events is_open.called cpu n is_open.command) numbered is_open.is_called in
          let at = (HasOnePlaces-from_history history is_history).one_call is_open.called places.called cpu one.number is_open.command
          are_places.called.0 made are_places.called.1 in
          let before = is_open.before in absurd (omega (arith, at, before, late))

      module _ (command : Command) (is_command : (c : ℕ) × (n : ℕ) × IsCalled history.events places.called c n command)
          (told : Reply) (is_told : IsTold history.events places.returned told) where
        -- what the line's call does is what the CPU's call does
        is_line_told : (line : Line) (also : RegisterCall) (value : Option Measurement) → cpu_named line ≡ cpu
            → IsOpenLine history owners place slot line also value
            → Told history (register_at slot) (mine_at owners slot) one.entered (call_of command) places.returned told also value
        is_line_told line also value of_cpu is_line =
            let register = register_at slot in
            let mine = mine_at owners slot in
            let made = call_of command in
            let is_open = subst (λ (c : ℕ). IsOpenCall history.events place c (number_named line)) of_cpu is_line.is_open in
            let numbered = sym (open_number history is_history place cpu one (number_named line) is_cpu is_open) in
            let of_line = sym of_cpu in
            let entered = subst (λ (c : ℕ). IsEntered history.events c (number_named line) one.entered) of_line
            (subst (λ (n : ℕ). IsEntered history.events cpu n one.entered) numbered is_cpu.is_entered) in
            let are = subst (λ (c : ℕ). ArePlacesOf history.events c (number_named line) places) of_line
            (subst (λ (n : ℕ). ArePlacesOf history.events cpu n places) numbered are_places) in
            let is_called = told_at_call history.events places.called (cpu_named line) (number_named line) command are.called is_command in
            let is_done : IsDone history.events register mine line is_line.given (done_call register mine one.entered made is_line.given) = record {
              entered = one.entered;
              is_entered = entered;
              called = places.called;
              command = command;
              is_called = is_called;
              is_given = is_line.is_done.is_given;
              is = refl;
            } in
            let does = same_done history is_history register mine line is_line.given is_line.given (Some also)
            (done_call register mine one.entered made is_line.given) is_line.is_done is_done in
            line_told register mine one.entered made places.returned told line is_line.given also value is_line.kind is_line.is_done.is_given
            are.returned is_told does is_line.fits

        -- a call that is refused, or does nothing, is that of no line
        pub HasOpen-nothing : DoesNothing (call_of command) told → HasOpen history owners place slot cpu None
        HasOpen-nothing nothing line also value of_cpu is_line =
            let there = is_line_told line also value of_cpu is_line in
            let register = register_at slot in
            let mine = mine_at owners slot in
            let ok = done_call-ok register mine one.entered (call_of command) told there.ok in
            absurd (none-some also (sym (nothing.done register mine one.entered) ∙ (ok ∙ there.does)))

        pub HasOpen-not_done : option_map call_done None ≡ register_call (register_at slot) (mine_at owners slot) one.entered (call_of command)
            → HasOpen history owners place slot cpu None
        HasOpen-not_done none line also value of_cpu is_line =
            absurd (none-some also (none ∙ (is_line_told line also value of_cpu is_line).does))

        -- any other is that of each line
        pub HasOpen-done : (done : Done)
            → option_map call_done (Some done) ≡ register_call (register_at slot) (mine_at owners slot) one.entered (call_of command)
            → HasOpen history owners place slot cpu (Some (record { cpu = cpu; done = done; returned = places.returned }))
        HasOpen-done done is line also value of_cpu is_line =
            let there = is_line_told line also value of_cpu is_line in (
              record { cpu = cpu; done = done; returned = places.returned },
              refl,
              record {
                cpu = sym of_cpu;
                done = same_Some (call_done done) also (is ∙ there.does);
                fits = there.fits;
              },
            )

  -- ---- CPU by CPU

  module _ (owners : List (Option ℕ)) (place cpu slot : ℕ) where
    -- a CPU that has none
    pub HaveBelow-none : (opens : List OpenCall) (other : ℕ) → HaveBelow history owners place cpu slot other opens
        → HasOpen history owners place slot other None → HaveBelow history owners place cpu slot (other + 1) opens
    HaveBelow-none opens other old none line also value apart under is_line = elim (cases_lt (cpu_named line) other) [
      | inl earlier ↦ old line also value apart earlier is_line
      | inr late ↦
          let of_cpu : cpu_named line ≡ other = omega (arith, late, under) in
          let found = none line also value of_cpu is_line in absurd (none-some found.0 found.1)
    ]

    -- one that has one
    pub HaveBelow-push : (opens : List OpenCall) (other : ℕ) (one : OpenCall) → HaveBelow history owners place cpu slot other opens
        → HasOpen history owners place slot other (Some one) → HaveBelow history owners place cpu slot (other + 1) (opens ++ one ∷ [])
    HaveBelow-push opens other one old some line also value apart under is_line = elim (cases_lt (cpu_named line) other) [
      | inl earlier ↦
          let found = old line also value apart earlier is_line in
          (found.0, (found.1.0, slice_get-append opens (one ∷ []) found.1.0 found.0 found.1.1), found.2)
      | inr late ↦
          let of_cpu : cpu_named line ≡ other = omega (arith, late, under) in
          let found = some line also value of_cpu is_line in (
            one,
            (length opens, slice_get-push opens one),
            subst (λ (o : OpenCall). IsLineOf history.events line also value o) (sym (same_Some one found.0 found.1)) found.2,
          )
    ]

-- a CPU that is one of eight
pub few-push : (opens : List OpenCall) (one : OpenCall) → ((i : ℕ) (other : OpenCall) → slice_get opens i ≡ Some other → other.cpu < 8) → one.cpu < 8
    → (i : ℕ) (other : OpenCall) → slice_get (opens ++ one ∷ []) i ≡ Some other → other.cpu < 8
few-push opens one few under i other is = elim (slice_get-push_cases opens one i other is) [
  | inl earlier ↦ few i other earlier
  | inr last ↦ subst (λ (o : OpenCall). o.cpu < 8) last.1 under
]

-- the place of a return that is known
pub IsReturnPlace-of : (history : History) (cpu number : ℕ) (returned : Option ℕ)
    → MatchOption returned (¬ IsFinished history.events cpu number) (λ place. (answer : Reply) × IsReturned history.events place cpu number answer)
    → IsReturnPlace history.events returned
IsReturnPlace-of history cpu number None are = tt
IsReturnPlace-of history cpu number (Some place) are = (cpu, number, are.0, are.1)
