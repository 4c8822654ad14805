-- A realm's extensible measurements, each by itself: the calls that begin it, extend it and read it. This project's own.
use Rattle.std.specs.Prelude.{⊤, ◌≡◌, ℕ, zero, suc, ◌<◌, ◌≤◌, ◌&&◌, ◌==◌, if◌then◌else◌, Bool, true, false, List, [], ◌∷◌, ◌++◌, length, take, replicate, slice_get, slice_index_or, slice_set, Option, Some, None, option_map}
use Rattle.rmm_spec.specs.declared.call.Call.{Call}
use Rattle.rmm_spec.specs.declared.call.Call.TheVariants as call
use Rattle.rmm_spec.specs.declared.command.Command.{Command}
use Rattle.rmm_spec.specs.declared.event.Event.{Event}
use Rattle.rmm_spec.specs.declared.line.Line.{Line}
use Rattle.rmm_spec.specs.declared.line.Line.TheVariants.{Keep}
use Rattle.rmm_spec.specs.declared.measurement.Measurement.{Measurement}
use Rattle.rmm_spec.specs.declared.reply.Reply.{Reply}
use Rattle.rmm_spec.specs.declared.reply.Reply.TheVariants as reply
use Rattle.rmm_spec.specs.Call.{call_of}
use Rattle.rmm_spec.specs.HistoryText.{History}
use Rattle.rmm_spec.specs.Linearization.{IsCalled, IsReturned, IsReplyOf, IsOfItsKind, IsLinearization, cpu_named, number_named}
use Rattle.rmm_spec.specs.Rows.{ok}
use Rattle.rmm_spec.specs.Measure.{measurement_words, rem_extended, rem_start, words_bytes}
use Rattle.verdict_laws.specs.Forward.{MadeBefore}

-- ---- calls

-- one of the four measurements, counted from 1, that the realm at a granule extends
pub record Register : Type 0 where
  pub rd : ℕ
  pub index : ℕ

abbrev pub IsRegister : Register → Type 0
IsRegister register = (1 ≤ register.index) × (register.index ≤ 4)

-- what a call does to a register
pub data RegisterCall : Type 0 where
  Begins : ℕ → RegisterCall
  Extends : ℕ → List ℕ → RegisterCall
  Reads : RegisterCall

-- whether a CPU runs a REC of the register's realm, by the REC that it entered last and the RECs that are the realm's
abbrev pub is_mine : (ℕ → Bool) → Option ℕ → Bool
is_mine mine None = false
is_mine mine (Some rec) = mine rec

-- what a call does to the register where it isn't refused
unfoldable pub register_call : Register → (ℕ → Bool) → Option ℕ → Call → Option RegisterCall
register_call register mine entered (call.RealmCreate rd root width level vmid algo) = if rd == register.rd then Some (Begins algo) else None
register_call register mine entered (call.MeasurementExtend index size values) =
    if index == register.index && is_mine mine entered then Some (Extends size values) else None
register_call register mine entered (call.MeasurementRead index) = if index == register.index && is_mine mine entered then Some Reads else None
register_call register mine entered _ = None

-- what it does, by its reply
abbrev pub done_call : Register → (ℕ → Bool) → Option ℕ → Call → Reply → Option RegisterCall
done_call register mine entered made (reply.Ok words) = register_call register mine entered made
done_call register mine entered made _ = None

-- the register after it
abbrev pub value_after : Option RegisterCall → Option Measurement → Option Measurement
value_after None value = value
value_after (Some (Begins algo)) value = Some (rem_start algo)
value_after (Some (Extends size values)) value = option_map (λ m. rem_extended m (take size (words_bytes values))) value
value_after (Some Reads) value = value

-- a reading is told the register
abbrev pub FitsValue : Option RegisterCall → Option Measurement → Reply → Type 0
FitsValue (Some Reads) value given = (m : Measurement) × (value ≡ Some m) × (given ≡ ok (measurement_words m))
FitsValue _ value given = ⊤

-- ---- what each CPU entered last

abbrev pub entered_after : Option ℕ → Call → Reply → Option ℕ
entered_after old (call.RecEnter rec) (reply.Ok words) = Some rec
entered_after old _ _ = old

-- call number of the CPU has returned; by it the REC that the CPU entered last comes from the old to the new one
pub record Enters (events : List Event) (cpu number : ℕ) (old new : Option ℕ) : Type 0 where
  pub called : ℕ
  pub command : Command
  pub is_called : IsCalled events called cpu number command
  pub returned : ℕ
  pub given : Reply
  pub is_returned : IsReturned events returned cpu number given
  pub is : new ≡ entered_after old (call_of command) given

-- the REC that the CPU entered last before its call of that number, by the replies of the calls before
abbrev pub IsEntered : List Event → ℕ → ℕ → Option ℕ → Type 0
IsEntered events cpu zero entered = entered ≡ None
IsEntered events cpu (suc number) entered = (old : Option ℕ) × IsEntered events cpu number old × Enters events cpu number old entered

-- Of all RECs that are asked for before the place, those are mine that are asked for the register's realm.
abbrev pub AreMine : List Event → Register → (ℕ → Bool) → ℕ → Type 0
AreMine events register mine place = (called cpu number : ℕ) (command : Command) (rd rec mpidr flags aux0 aux1 : ℕ)
    → IsCalled events called cpu number command → called < place
    → call_of command ≡ call.RecCreate rd rec mpidr flags aux0 aux1 → mine rec ≡ (rd == register.rd)

-- ---- runs

-- what a line's call does to the register, with its reply
pub record IsDone (events : List Event) (register : Register) (mine : ℕ → Bool) (line : Line) (given : Reply) (done : Option RegisterCall)
    : Type 0 where
  pub entered : Option ℕ
  pub is_entered : IsEntered events (cpu_named line) (number_named line) entered
  pub called : ℕ
  pub command : Command
  pub is_called : IsCalled events called (cpu_named line) (number_named line) command
  pub is_given : IsReplyOf events line given
  pub is : done ≡ done_call register mine entered (call_of command) given

-- by the line the register comes from the old to the new value
pub record Does (events : List Event) (register : Register) (mine : ℕ → Bool) (line : Line) (old new : Option Measurement) : Type 0 where
  pub given : Reply
  pub done : Option RegisterCall
  pub is_done : IsDone events register mine line given done
  pub fits : FitsValue done old given
  pub after : new ≡ value_after done old

-- by the lines, one after the other
abbrev pub IsRegisterRun : List Event → Register → (ℕ → Bool) → Option Measurement → List Line → Option Measurement → Type 0
IsRegisterRun events register mine old [] new = new ≡ old
IsRegisterRun events register mine old (line ∷ lines) new =
    (next : Option Measurement) × Does events register mine line old next × IsRegisterRun events register mine next lines new

-- ---- what an order may have come to

-- a call of the CPU, made before the place, that hasn't returned there
pub record IsOpenCall (events : List Event) (place cpu number : ℕ) : Type 0 where
  pub called : ℕ
  pub command : Command
  pub is_called : IsCalled events called cpu number command
  pub before : called < place
  pub unreturned : (returned : ℕ) (given : Reply) → IsReturned events returned cpu number given → place ≤ returned

-- one of the lines names the call, and does something to the register
pub record Stands (events : List Event) (register : Register) (mine : ℕ → Bool) (lines : List Line) (cpu number : ℕ) : Type 0 where
  pub i : ℕ
  pub line : Line
  pub at : slice_get lines i ≡ Some line
  pub of_cpu : cpu_named line ≡ cpu
  pub numbered : number_named line ≡ number
  pub given : Reply
  pub done : RegisterCall
  pub is_done : IsDone events register mine line given (Some done)

-- the CPUs whose open calls stand in an order's first part, and the register after it
pub record Possibility : Type 0 where
  pub placed : List Bool
  pub value : Option Measurement

abbrev pub is_placed : Possibility → ℕ → Bool
is_placed possibility cpu = slice_index_or possibility.placed cpu false

-- It is what the lines come to, at the place.
pub record Represents (events : List Event) (register : Register) (mine : ℕ → Bool) (place : ℕ) (lines : List Line) (possibility : Possibility)
    : Type 0 where
  pub size : length possibility.placed ≡ 8
  pub run : IsRegisterRun events register mine None lines possibility.value
  pub stands : (cpu number : ℕ) → IsOpenCall events place cpu number → Stands events register mine lines cpu number
      → is_placed possibility cpu ≡ true
  pub placed : (cpu : ℕ) → is_placed possibility cpu ≡ true
      → (number : ℕ) × IsOpenCall events place cpu number × Stands events register mine lines cpu number

-- The lines name no call that was made at the place or later, and each that returned before and does something to the register. One of
-- the possibilities is what they come to.
pub record IsPart (history : History) (register : Register) (mine : ℕ → Bool) (place : ℕ) (possibilities : List Possibility) (lines : List Line)
    : Type 0 where
  pub made : MadeBefore history.events lines place
  pub returned : (cpu number returned : ℕ) (given : Reply) (done : RegisterCall) → IsReturned history.events returned cpu number given
      → returned < place → IsDone history.events register mine (Keep cpu number) given (Some done)
      → Stands history.events register mine lines cpu number
  pub i : ℕ
  pub possibility : Possibility
  pub at : slice_get possibilities i ≡ Some possibility
  pub represents : Represents history.events register mine place lines possibility

-- each linearization has such a first part
abbrev pub HaveParts : History → Register → (ℕ → Bool) → ℕ → List Possibility → Type 0
HaveParts history register mine place possibilities = (order : List Line) → IsLinearization history order
    → (lines rest : List Line) × (order ≡ lines ++ rest) × IsPart history register mine place possibilities lines

-- before any event
abbrev pub at_first : Possibility
at_first = record { placed = replicate 8 false; value = None }

-- ---- a return

abbrev pub IsAmong : Possibility → List Possibility → Type 0
IsAmong possibility possibilities = (i : ℕ) × (slice_get possibilities i ≡ Some possibility)

-- the possibility with the call of one more CPU, or of one less, and the register after a call
abbrev pub with_placed : Possibility → ℕ → Bool → Option RegisterCall → Possibility
with_placed possibility cpu placed done = record {
  placed = slice_set possibility.placed cpu placed;
  value = value_after done possibility.value;
}

-- At the place the call returns. What it isn't in, and each open call that isn't in it may come after, is among those begun; and each of
-- these that it may come after is, with it, among the next ones.
pub record AreNext (history : History) (register : Register) (mine : ℕ → Bool) (place cpu : ℕ) (given : Reply) (done : RegisterCall)
    (possibilities begun next : List Possibility) : Type 0 where
  pub stays : (possibility : Possibility) → IsAmong possibility possibilities → is_placed possibility cpu ≡ true
      → IsAmong (with_placed possibility cpu false None) next
  pub begins : (possibility : Possibility) → IsAmong possibility possibilities → is_placed possibility cpu ≡ false → IsAmong possibility begun
  pub grows : (possibility : Possibility) (line : Line) (other : Reply) (also : RegisterCall) → IsAmong possibility begun
      → ¬ (cpu_named line ≡ cpu) → IsOfItsKind history.events line → IsOpenCall history.events place (cpu_named line) (number_named line)
      → is_placed possibility (cpu_named line) ≡ false
      → IsDone history.events register mine line other (Some also) → FitsValue (Some also) possibility.value other
      → IsAmong (with_placed possibility (cpu_named line) true (Some also)) begun
  pub ends : (possibility : Possibility) → IsAmong possibility begun → FitsValue (Some done) possibility.value given
      → IsAmong (with_placed possibility cpu false (Some done)) next
