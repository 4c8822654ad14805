-- Where a CPU makes a call, as the replies to its calls before say: with its host, or inside of a REC that runs or waits for the host. This project's
-- own.
use Rattle.std.specs.Prelude.{◌≡◌, ◌⊎◌, ℕ, zero, suc, ◌==◌, ◌&&◌, if◌then◌else◌, Bool, true, false, not, List, length, slice_index_or}
use Rattle.rmm_spec.specs.declared.call.Call.{Call}
use Rattle.rmm_spec.specs.declared.call.Call.TheVariants as call
use Rattle.rmm_spec.specs.declared.command.Command.{Command}
use Rattle.rmm_spec.specs.declared.event.Event.{Event}
use Rattle.rmm_spec.specs.declared.function_id.FunctionId.TheVariants as function
use Rattle.rmm_spec.specs.declared.reply.Reply.{Reply}
use Rattle.rmm_spec.specs.declared.reply.Reply.TheVariants as reply
use Rattle.rmm_spec.specs.Call.{Class, ByExit, ByHost, ByRealm, call_of, class_of}
use Rattle.rmm_spec.specs.Function.{number_of}
use Rattle.rmm_spec.specs.Linearization.{IsCalled, IsReturned}
use Rattle.verdict_laws.specs.declared.placing.Standing.{Standing}
use Rattle.rmm_spec.specs.Ownership.{is_accepted}
use Rattle.verdict_laws.specs.declared.placing.ExitReason.{ExitReason}
use Rattle.verdict_laws.specs.declared.placing.ExitReason.TheVariants.{Interrupt, Psci, RipasChange, HostCall}
use Rattle.verdict_laws.specs.declared.placing.Standing.TheVariants.{Outside, Inside}
use Rattle.verdict_laws.specs.Replying.{may_answer}

-- the number of the RIPAS that a realm asks for: EMPTY, or RAM
abbrev pub asked_number : ℕ → ℕ
asked_number ripas = if ripas == 0 then 0 else 1

-- where it is once its REC waits to leave for the reason
abbrev pub waits : ExitReason → Standing → Standing
waits reason Outside = Outside
waits reason (Inside rec old) = Inside rec reason

-- where the CPU is after a call that is carried out, by where it was
unfoldable pub stands_after : Call → Standing → Standing
stands_after (call.RecEnter rec) standing = Inside rec Interrupt
stands_after (call.IpaStateSet base top ripas) standing = waits (RipasChange base top (asked_number ripas)) standing
stands_after (call.HostCall imm) standing = waits (HostCall imm) standing
stands_after call.CpuOff standing = waits (Psci (number_of function.CpuOff)) standing
stands_after call.SystemOff standing = waits (Psci (number_of function.SystemOff)) standing
stands_after call.Exit standing = Outside
stands_after _ standing = standing

-- where it is after a call with that reply
abbrev pub left_standing : Call → Reply → Standing → Standing
left_standing c (reply.Ok words) standing = stands_after c standing
left_standing c given standing = standing

-- The call of that number returned, and leaves its CPU there, by where it was.
pub record Leaves (events : List Event) (cpu number : ℕ) (before standing : Standing) : Type 0 where
  pub called : ℕ
  pub command : Command
  pub is_called : IsCalled events called cpu number command
  pub returned : ℕ
  pub given : Reply
  pub is_returned : IsReturned events returned cpu number given
  pub is_left : left_standing (call_of command) given before ≡ standing

-- whether a call that is carried out leaves its CPU where it does wherever that was before: one that enters a REC, or leaves it
unfoldable pub moves : Call → Bool
moves (call.RecEnter rec) = true
moves call.Exit = true
moves _ = false

-- the CPU's calls before that of the number leave it there, one after another, from the first or from one on that moves it
abbrev pub StandsBefore : List Event → ℕ → ℕ → Standing → Type 0
StandsBefore events cpu zero standing = standing ≡ Outside
StandsBefore events cpu (suc number) standing =
    (before : Standing) × (leaves : Leaves events cpu number before standing)
    × (StandsBefore events cpu number before ⊎ ((is_accepted leaves.given && moves (call_of leaves.command)) ≡ true))

-- whether who gives such calls does so where the CPU is
abbrev pub is_given : Class → Standing → Bool
is_given ByHost Outside = true
is_given ByHost (Inside rec reason) = false
is_given ByRealm (Inside rec Interrupt) = true
is_given ByRealm _ = false
is_given ByExit Outside = false
is_given ByExit (Inside rec reason) = true

-- whether these are the four words
abbrev pub are_words : List ℕ → ℕ → ℕ → ℕ → ℕ → Bool
are_words words kind first second third =
    length words == 4 && slice_index_or words 0 0 == kind && slice_index_or words 1 0 == first && slice_index_or words 2 0 == second
    && slice_index_or words 3 0 == third

-- whether the words of an exit report the reason
abbrev pub reports : ExitReason → List ℕ → Bool
reports Interrupt words = are_words words 1 0 0 0
reports (Psci function) words = are_words words 3 function 0 0
reports (RipasChange base top ripas) words = are_words words 4 base top ripas
reports (HostCall imm) words = are_words words 5 imm 0 0

-- whether it reports that of a REC which leaves, if it is an exit that is carried out
unfoldable pub says_why : Call → Standing → Reply → Bool
says_why call.Exit (Inside rec reason) (reply.Ok words) = reports reason words.items
says_why _ standing given = true

-- whether a reply may be given there: just where the call isn't given it is misplaced, and else it is replied what such a call is in some state,
-- and an exit why the REC leaves
abbrev pub may_be_replied : Call → Standing → Reply → Bool
may_be_replied c standing reply.Misplaced = not (is_given (class_of c) standing)
may_be_replied c standing given = is_given (class_of c) standing && may_answer c given && says_why c standing given
