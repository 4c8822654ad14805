-- The world that a turn leads to, wherever memory isn't refused: one value.
use Rattle.std.specs.Prelude.{ℕ, ◌+◌, if◌then◌else◌, List, [], ◌∷◌, ◌++◌, None}
use Rattle.rmm_spec.specs.declared.command.Command.{Command}
use Rattle.rmm_spec.specs.declared.event.Event.TheVariants.{Called, Returned}
use Rattle.rmm_spec.specs.declared.reply.Reply.{Reply}
use Rattle.rmm_spec.specs.declared.turn.Will.{Will}
use Rattle.rmm_spec.specs.declared.turn.Will.TheVariants as told
use Rattle.rmm_spec.specs.Call.{call_of}
use Rattle.rmm_spec.specs.Cell.{put}
use Rattle.rmm_spec.specs.World.{World, Phase, Between, Deciding, Decided, GivenUp, Stopped, held_cells}
use Rattle.command_core.specs.declared.next.Next.{Next}
use Rattle.command_core.specs.declared.next.Next.TheVariants.{Take, Free, Ready}
use Rattle.command_core.specs.Next as plan
use Rattle.world.specs.Cpus.{is_going}
use Rattle.world.specs.Next.{with_taken, with_freed, with_committed, is_taken}

-- the next command of the program is called, where one is left
abbrev pub with_called : World → ℕ → ℕ → List Command → World
with_called w cpu number [] = w
with_called w cpu number (command ∷ rest) = record w {
  phase = put w.phase cpu (Deciding number command None);
  program = put w.program cpu rest;
  events = w.events ++ Called cpu number command ∷ [];
}

-- what comes next is done, where nobody holds the lock that is taken
abbrev pub with_next : World → ℕ → Next → World
with_next w cpu (Take granule) = if is_taken w granule then w else with_taken w cpu granule
with_next w cpu (Free granule learnt) = with_freed w cpu granule learnt
with_next w cpu Ready = with_committed w cpu

-- the last of these, or that where there are none
abbrev pub last_lock : ℕ → List ℕ → ℕ
last_lock lock [] = lock
last_lock lock (next ∷ others) = last_lock next others

-- the lock that was taken last is freed, and where none is held the reply is returned
abbrev pub with_returned : World → ℕ → ℕ → Reply → List ℕ → World
with_returned w cpu number given [] = record w {
  phase = put w.phase cpu (Between (number + 1));
  events = w.events ++ Returned cpu number given ∷ [];
}
with_returned w cpu number given (lock ∷ others) = with_freed w cpu (last_lock lock others) None

abbrev pub gone_in : World → ℕ → Phase → World
gone_in w cpu (Between number) = with_called w cpu number (w.program cpu)
gone_in w cpu (Deciding number command learnt) =
    with_next w cpu (plan.next w.config (call_of command) (w.place cpu) learnt (held_cells w cpu))
gone_in w cpu (Decided number command given) = with_returned w cpu number given (w.taken cpu)
gone_in w cpu GivenUp = w
gone_in w cpu Stopped = w

-- an open call that isn't committed is given up, and all that is held is freed
abbrev pub given_up_in : World → ℕ → Phase → World
given_up_in w cpu (Deciding number command learnt) = record w { taken = put w.taken cpu []; phase = put w.phase cpu GivenUp }
given_up_in w cpu _ = w

-- a CPU that hasn't ended does, and keeps its locks
abbrev pub stopped_in : World → ℕ → Phase → World
stopped_in w cpu phase = if is_going phase then record w { phase = put w.phase cpu Stopped } else w

unfoldable pub turned_world : World → ℕ → Will → World
turned_world w cpu told.Go = gone_in w cpu (w.phase cpu)
turned_world w cpu told.GiveUp = given_up_in w cpu (w.phase cpu)
turned_world w cpu told.Stop = stopped_in w cpu (w.phase cpu)
