-- Where turns that are due lead, and what a run of them prints.
use Rattle.std.specs.Prelude.{◌≡◌, ℕ, ◌+◌, ◌-◌, ◌≤◌, ◌⊎◌, Bool, false, List, [], ◌∷◌, ◌++◌, map, length, get_or, take}
use Rattle.std.specs.List.{fold}
use Rattle.rmm_spec.specs.declared.command.Command.{Command}
use Rattle.rmm_spec.specs.declared.turn.Due.{Due}
use Rattle.rmm_spec.specs.declared.turn.Will.TheVariants.{Go}
use Rattle.rmm_spec.specs.declared.verdict.Verdict.{Verdict}
use Rattle.rmm_spec.specs.declared.verdict.Verdict.TheVariants.{Yes}
use Rattle.rmm_spec.specs.Scenario.{Scenario}
use Rattle.rmm_spec.specs.Waits.{Report, Turns, Turn}
use Rattle.rmm_spec.specs.World.{World, IsDeciding, opening_world, history_of, certificate_of}
use Rattle.world_runs.specs.RunText.{run_text}
use Rattle.world.specs.Next.{DoesPlanned, IsNoMove, StandsStill, go_report}
use Rattle.world.specs.TurnedWorld.{turned_world}
use Rattle.world_runs.specs.Schedule.{ring}

abbrev pub due_of : Turn → Due
due_of turn = record { cpu = turn.cpu; will = turn.will }

-- The turn leads from one world to another, and it is the one that a CPU has there: its go reports what comes next for it, in an open
-- call it does what the plan says next, and it makes the one world that it can.
pub record IsExact (old : World) (turn : Turn) (new : World) : Type 0 where
  pub turned : Turns old turn.cpu turn.will turn.report new
  pub exact : turn.will ≡ Go → turn.report ≡ go_report old turn.cpu
  pub planned : turn.will ≡ Go → IsDeciding old turn.cpu → DoesPlanned old turn.cpu turn.report new
  pub is_new : new ≡ turned_world old turn.cpu turn.will

-- from old, these turns in order lead to last, each the exact one
abbrev pub ExactAll : World → List Turn → World → Type 0
ExactAll old [] last = last ≡ old
ExactAll old (turn ∷ turns) last = (next : World) × IsExact old turn next × ExactAll next turns last

-- From one world turns that were due in this order lead to another, each the exact one.
pub record Plays (old : World) (dues : List Due) (new : World) : Type 0 where
  pub turns : List Turn
  pub run : ExactAll old turns new
  pub in_order : map due_of turns ≡ dues

-- the program of each CPU, and no command of one that isn't there
abbrev pub program_of : Scenario → ℕ → List Command
program_of scenario = λ cpu. get_or scenario.programs cpu []

-- From the opening of the scenario's programs its listed turns lead there, and after them turns of all CPUs in a ring, each the exact
-- one. They are no more than its limit, and end there or where no CPU's go would make a move.
pub record IsPlayed (scenario : Scenario) (w : World) : Type 0 where
  pub gone : ℕ
  pub plays : Plays (opening_world scenario.config (program_of scenario)) (take scenario.limit scenario.turns ++ ring scenario.config.cpus gone) w
  pub within : length (take scenario.limit scenario.turns) + gone ≤ scenario.limit
  pub ends : (length (take scenario.limit scenario.turns) + gone ≡ scenario.limit) ⊎ StandsStill w

-- where turns lead that are due in this order, wherever memory isn't refused: one world
abbrev pub turned_all : World → List Due → World
turned_all w dues = fold (λ (now : World) (due : Due). turned_world now due.cpu due.will) w dues

-- Where a scenario leads, one world: to where its listed turns do, and after them turns of all CPUs in a ring up to its limit. Those
-- that come once no CPU's go would make a move change nothing.
unfoldable pub played_world : Scenario → World
played_world scenario =
    let listed = take scenario.limit scenario.turns in
    turned_all (turned_all (opening_world scenario.config (program_of scenario)) listed) (ring scenario.config.cpus (scenario.limit - length listed))

-- What is printed of such a run: its texts, and the verdict that says yes to all its commits.
pub record IsPrinted (scenario : Scenario) (judged : Verdict) (text : List ℕ) : Type 0 where
  pub is_played : IsPlayed scenario (played_world scenario)
  pub is_yes : judged ≡ Yes (length (played_world scenario).journal)
  pub is_text : text ≡ run_text (history_of (played_world scenario)) (certificate_of (played_world scenario)) judged

-- A go of the CPU leads from one world to another, and is the exact one. Unless it is told that it moved, or one had before, it made no
-- move.
pub record Goes (old : World) (cpu : ℕ) (had_moved has_moved : Bool) (new : World) : Type 0 where
  pub report : Report
  pub exact : IsExact old (record { cpu = cpu; will = Go; report = report }) new
  pub unmoved : has_moved ≡ false → (had_moved ≡ false) × IsNoMove report

-- From one world turns of all CPUs in a ring lead to another. They are no more than the limit, and end there or where no CPU's go
-- would make a move.
pub record GoesRound (old : World) (limit : ℕ) (new : World) : Type 0 where
  pub gone : ℕ
  pub plays : Plays old (ring old.config.cpus gone) new
  pub within : gone ≤ limit
  pub ends : (gone ≡ limit) ⊎ StandsStill new
