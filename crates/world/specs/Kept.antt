-- What a world keeps.
use Rattle.std.specs.Prelude.{◌≡◌, ℕ, ◌+◌, ◌≤◌, Bool, ◌==◌, if◌then◌else◌, IsTrue, List, Option, None, length}
use Rattle.std.specs.List.{list_any, list_all}
use Rattle.rmm_spec.specs.declared.command.Command.{Command}
use Rattle.rmm_spec.specs.HistoryText.{Config}
use Rattle.rmm_spec.specs.Lookup.{is_granule, is_cpu}
use Rattle.rmm_spec.specs.World.{World, Phase, Between, Deciding, Decided, GivenUp, Stopped, opening_world}
use Rattle.rmm_spec.specs.declared.turn.Will.{Will}
use Rattle.rmm_spec.specs.Waits.{Report, Turns, Turn, TurnAll, waits_after}
use Rattle.world_laws.specs.Programs.{HaveTexts, commands_below}
use Rattle.command_core.specs.Seen.{are_distinct}
use Rattle.world.specs.Next.{AreNext}

-- Each lock's holder is the CPU that has taken it; locks are of granules, and none is taken twice.
pub record AreLocks (granules : ℕ) (taken : ℕ → List ℕ) (holder : ℕ → Option ℕ) : Type 0 where
  pub held : (cpu granule : ℕ) → list_any (λ lock. lock == granule) (taken cpu) ≡ is_cpu cpu (holder granule)
  pub within : (cpu : ℕ) → IsTrue (list_all (is_granule granules) (taken cpu))
  pub distinct : (cpu : ℕ) → IsTrue (are_distinct (taken cpu))

-- how many calls a CPU has made
abbrev pub calls_made : Phase → ℕ
calls_made (Between number) = number
calls_made (Deciding number command learnt) = number + 1
calls_made (Decided number command given) = number + 1
calls_made GivenUp = 0
calls_made Stopped = 0

-- A CPU's calls are within the limit.
pub record IsFit (phase : Phase) (program : List Command) : Type 0 where
  pub numbered : calls_made phase + length program ≤ 499999

pub record AreFit (phase : ℕ → Phase) (program : ℕ → List Command) : Type 0 where
  pub each : (cpu : ℕ) → IsFit (phase cpu) (program cpu)

-- Turns lead there from programs that have texts, of no more commands than a history has room for, and those that wait were
-- blocked last.
pub record IsReached (config : Config) (w : World) (waits : ℕ → Option ℕ) : Type 0 where
  pub programs : ℕ → List Command
  pub have_texts : HaveTexts config programs
  pub few : commands_below config.cpus programs ≤ 499999
  pub turns : List Turn
  pub run : TurnAll (opening_world config programs) turns w
  pub is_waiting : waits ≡ waits_after (λ _. None) turns

-- ---- locks

-- whether a lock is among those taken
abbrev pub has_taken : List ℕ → ℕ → Bool
has_taken taken granule = list_any (λ lock. lock == granule) taken

-- the holders where all these locks are free
abbrev pub freed_all : List ℕ → (ℕ → Option ℕ) → ℕ → Option ℕ
freed_all taken holder = λ lock. if has_taken taken lock then None else holder lock

-- ---- all together

-- What a world keeps, with who holds each lock and what each CPU waits for.
pub record IsKept (w : World) (holder waits : ℕ → Option ℕ) : Type 0 where
  pub locked : AreLocks w.config.granules w.taken holder
  pub fit : AreFit w.phase w.program
  pub waiting : AreNext w waits
  pub reached : ∥ IsReached w.config w waits ∥₁

-- a turn, after which all is kept
pub record IsTurn (old : World) (cpu : ℕ) (will : Will) (report : Report) (new : World) (holder waits : ℕ → Option ℕ) : Type 0 where
  pub turned : Turns old cpu will report new
  pub kept : IsKept new holder waits
