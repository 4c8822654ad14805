-- What is left of a run on threads, and what is printed of it.
use Rattle.std.specs.Prelude.{◌≡◌, ℕ, List, [], length, slice_get, get_or, Some}
use Rattle.rmm_spec.specs.declared.event.Event.{Event}
use Rattle.rmm_spec.specs.declared.line.Line.{Line}
use Rattle.rmm_spec.specs.declared.verdict.Verdict.{Verdict}
use Rattle.rmm_spec.specs.declared.verdict.Verdict.TheVariants.{Yes}
use Rattle.rmm_spec.specs.CertificateText.{certificate_text}
use Rattle.rmm_spec.specs.HistoryText.{History, subhistory_of, history_text}
use Rattle.rmm_spec.specs.Judgement.{Judges}
use Rattle.rmm_spec.specs.Linearization.{IsLinearization}
use Rattle.rmm_spec.specs.Run.{JournalEntry}
use Rattle.rmm_spec.specs.Scenario.{Scenario}
use Rattle.commit_tickets.specs.View.{TokenView}
use Rattle.monitor.specs.Closed.{Disagree, IsJournal}
use Rattle.world_runs.specs.RunText.{run_text}
use Rattle.monitor_runs.specs.Worked.{HasBegun}

-- The history is of the scenario's machine, and has of each CPU the first calls of its program, up to the end, to a commit that was
-- refused or to a full queue. The lines are a linearization of it, from a journal in which each CPU's commits are its calls, but
-- perhaps for the last.
pub record IsThreadRun (scenario : Scenario) (history : History) (lines : List Line) : Type 0 where
  pub same_config : history.config ≡ scenario.config
  pub tokens : List TokenView
  pub count : length tokens ≡ scenario.config.cpus
  pub journal : IsJournal scenario.config tokens history.events lines
  pub linearization : IsLinearization history lines
  pub each : (cpu : ℕ) (token : TokenView) → slice_get tokens cpu ≡ Some token
      → HasBegun (get_or scenario.programs cpu []) scenario.queue scenario.config.cpus cpu (subhistory_of cpu history.events) token

-- What may be left of a run on threads that is told to disagree: each CPU's token lists the first commands of its program, and some
-- journal that is a run of the machine isn't what they list.
pub record MayDisagree (scenario : Scenario) : Type 0 where
  pub tokens : List TokenView
  pub count : length tokens ≡ scenario.config.cpus
  pub each : (cpu : ℕ) (token : TokenView) → slice_get tokens cpu ≡ Some token
      → (own : List Event) × HasBegun (get_or scenario.programs cpu []) scenario.queue scenario.config.cpus cpu own token
  pub entries : List JournalEntry
  pub disagree : Disagree scenario.config tokens entries

-- What is printed of such a run: its texts, with a verdict that is right of them. It is always yes, with the count of the lines.
pub record IsPrinted (scenario : Scenario) (judged : Verdict) (text : List ℕ) : Type 0 where
  pub history : History
  pub lines : List Line
  pub is_run : IsThreadRun scenario history lines
  pub is_yes : judged ≡ Yes (length lines)
  pub is_right : Judges judged (history_text history) (certificate_text lines)
  pub is_text : text ≡ run_text history lines judged
