-- What is left of a run on threads that was closed.
use Rattle.std.proofs.Common.{◌≡◌, ℕ, List, [], sym, ap, ◌∙◌, subst, arith}
use Rattle.std.specs.Prelude.{get_or}
use Rattle.rmm_spec.specs.declared.event.Event.{Event}
use Rattle.rmm_spec.specs.declared.line.Line.{Line}
use Rattle.rmm_spec.specs.HistoryText.{Config, History, subhistory_of}
use Rattle.rmm_spec.specs.Linearization.{IsLinearization}
use Rattle.rmm_spec.specs.Run.{JournalEntry}
use Rattle.rmm_spec.specs.Scenario.{Scenario}
use Rattle.commit_tickets.specs.View.{TokenView}
use Rattle.event_queue.specs.View.{CpuView, AreWhole}
use Rattle.monitor.specs.Closed.{Disagree, IsJournal}
use Rattle.monitor.specs.View.{MonitorView}
use Rattle.std.proofs.lemmas.Option.{slice_get_within}
use Rattle.monitor_runs.specs.ThreadRun.{IsThreadRun, MayDisagree}
use Rattle.monitor_runs.specs.Worked.{HasBegun, HaveWorked}
use Rattle.lemmas.proofs.Elements.{element_at}

-- what a CPU has begun is said of the scenario's machine
begun-of : (monitor : MonitorView) (scenario : Scenario) (cpu : ℕ) (own : List Event) (token : TokenView) → monitor.config ≡ scenario.config
    → monitor.capacity ≡ scenario.queue → HasBegun (get_or scenario.programs cpu []) monitor.capacity monitor.config.cpus cpu own token
    → HasBegun (get_or scenario.programs cpu []) scenario.queue scenario.config.cpus cpu own token
begun-of monitor scenario cpu own token is_config is_queue begun =
    subst (λ (c : Config). HasBegun (get_or scenario.programs cpu []) scenario.queue c.cpus cpu own token) is_config
    (subst (λ n. HasBegun (get_or scenario.programs cpu []) n monitor.config.cpus cpu own token) is_queue begun)

pub IsThreadRun-from : (monitor : MonitorView) (scenario : Scenario) (tokens : List TokenView) (passes : List CpuView)
    (history : History) (lines : List Line) → monitor.config ≡ scenario.config → monitor.capacity ≡ scenario.queue → history.config ≡ scenario.config
    → HaveWorked monitor scenario.programs monitor.config.cpus tokens passes → AreWhole passes history.events
    → IsJournal monitor.config tokens history.events lines → IsThreadRun scenario history lines
IsThreadRun-from monitor scenario tokens passes history lines is_config is_queue same worked whole journal = record {
  same_config = same;
  tokens = tokens;
  count = worked.token_count ∙ ap (λ (c : Config). c.cpus) is_config;
  journal = subst (λ (c : Config). IsJournal c tokens history.events lines) is_config journal;
  linearization = subst (λ (c : Config). IsLinearization (record { config = c; events = history.events }) lines)
      (is_config ∙ sym same) journal.linearization;
  each = λ cpu token at.
      let pass = element_at passes cpu (omega (arith, slice_get_within tokens cpu token at, worked.token_count, worked.pass_count)) in
      let has = worked.each cpu token pass.0 at pass.1 in
      begun-of monitor scenario cpu (subhistory_of cpu history.events) token is_config is_queue
      (subst (λ own. HasBegun (get_or scenario.programs cpu []) monitor.capacity monitor.config.cpus cpu own token) (sym (whole cpu pass.0 pass.1))
      has.begun);
}

-- what is left of one that is told to disagree
pub MayDisagree-from : (monitor : MonitorView) (scenario : Scenario) (tokens : List TokenView) (passes : List CpuView) (entries : List JournalEntry)
    → monitor.config ≡ scenario.config → monitor.capacity ≡ scenario.queue → HaveWorked monitor scenario.programs monitor.config.cpus tokens passes
    → Disagree monitor.config tokens entries → MayDisagree scenario
MayDisagree-from monitor scenario tokens passes entries is_config is_queue worked disagree = record {
  tokens = tokens;
  count = worked.token_count ∙ ap (λ (c : Config). c.cpus) is_config;
  each = λ cpu token at.
      let pass = element_at passes cpu (omega (arith, slice_get_within tokens cpu token at, worked.token_count, worked.pass_count)) in
      (pass.0.events, begun-of monitor scenario cpu pass.0.events token is_config is_queue (worked.each cpu token pass.0 at pass.1).begun);
  entries = entries;
  disagree = subst (λ (c : Config). Disagree c tokens entries) is_config disagree;
}
