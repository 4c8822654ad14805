use Rattle.event_queue.proofs.Common.{◌≡◌, ℕ, ◌<◌, Some, slice_get, IsPrefix, subhistory_of, CpuView, hearing}
use Rattle.event_queue.proofs.Hearings.{replaced_before}
use Rattle.event_queue.proofs.recorder.Recorder.compare_all.Given as goal

abbrev pub invariant-loop-pass : goal.invariant-loop-pass
invariant-loop-pass l = record {
  scribe : l.scribe ≡ l.initial.scribe;
  passes : l.passes ≡ replaced_before (hearing l.initial.scribe.events) l.pass-index l.initial.passes;
  begun : (cpu : ℕ) (pass : CpuView) → cpu < l.pass-index → slice_get l.initial.passes cpu ≡ Some pass
      → IsPrefix (subhistory_of cpu l.initial.scribe.events) pass.events;
}
