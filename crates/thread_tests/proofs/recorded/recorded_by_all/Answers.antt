use Rattle.std.proofs.Common.{◌<◌, ◌∙◌, length, ap, subst}
use Rattle.std.specs.Prelude.{slice_get}
use Rattle.std.proofs.lemmas.Option.{get_or_from_slice_get}
use Rattle.event_queue.specs.View.{CpuView}
use Rattle.thread_tests.proofs.recorded.recorded_by_all.Goals as goal

-- each pass is the first one of its CPU, and that is of this queue
pub record_beside-requires-clause-passes : goal.record_beside-requires-clause-passes
record_beside-requires-clause-passes g c κs within = λ k d low high.
    let same = c.as_mut_slice-passes.ensures.value in
    let within = subst (λ n. k < n) c.in_ok-recorder.ensures.count (subst (λ ps. k < length ps) same high) in
    ap (λ (pass : CpuView). pass.queue)
    (get_or_from_slice_get _ k _ d (ap (λ ps. slice_get ps k) same ∙ c.in_ok-recorder.ensures.passes k within))
