use Rattle.event_queue.proofs.Common.{arith, subst, AreBegun, ScribeView, cpu_below}
use Rattle.event_queue.proofs.Wholes.{no_event_more}
use Rattle.event_queue.proofs.recorder.Recorder.keeps_real_time.Goals as goal

pub unreachable-requires : goal.unreachable-requires
unreachable-requires g c =
    no_event_more c.args.passes.now c.args.scribe.now.events c.in-Some._event
    (omega (arith, cpu_below c.args.scribe.now.cpus c.in-Some._event c.in-Some.ensures.event, c.requires.count)) c.requires.whole
    (subst (λ (s : ScribeView). AreBegun c.args.passes.now s.events) c.in-Some.ensures.taken c.compare_all.ensures.begun)
