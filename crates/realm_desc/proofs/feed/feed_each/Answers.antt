use Rattle.std.proofs.Common.{◌++◌, take}
use Rattle.std.proofs.lemmas.List.{append-nil}
use Rattle.rmm_spec.specs.Measure.{words_bytes}
use Rattle.realm_desc.proofs.WordBytes.{words_bytes-take_more}
use Rattle.realm_desc.proofs.feed.feed_each.Goals as goal

pub loop-word-init : goal.loop-word-init
unfolding words_bytes
loop-word-init g c = λ m held. rw append-nil held

pub loop-word-preserved : goal.loop-word-preserved
loop-word-preserved g c = λ m held.
    let step = c.update.ensures (m ++ words_bytes (take c.loop-word.word-index c.args.words.now)) (c.loop-word.invariant m held) in
    let more = words_bytes-take_more m c.args.words.now c.loop-word.word-index c.loop-word-test.true in
    rw (more, ← c.write_u64.ensures) step
