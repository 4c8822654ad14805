use Rattle.std.proofs.Common.{◌∷◌, ◌∙◌, [], arith, take}
use Rattle.std.proofs.lemmas.List.{take_more_set, length-set}
use Rattle.spec_lemmas.proofs.Texts.{AllByRecursion-append}
use Rattle.rmi_codec.proofs.FrontLaws.{words_more}
use Rattle.rmi_codec.proofs.front.words_at.Goals as goal

pub loop-end-preserved : goal.loop-end-preserved
loop-end-preserved c =
    let loop = c.loop-end in
    let here = c.if-count-eq10.false in
    let more = take_more_set loop.words loop.count c.in_ok-word.word (omega (arith, here, loop.invariant.within, loop.invariant.counted)) in
    record {
      read = rw more (words_more c.args.text.now c.args.at loop.end c.in_ok-word.next
          (take loop.count loop.words) c.in_ok-word.word loop.invariant.inside c.loop-end-test.true loop.invariant.read c.in_ok-word.ensures.found);
      words = rw more (AllByRecursion-append _ (take loop.count loop.words)
          (c.in_ok-word.word ∷ []) loop.invariant.words (c.in_ok-word.ensures.within, tt));
      inside = c.in_ok-word.ensures.inside;
      on = omega (arith, loop.invariant.on, c.in_ok-word.ensures.on);
      within = omega (arith, here, loop.invariant.within);
      counted = length-set loop.words loop.count c.in_ok-word.word ∙ loop.invariant.counted;
    }
