use Rattle.std.proofs.Common.{take}
use Rattle.rmi_codec.proofs.FaultLaws.{IsWordsFault-from_part}
use Rattle.rmi_codec.proofs.PartLaws.{words_go_on}
use Rattle.rmi_codec.proofs.word.read_words.Goals as goal

pub returns-in_default-clause-only : goal.returns-in_default-clause-only
returns-in_default-clause-only c = λ ws are_words few e.
    absurd (words_go_on (take c.loop-parts.count c.loop-parts.words) ws c.args.parts c.loop-parts.parts c.loop-parts.invariant.read
    (λ none. let over = c.is_over.ensures.1 none in let left = c.loop-parts-test.true in cc) c.in_default.ensures.none are_words e)

pub returns-in_default-clause-fault : goal.returns-in_default-clause-fault
returns-in_default-clause-fault c =
    IsWordsFault-from_part c.args.excess c.part_fault.result
    (take c.loop-parts.count c.loop-parts.words) c.args.parts c.loop-parts.parts c.loop-parts.invariant.read
    (λ none. let over = c.is_over.ensures.1 none in let left = c.loop-parts-test.true in cc) c.in_default.ensures.none
    (rw (← c.in_default.ensures.kept) c.part_fault.ensures)
