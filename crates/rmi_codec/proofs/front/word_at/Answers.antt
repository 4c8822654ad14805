use Rattle.rmi_codec.proofs.FrontLaws.{take-behind}
use Rattle.rmi_codec.proofs.front.word_at.Goals as goal

pub returns-clause-found : goal.returns-clause-found
returns-clause-found c =
    take-behind c.args.text.now c.args.at c.in_ok-word.count _ (rw c.split_at.ensures.back at c.in_ok-word.ensures.found)
