use Rattle.verdict_laws.proofs.EndingCalls.{ending_turned}
use Rattle.verdict_laws.proofs.ending.ending_comes_first.Goals as goal

pub returns : goal.returns
returns c = λ old middle new cpu other one two given answered sound differ.
    ending_turned old middle new cpu other one two given answered sound
