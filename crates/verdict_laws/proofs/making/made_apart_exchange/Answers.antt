use Rattle.verdict_laws.proofs.MakingCalls.{made_turned}
use Rattle.verdict_laws.proofs.making.made_apart_exchange.Goals as goal

pub returns : goal.returns
returns c = λ old middle new cpu other one two given answered sound differ.
    made_turned old middle new cpu other one two given answered sound
