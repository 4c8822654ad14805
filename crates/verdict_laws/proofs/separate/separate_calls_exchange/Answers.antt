use Rattle.verdict_laws.proofs.SeparateCalls.{separate_turned}
use Rattle.verdict_laws.proofs.separate.separate_calls_exchange.Goals as goal

pub returns : goal.returns
returns c = λ old middle new cpu other one two given answered separate.
    separate_turned old middle new cpu other one two given answered separate
