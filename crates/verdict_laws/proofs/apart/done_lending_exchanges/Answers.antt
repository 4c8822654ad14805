use Rattle.verdict_laws.proofs.Lending.{done_lending_turned}
use Rattle.verdict_laws.proofs.apart.done_lending_exchanges.Goals as goal

pub returns : goal.returns
returns c = λ old middle new cpu other one two given answered granule.
    done_lending_turned old middle new cpu other one two given answered granule
