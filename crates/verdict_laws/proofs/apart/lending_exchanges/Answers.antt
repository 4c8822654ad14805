use Rattle.verdict_laws.proofs.Lending.{lending_turned}
use Rattle.verdict_laws.proofs.apart.lending_exchanges.Goals as goal

pub returns : goal.returns
returns c = λ old middle new cpu other one two given answered granule.
    lending_turned old middle new cpu other one two given answered granule
