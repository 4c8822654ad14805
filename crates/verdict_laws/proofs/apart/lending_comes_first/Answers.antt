use Rattle.verdict_laws.proofs.LentBack.{lent_turned}
use Rattle.verdict_laws.proofs.apart.lending_comes_first.Goals as goal

pub returns : goal.returns
returns c = λ old middle new cpu other one two given answered granule.
    lent_turned old middle new cpu other one two given answered granule
