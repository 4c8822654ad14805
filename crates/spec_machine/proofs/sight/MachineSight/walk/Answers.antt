use Rattle.spec_machine.proofs.Common.{ap, arith, state_of}
use Rattle.rmm_spec.specs.declared.walked.Walked.{Walked}
use Rattle.spec_lemmas.proofs.WalkLaws.{reach-le}
use Rattle.spec_machine.proofs.sight.MachineSight.walk.Goals as goal

pub returns-clause-within : goal.returns-clause-within
returns-clause-within c =
    let a = c.args in
    omega (arith, reach-le (state_of a.self.now) a.rd a.ipa a.max, ap (λ (w : Walked). w.level) c.walk_up_to.ensures)
