use Rattle.std.proofs.Common.{◌∷◌, ◌++◌, sym, subst}
use Rattle.std.proofs.lemmas.Result.{IfErr-weaker}
use Rattle.merging.specs.Faults.{IsFaultOf}
use Rattle.merging.proofs.reader.read_line.Goals as goal

pub returns-in-None-clause-fault : goal.returns-in-None-clause-fault
returns-in-None-clause-fault c =
    rw c.in-None.is
    (IfErr-weaker c.begin.result _ _ (λ fault told lines more are.
    subst (λ ls. IsFaultOf (ls ++ (c.args.bytes.now ++ 10 ∷ more)) fault) (sym are) (told more)) c.begin.ensures.fault)
