use Rattle.std.proofs.Common.{[], subst, append-nil}
use Rattle.merging.specs.Faults as reading
use Rattle.merging.proofs.source.table_of.Goals as goal

pub returns-in-Some-clause-fault : goal.returns-in-Some-clause-fault
returns-in-Some-clause-fault c =
    rw c.in-Some.is (λ text taken. subst (λ t. reading.IsFaultOf t c.in-Some.fault) (append-nil text) (taken []))
