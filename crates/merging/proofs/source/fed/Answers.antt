use Rattle.std.proofs.Common.{◌++◌, sym, subst, append_assoc}
use Rattle.merging.specs.Faults as reading
use Rattle.merging.proofs.source.fed.Goals as goal

pub returns-in-Some : goal.returns-in-Some
returns-in-Some c =
    rw c.in-Some.is (λ text taken more.
    subst (λ t. reading.IsFaultOf t c.in-Some.fault) (sym (append_assoc text c.args.piece.now more)) (taken (c.args.piece.now ++ more)))

pub returns-in-Err : goal.returns-in-Err
returns-in-Err c =
    rw c.in-None.is (λ text taken more.
    subst (λ t. reading.IsFaultOf t c.in-Err.fault) (sym (append_assoc text c.args.piece.now more)) (c.in-Err.ensures.fault text more taken))
