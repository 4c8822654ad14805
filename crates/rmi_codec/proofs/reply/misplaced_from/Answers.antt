use Rattle.std.proofs.Common.{◌∷◌, ap, codes}
use Rattle.rmm_spec.specs.CommandText.{reply_parts}
use Rattle.std.proofs.lemmas.Result.{err_from_is_err_and}
use Rattle.rmi_codec.proofs.FaultLaws.{IsReplyFault-from_end}
use Rattle.rmi_codec.proofs.PartLaws.{reply_parts-misplaced}
use Rattle.rmi_codec.proofs.reply.misplaced_from.Goals as goal

pub returns-in_err-finish-clause-only : goal.returns-in_err-finish-clause-only
returns-in_err-finish-clause-only c = λ r _ e.
    let given = reply_parts-misplaced r c.args.parts e in
    let bad = c.in_err-finish.ensures.only given.1 in
    cc

pub returns-clause-found : goal.returns-clause-found
unfolding reply_parts
returns-clause-found c = (tt, ap (λ ps. codes "misplaced" ∷ ps) c.in_ok-finish.ensures.found)

pub returns-clause-only : goal.returns-clause-only
returns-clause-only c = λ r _ e.
    let given = reply_parts-misplaced r c.args.parts e in
    let reply-is = given.0 in
    cc

pub returns-in_err-finish-clause-fault : goal.returns-in_err-finish-clause-fault
returns-in_err-finish-clause-fault c =
    let p = err_from_is_err_and c.from_residual.result c.from_residual.ensures.1 in
    rw (p.1, p.2) (IsReplyFault-from_end _ c.args.parts c.in_err-finish.ensures.fault)
