use Rattle.std.proofs.Common.{◌≡◌, ◌∷◌, [], arith}
use Rattle.rmm_spec.specs.Text.{decimal}
use Rattle.rmm_spec.specs.CommandText.{reply_parts}
use Rattle.std.proofs.lemmas.Result.{err_from_is_err_and}
use Rattle.rmi_codec.proofs.FaultLaws.{IsReplyFault-from_status, IsReplyFault-from_index, IsReplyFault-from_err_end}
use Rattle.rmi_codec.proofs.PartLaws.{reply_parts-err}
use Rattle.rmi_codec.proofs.reply.err_from.Goals as goal

pub returns-in_err-status-clause-only : goal.returns-in_err-status-clause-only
returns-in_err-status-clause-only c = λ r is e.
    let given = reply_parts-err r c.args.parts is e in
    let bad = c.in_err-status.ensures.only given.0 (decimal given.1 ∷ []) given.4 given.3 in
    cc

pub returns-in_err-index-clause-only : goal.returns-in_err-index-clause-only
returns-in_err-index-clause-only c = λ r is e.
    let given = reply_parts-err r c.args.parts is e in
    let status = c.in_ok-status.ensures.found in
    let rest : c.take_small.new.parts ≡ decimal given.1 ∷ [] = (let parts = given.3 in cc) in
    let bad = c.in_err-index.ensures.only given.1 [] given.5 rest in
    cc

pub returns-in_err-finish-clause-only : goal.returns-in_err-finish-clause-only
returns-in_err-finish-clause-only c = λ r is e.
    let given = reply_parts-err r c.args.parts is e in
    let status = c.in_ok-status.ensures.found in
    let index = c.in_ok-index.ensures.found in
    let rest : c.take_small-2.new.parts ≡ [] = (let parts = given.3 in cc) in
    let bad = c.in_err-finish.ensures.only rest in
    cc

pub returns-clause-found : goal.returns-clause-found
unfolding reply_parts
returns-clause-found c =
    let status = c.in_ok-status.ensures.found in
    let index = c.in_ok-index.ensures.found in
    let over = c.in_ok-finish.ensures.found in
    ((omega arith, omega arith), cc)

pub returns-clause-only : goal.returns-clause-only
returns-clause-only c = λ r is e.
    let given = reply_parts-err r c.args.parts is e in
    let status = c.in_ok-status.ensures.only given.0 (decimal given.1 ∷ []) given.4 given.3 in
    let found = c.in_ok-status.ensures.found in
    let rest : c.take_small.new.parts ≡ decimal given.1 ∷ [] = (let parts = given.3 in cc) in
    let index = c.in_ok-index.ensures.only given.1 [] given.5 rest in
    let reply-is = given.2 in
    cc

pub returns-in_err-status-clause-fault : goal.returns-in_err-status-clause-fault
returns-in_err-status-clause-fault c =
    let p = err_from_is_err_and c.from_residual.result c.from_residual.ensures.1 in
    rw (p.1, p.2) (IsReplyFault-from_status _ c.args.parts c.in_err-status.ensures.fault)

pub returns-in_err-index-clause-fault : goal.returns-in_err-index-clause-fault
returns-in_err-index-clause-fault c =
    let p = err_from_is_err_and c.from_residual-in_err-index.result c.from_residual-in_err-index.ensures.1 in
    rw (p.1, p.2) (IsReplyFault-from_index _
    (decimal c.in_ok-status.status) c.args.parts c.take_small.new.parts c.in_ok-status.ensures.found c.in_err-index.ensures.fault)

pub returns-in_err-finish-clause-fault : goal.returns-in_err-finish-clause-fault
returns-in_err-finish-clause-fault c =
    let p = err_from_is_err_and c.from_residual-in_err-finish.result c.from_residual-in_err-finish.ensures.1 in
    rw (p.1, p.2) (IsReplyFault-from_err_end _ (decimal c.in_ok-status.status) (decimal c.in_ok-index.index) c.args.parts
    c.take_small.new.parts c.take_small-2.new.parts c.in_ok-status.ensures.found c.in_ok-index.ensures.found c.in_err-finish.ensures.fault)
