use Rattle.std.proofs.Common.{◌∷◌, ◌++◌, [], ap, sym, ◌∙◌, subst, append_assoc}
use Rattle.std.proofs.lemmas.Result.{err_from_is_err_and, IfErr-weaker}
use Rattle.merging.specs.Faults.{IsFaultOf}
use Rattle.merging.proofs.TableLaws.{regroup}
use Rattle.merging.proofs.reader.Reader.feed.Goals as goal

pub returns-in_default-clause-fault : goal.returns-in_default-clause-fault
returns-in_default-clause-fault c =
    IfErr-weaker c.hold.result _ _ (λ fault told text more read.
    let at = c.loop-rest.invariant text read in
    subst (λ t. IsFaultOf t fault)
    (sym (append_assoc at.0 c.loop-rest.rest.now more) ∙ ap (λ t. t ++ more) at.1.1
    ∙ append_assoc text c.args.piece.now more) (told at.0 more at.1.0))
    c.hold.ensures.fault

pub returns-in_err-end_line-clause-fault : goal.returns-in_err-end_line-clause-fault
returns-in_err-end_line-clause-fault c =
    let p = err_from_is_err_and c.from_residual.result c.from_residual.ensures.1 in
    rw (p.1, p.2) (λ text more read.
    let at = c.loop-rest.invariant text read in
    subst (λ t. IsFaultOf t c.in_err-end_line.field-0.0)
    (ap (λ r. at.0 ++ r) (sym (append_assoc c.in-Some.last.now (10 ∷ c.in-Some.more.now) more))
    ∙ ap (λ r. at.0 ++ (r ++ more)) (sym c.in-Some.ensures.line)
    ∙ sym (append_assoc at.0 c.loop-rest.rest.now more) ∙ ap (λ t. t ++ more) at.1.1 ∙ append_assoc text c.args.piece.now more)
    (c.in_err-end_line.ensures.fault at.0 (c.in-Some.more.now ++ more) at.1.0))

pub loop-rest-preserved : goal.loop-rest-preserved
loop-rest-preserved c = λ text read.
    let at = c.loop-rest.invariant text read in (
      at.0 ++ (c.in-Some.last.now ++ 10 ∷ []),
      (
        c.in_ok-end_line.ensures.read at.0 at.1.0,
        sym (regroup at.0 c.in-Some.last.now c.in-Some.more.now) ∙ ap (λ r. at.0 ++ r) (sym c.in-Some.ensures.line) ∙ at.1.1,
      ),
    )
