use Rattle.std.proofs.Common.{◌∷◌, ◌++◌, [], ap, ◌∙◌, subst}
use Rattle.std.proofs.lemmas.Result.{err_from_is_err_and}
use Rattle.history.proofs.PieceLaws.{too_long_held, of_held_line, regroup}
use Rattle.history.specs.Faults.{EndsWithEvent, IsFaultOf}
use Rattle.history.specs.Pieces.{lines_read}
use Rattle.history.proofs.beginning.Beginning.end_line.Goals as goal

pub returns-in_default-clause-fault : goal.returns-in_default-clause-fault
returns-in_default-clause-fault c =
    rw (← c.self.view_is, c.next_number.ensures.number) (λ more.
    too_long_held c.self.inside.history c.self.inside.line c.args.last.now
    (10 ∷ more) c.next_number.ensures.well_formed c.in_default.ensures.too_long.1
    c.in_default.ensures.too_long.0)

pub returns-in_err-read_line-clause-fault : goal.returns-in_err-read_line-clause-fault
returns-in_err-read_line-clause-fault c =
    let inside = c.self.inside in
    let p = err_from_is_err_and c.from_residual.result c.from_residual.ensures.1 in
    rw (p.1, p.2, ← c.self.view_is)
    (of_held_line (λ text. IsFaultOf text c.in_err-read_line.field-0.0) (lines_read inside.history) inside.line c.args.last.now c.in-Some.line.now
    c.in-Some.ensures.line c.in_err-read_line.ensures.fault)

pub returns-in_err-read_line-clause-memory : goal.returns-in_err-read_line-clause-memory
returns-in_err-read_line-clause-memory c =
    let inside = c.self.inside in
    let p = err_from_is_err_and c.from_residual.result c.from_residual.ensures.1 in
    rw (p.1, p.2, ← c.self.view_is) (λ refused.
    subst EndsWithEvent (ap (λ l. lines_read inside.history ++ (l ++ 10 ∷ [])) c.in-Some.ensures.line
    ∙ regroup (lines_read inside.history) inside.line c.args.last.now (10 ∷ []))
    (c.in_err-read_line.ensures.memory refused))
