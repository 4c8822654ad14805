use Rattle.std.proofs.Common.{sym, ◌∙◌, subst}
use Rattle.std.proofs.lemmas.Bool.{false≢true}
use Rattle.rmm_spec.specs.Text.{IsBadLine}
use Rattle.merging.specs.Events.{InRecordings}
use Rattle.merging.specs.Pieces.{number_after}
use Rattle.merging.proofs.PieceLaws.{cut_off}
use Rattle.merging.proofs.reader.Reader.finish.Goals as goal

pub returns-then-not-is_empty-clause-fault : goal.returns-then-not-is_empty-clause-fault
returns-then-not-is_empty-clause-fault c =
    rw c.number_after.ensures (λ text read.
    subst (λ t. IsBadLine InRecordings t (number_after c.args.self.table)) (sym read.is_text)
    (cut_off c.args.self.table read.lines c.args.self.line read.are_read c.bytes-fact.ensures.no_newline
    (λ none. false≢true (sym c.if-not-is_empty.true ∙ c.is_empty.ensures.1 none))))
