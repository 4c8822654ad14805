-- An earlier line's call was made after this one returned.
use Rattle.explain.proofs.Common.{arith, line_seen, slice_get_within, take}
use Rattle.explain.proofs.Calls.{HasLine-from_IsTooLate}
use Rattle.explain.proofs.cause.order.Goals as goal

pub line_made_after-earlier-requires-clause-late : goal.line_made_after-earlier-requires-clause-late
line_made_after-earlier-requires-clause-late c =
    let is_returned = rw (c.called_by-cpu.ensures.cpu, c.called_by-cpu.ensures.number) at c.returned_at-returned.ensures in
    HasLine-from_IsTooLate c.args.history.now.recorded c.well_formed-fact.ensures
    (take c.args.index c.args.certificate.now.lines) (line_seen c.args.line)
    c.returned_at-returned.result is_returned c.requires.late

pub line-requires : goal.line-requires
line-requires c =
    omega (
      arith,
      c.line_made_after-earlier.ensures.before,
      slice_get_within c.args.certificate.now.lines c.args.index (line_seen c.args.line) c.requires.is_line,
    )
