-- A linearization would leave one of the events up to the place.
use Rattle.std.proofs.Common.{◌+◌}
use Rattle.finding.proofs.finding.none_up_to.Goals as goal

pub returns : goal.returns
returns c = (
  λ lines valid.
      let history = c.args.history.now.recorded in
      let part = c.first_parts_have_orders-law.ensures history (c.args.place + 1) lines c.well_formed-fact.ensures valid in
      c.requires part.0 part.1,
  c.requires,
)
