-- By the granule's row.
use Rattle.std.proofs.Common.{◌≡◌, true, false, sym, ◌∙◌}
use Rattle.explain.proofs.Befores.{owner_told}
use Rattle.explain.proofs.Owners.{is_granule-no_row}
use Rattle.explain.proofs.before.owner_of.Goals as goal

pub returns-in-Some : goal.returns-in-Some
returns-in-Some c s report =
    rw c.realm_of.ensures (owner_told s c.args.owners.now c.args.granule c.in-Some.row report c.in-Some.ensures.some.0 c.in-Some.ensures.some.1)

pub returns-in-None : goal.returns-in-None
returns-in-None c s report is_true realm tied =
    let bad : false ≡ true = sym (is_granule-no_row s c.args.owners.now c.args.granule report c.in-None.ensures.none) ∙ is_true in cc
