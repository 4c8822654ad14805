use Rattle.reasons.proofs.Common.{◌∙◌, state_of, sym}
use Rattle.reasons.specs.Owners.{RealmGives}
use Rattle.reasons.proofs.Owners.{found-there, gives-same, realm-is_of}
use Rattle.reasons.proofs.owner_rows.give_realm.Goals as goal

pub returns-then-is_some : goal.returns-then-is_some
returns-then-is_some c =
    let m = c.args.machine.now in
    gives-same (state_of m) c.args.first _ (RealmGives (state_of m).realm c.args.granule) c.args.rows.now.items c.give.new.rows.items
    (c.give.ensures (state_of m) (realm-is_of m c.args.granule
    (found-there c.realm_in.result _ (sym c.is_some.ensures ∙ c.if-is_some.true) c.realm_in.ensures))) (λ x is. is.0)
