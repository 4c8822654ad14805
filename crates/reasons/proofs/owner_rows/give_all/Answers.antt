use Rattle.reasons.proofs.Common.{◌*◌, ◌≡◌, ◌⊎◌, None, Some, arith, state_of}
use Rattle.spec_machine.specs.View.{tables_at}
use Rattle.reasons.specs.Owners.{CellGives, IsGivenBelow, RealmGives, RecGives, TableGives}
use Rattle.reasons.proofs.Owners.{given-next, given-owners, gives-both, gives-none}
use Rattle.reasons.proofs.owner_rows.give_all.Goals as goal

pub loop-number-init : goal.loop-number-init
loop-number-init c = gives-none _ c.args.first _ c.args.rows.now.items (λ x given. absurd (omega (arith, given.1)))

pub overflow_mul-granule : goal.overflow_mul-granule
overflow_mul-granule c = omega (arith, c.loop-number-test.true, c.granule_count-number-end.ensures.most)

pub loop-number-preserved : goal.loop-number-preserved
loop-number-preserved c =
    let m = c.args.machine.now in
    let s = state_of m in
    let l = c.loop-number in
    let at = l.number * 4096 in
    let first = c.args.first in
    let old = c.args.rows.now.items in
    gives-both s first (IsGivenBelow s (tables_at m) l.number) (CellGives s (tables_at m) at) _ old l.rows.items _ l.invariant
    (gives-both s first (RealmGives s.realm at)
    (λ x. RecGives s.rec at x ⊎ TableGives (tables_at m) at x) _ l.rows.items c.give_realm.new.rows.items _ c.give_realm.ensures
    (gives-both s first (RecGives s.rec at) (TableGives (tables_at m) at)
    _ c.give_realm.new.rows.items c.give_rec.new.rows.items _ c.give_rec.ensures c.give_table.ensures (λ x gives. gives))
    (λ x gives. gives))
    (λ x given. given-next s (tables_at m) l.number x given)

pub returns : goal.returns
returns c before size at =
    let m = c.args.machine.now in
    let l = c.loop-number in
    let given = l.invariant before (λ _. None) size (λ x realm is. absurd (let bad : None ≡ Some realm = is in cc)) at in (
      given.next,
      given-owners m given.next l.number
          (omega (arith, c.loop-number-test.false, l.auto.number-end, c.granule_count-number-end.ensures.is)) given.are_tied given.given,
      given.are_rows,
    )
