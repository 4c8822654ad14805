use Rattle.reasons.proofs.Common.{◌++◌, ◌∙◌, ◌≡◌, None, ap, append-nil, arith, owner_rows, state_of, sym}
use Rattle.reasons.proofs.OwnerRows.{owner_rows-push}
use Rattle.reasons.proofs.owner_rows.push_rows.Goals as goal

pub loop-number-init : goal.loop-number-init
unfolding owner_rows
loop-number-init c = record { rows = sym (append-nil c.args.rows.now.items); room = omega (arith, c.requires) }

pub overflow_mul-granule : goal.overflow_mul-granule
overflow_mul-granule c = omega (arith, c.loop-number-test.true, c.granule_count-number-end.ensures.most)

pub loop-number-preserved : goal.loop-number-preserved
loop-number-preserved c =
    let l = c.loop-number in
    record {
      rows = c.push_reserved.ensures.items
          ∙ owner_rows-push (state_of c.args.machine.now) (λ _. None) c.args.rows.now.items l.rows.items l.number _ l.invariant.rows
          (λ i. record { granule = c.new.ensures i; tag = c.tag.ensures i; realm = None });
      room = omega (arith, c.push_reserved.ensures.len, c.push_reserved.ensures.capacity, l.invariant.room);
    }

pub returns : goal.returns
returns c =
    let l = c.loop-number in
    let all : l.number ≡ (state_of c.args.machine.now).config.granules =
    omega (arith, c.loop-number-test.false, l.auto.number-end, c.granule_count-number-end.ensures.is) in
    l.invariant.rows ∙ ap (λ k. c.args.rows.now.items ++ owner_rows (state_of c.args.machine.now) (λ _. None) k) all
