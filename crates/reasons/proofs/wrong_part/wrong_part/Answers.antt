use Rattle.std.proofs.Common.{◌≡◌, ◌+◌, length, false, true, refl, sym, subst, ◌∙◌, ap, add-one, arith}
use Rattle.rmm_spec.specs.Text.{parts_of}
use Rattle.reasons.specs.Wanted.{GoesOn}
use Rattle.reasons.proofs.GoingOn.{all_read, ends_at, front_at, get-next, inside-next, possible_at, some_same, wanted_first, wanted_next}
use Rattle.reasons.proofs.PlainParts.{length-parts_of, parts_of-part}
use Rattle.reasons.proofs.wrong_part.wrong_part.Goals as goal

pub loop-part-init : goal.loop-part-init
loop-part-init c = record { left = sym c.of-parts.ensures; wanted = wanted_first c.args.start (parts_of c.args.line.now) }

pub after-requires : goal.after-requires
after-requires c = record {
  plain =
      parts_of-part c.args.line.now c.loop-part.index c.in-Some.part.now c.next_part.new.self (c.loop-part.invariant.left ∙ c.in-Some.ensures.next);
}

pub returns-in_default-after-clause-wrong : goal.returns-in_default-after-clause-wrong
returns-in_default-after-clause-wrong c =
    let left = c.loop-part.invariant.left ∙ c.in-Some.ensures.next in
    let parts = parts_of c.args.line.now in
    record {
      within = c.loop-part.invariant.wanted.within;
      front = front_at c.args.start c.loop-part.wanted parts c.loop-part.index c.loop-part.invariant.wanted;
      possible = λ part. possible_at c.args.start c.loop-part.wanted parts c.loop-part.index part c.loop-part.invariant.wanted;
      ends = ends_at c.args.start c.loop-part.wanted parts c.loop-part.index c.loop-part.invariant.wanted;
      here = (
        get-next parts c.loop-part.index c.in-Some.part.now c.next_part.new.self left,
        λ can. c.in_default-after.not-Some can.0 (c.after.ensures.only can.0 can.1),
      );
    }

pub overflow_add-index : goal.overflow_add-index
overflow_add-index c =
    let left = c.loop-part.invariant.left ∙ c.in-Some.ensures.next in
    let inside = inside-next (parts_of c.args.line.now) c.loop-part.index c.in-Some.part.now c.next_part.new.self left in
    omega (arith, inside, length-parts_of c.args.line.now)

pub loop-part-smaller : goal.loop-part-smaller
loop-part-smaller c = omega (arith, ap length c.in-Some.ensures.next)

pub loop-part-preserved : goal.loop-part-preserved
loop-part-preserved c =
    let left = c.loop-part.invariant.left ∙ c.in-Some.ensures.next in
    let leads = c.in-Some-after.ensures.found in
    let next = wanted_next c.args.start c.loop-part.wanted c.in-Some-after.next
    (parts_of c.args.line.now) c.loop-part.index (c.loop-part.index + 1) c.in-Some.part.now c.next_part.new.self
    c.loop-part.invariant.wanted left leads
    (λ other h. some_same other c.in-Some-after.next (sym (c.after.ensures.only other h) ∙ c.in-Some-after.is)) (add-one c.loop-part.index) in
    record { left = next.1; wanted = next.0 }

pub returns-then-may_end-clause-none : goal.returns-then-may_end-clause-none
returns-then-may_end-clause-none c =
    let parts = parts_of c.args.line.now in
    let read = all_read parts c.loop-part.index c.loop-part.invariant.wanted.within (c.loop-part.invariant.left ∙ c.in_default.ensures.over) in
    subst (GoesOn c.args.start) read.1
    ((ends_at c.args.start c.loop-part.wanted parts c.loop-part.index c.loop-part.invariant.wanted).0 (c.if-may_end.ensures.0 refl))

pub returns-clause-wrong : goal.returns-clause-wrong
returns-clause-wrong c =
    let parts = parts_of c.args.line.now in
    let read = all_read parts c.loop-part.index c.loop-part.invariant.wanted.within (c.loop-part.invariant.left ∙ c.in_default.ensures.over) in
    record {
      within = c.loop-part.invariant.wanted.within;
      front = front_at c.args.start c.loop-part.wanted parts c.loop-part.index c.loop-part.invariant.wanted;
      possible = λ part. possible_at c.args.start c.loop-part.wanted parts c.loop-part.index part c.loop-part.invariant.wanted;
      ends = ends_at c.args.start c.loop-part.wanted parts c.loop-part.index c.loop-part.invariant.wanted;
      here = (read.0, λ ends. (let bad : false ≡ true = c.if-may_end.ensures.1 ends in absurd (cc)));
    }
