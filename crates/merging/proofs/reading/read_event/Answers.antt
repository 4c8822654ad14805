use Rattle.std.proofs.Common.{◌++◌, ◌∷◌, [], ◌<◌, ◌∙◌, sym, subst, arith}
use Rattle.std.proofs.lemmas.Result.{err_from_is_err_and}
use Rattle.merging.specs.Faults.{IsTableOf}
use Rattle.merging.specs.SeenEvents.{line_seen, happened_seen}
use Rattle.merging.proofs.TableLaws.{IsTableOf-put, no_memory, repeats, too_many, bad, seen_known, not_seen_known}
use Rattle.merging.proofs.reading.read_event.Goals as goal

pub returns-then-count-eq-MOST_EVENTS-clause-fault : goal.returns-then-count-eq-MOST_EVENTS-clause-fault
returns-then-count-eq-MOST_EVENTS-clause-fault c = λ front more of_text.
    rw c.next_number-number.ensures
    (too_many front c.args.table.now of_text c.args.bytes.now more (sym c.count.ensures.count ∙ c.if-count-eq-MOST_EVENTS.true))

pub returns-in_default-clause-fault : goal.returns-in_default-clause-fault
returns-in_default-clause-fault c = λ front more of_text.
    rw c.next_number-number.ensures (bad front c.args.table.now of_text c.args.bytes.now more c.requires c.in_default.ensures.none)

pub returns-then-is_some-clause-fault : goal.returns-then-is_some-clause-fault
returns-then-is_some-clause-fault c = λ front more of_text.
    let room : c.args.table.now.count < 2000000 = omega (arith, c.count.ensures.count, c.count.ensures.most, c.if-count-eq-MOST_EVENTS.false) in
    rw c.next_number-number.ensures
    (repeats front c.args.bytes.now c.args.table.now (line_seen c.in-Some.line) of_text c.in-Some.ensures.found room more
    (seen_known happened_seen c.slot.result _ c.slot.ensures.seen (sym c.is_some.ensures ∙ c.if-is_some.true)))

pub returns-in_err-put-clause-fault : goal.returns-in_err-put-clause-fault
returns-in_err-put-clause-fault c =
    let room : c.args.table.now.count < 2000000 = omega (arith, c.count.ensures.count, c.count.ensures.most, c.if-count-eq-MOST_EVENTS.false) in
    let p = err_from_is_err_and c.from_residual.result c.from_residual.ensures.1 in
    rw (p.1, p.2) (λ front more of_text.
    no_memory front c.args.bytes.now c.args.table.now (line_seen c.in-Some.line) of_text c.in-Some.ensures.found room more)

pub returns-clause-read : goal.returns-clause-read
returns-clause-read c = λ front of_text.
    let room : c.args.table.now.count < 2000000 = omega (arith, c.count.ensures.count, c.count.ensures.most, c.if-count-eq-MOST_EVENTS.false) in
    subst (IsTableOf (front ++ (c.args.bytes.now ++ 10 ∷ []))) (sym c.in_ok-put.ensures.count)
    (IsTableOf-put front c.args.bytes.now c.args.table.now (line_seen c.in-Some.line) of_text c.in-Some.ensures.found room c.put.new.self.slots
    c.in_ok-put.ensures.ok)

pub put-requires-clause-free : goal.put-requires-clause-free
put-requires-clause-free c = not_seen_known happened_seen c.slot.result _ c.slot.ensures.seen (sym c.is_some.ensures ∙ c.if-is_some.false)
