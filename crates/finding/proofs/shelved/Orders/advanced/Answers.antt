-- The one order goes on, or is refused.
use Rattle.finding.proofs.Common.{◌++◌, ◌∙◌, ◌∷◌, ◌≡◌, List, Some, ap, arith, length, refl, sym, []}
use Rattle.std.proofs.Common.{length-append}
use Rattle.std.proofs.lemmas.List.{nil_from_length}
use Rattle.std.proofs.lemmas.List.Elements.{All-pop}
use Rattle.undo_log.specs.Patches.{Standing, standing_of}
use Rattle.finding.specs.Begun.{HasReturned, IsShelved}
use Rattle.finding.specs.declared.shelved.Orders.{Orders}
use Rattle.finding.specs.declared.shelved.Shelved.{Shelved}
use Rattle.finding.proofs.Gone.{gone_ahead, gone_covers}
use Rattle.finding.proofs.Shelving.{AreOrders-advanced, AreOrders-refused, IsBegun-shelved}
use Rattle.finding.proofs.shelved.Orders.advanced.Goals as goal

pub at_hand-order-requires : goal.at_hand-order-requires
at_hand-order-requires c =
    (All-pop (IsShelved c.args.history.now.recorded (standing_of c.args.self.machine)) c.args.self.begun.items c.pop.new.self.items
    (Some c.in-Some.order) c.in-Some.ensures.items c.requires.shelved).1.whole

pub returns-in-Lost : goal.returns-in-Lost
returns-in-Lost c =
    let begun = c.at_hand-order.result in
    let rest = c.pop.new.self.items in
    let one : length c.args.self.begun.items ≡ 1 = omega arith in
    record {
      orders = AreOrders-refused c.args.history.now.recorded c.args.self
          (record { begun = c.pop.new.self; complete = c.args.self.complete; trail = c.go_far.new.trail; machine = c.go_far.new.self.machine })
          rest c.in-Some.order begun one c.in-Some.ensures.items c.at_hand-order.ensures.front c.at_hand-order.ensures.there
          (rw c.in-Lost.is at c.in_ok-went.ensures.gone) refl refl;
      ahead = rw c.in-Lost.is
          (omega (arith, one, ap length c.in-Some.ensures.items, length-append rest (c.in-Some.order ∷ [])));
      within = c.in_ok-went.ensures.within;
    }

pub returns : goal.returns
returns c =
    let history = c.args.history.now.recorded in
    let begun = c.at_hand-order.result in
    let rest = c.pop.new.self.items in
    let grown = c.go_far.new.self in
    let after : Shelved = record { front = grown.front; last = grown.last; claims = grown.claims; patch = c.none.result } in
    let new : Orders = record { begun = c.push.new.self; complete = c.args.self.complete; trail = c.go_far.new.trail; machine = grown.machine } in
    let one : length c.args.self.begun.items ≡ 1 = omega arith in
    let none : rest ≡ [] =
    nil_from_length rest (omega (arith, one, ap length c.in-Some.ensures.items, length-append rest (c.in-Some.order ∷ []))) in
    let left = c.in_default-went.not-Lost in
    let gone = c.in_ok-went.ensures.gone in
    record {
      orders = AreOrders-advanced history c.args.self new rest c.in-Some.order begun one c.in-Some.ensures.items
          c.at_hand-order.ensures.front c.at_hand-order.ensures.there grown after c.in_ok-went.ensures.begun
          (gone_covers history begun grown c.in_ok-went.went left gone) c.in_ok-push.ensures.items refl refl
          (sym (ap (λ (f : Standing → Standing). f (standing_of grown.machine)) c.none.ensures));
      ahead = gone_ahead history begun grown new after c.in_ok-went.went
          (c.in_ok-push.ensures.items ∙ ap (λ (xs : List Shelved). xs ++ after ∷ []) none) refl left gone;
      within = c.in_ok-went.ensures.within;
    }

pub go_far-requires-clause-begun : goal.go_far-requires-clause-begun
go_far-requires-clause-begun c =
    let history = c.args.history.now.recorded in
    let popped = All-pop (IsShelved history (standing_of c.args.self.machine)) c.args.self.begun.items c.pop.new.self.items
    (Some c.in-Some.order) c.in-Some.ensures.items c.requires.shelved in
    IsBegun-shelved (standing_of c.args.self.machine) c.in-Some.order c.at_hand-order.result c.at_hand-order.ensures.there history
    c.at_hand-order.ensures.front popped.1.begun

pub go_far-requires-clause-returned : goal.go_far-requires-clause-returned
go_far-requires-clause-returned c =
    let history = c.args.history.now.recorded in
    let has = λ (order : Shelved). HasReturned history order.front.counts c.args.reach.from in
    let popped = All-pop has c.args.self.begun.items c.pop.new.self.items (Some c.in-Some.order) c.in-Some.ensures.items c.requires.returned in
    rw c.at_hand-order.ensures.front popped.1
