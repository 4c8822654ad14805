use Rattle.std.proofs.Common.{◌∙◌}
use Rattle.history.specs.Entry.{events_in}
use Rattle.history.proofs.SubhistoryLaws.{IsIndexed-same}
use Rattle.history.proofs.history.History.copy.Goals as goal

pub invariant_of-result : goal.invariant_of-result
invariant_of-result c =
    let of = c.self.inside in
    let entries = c.in_ok-to_vec.ensures.items_if_clones_equal (λ x y is. is) ∙ c.deref.ensures.value in
    let words = c.in_ok-to_vec-2.ensures.items_if_clones_equal (λ x y is. is) ∙ c.deref-2.ensures.value in
    rw (entries, words) (record {
      held = c.self.invariant.held;
      indexed = IsIndexed-same of.config (events_in of.words.items of.entries.items) of.subhistories c.in_ok-copies.field-0
          c.in_ok-copies.ensures.counted c.in_ok-copies.ensures.same c.self.invariant.indexed;
    })
