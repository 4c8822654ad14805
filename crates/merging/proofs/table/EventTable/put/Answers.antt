use Rattle.std.proofs.Common.{◌+◌, length, ◌≤◌, set, sym, ap, subst}
use Rattle.merging.specs.SeenEvents.{moment_seen}
use Rattle.merging.specs.Slots.{moment_words, IsPlaced}
use Rattle.merging.proofs.SlotLaws.{IsStored, HasFewWords-moment, moment_words-few, IsPut-stored, IsHeld-stored}
use Rattle.merging.proofs.table.EventTable.put.Goals as goal

is_stored : (c : goal.After-self-2-1) → IsStored c.self.inside.words.items c.place-first.new.words.items c.self.inside.slots.items
    (set c.grow.new.slots.items c.args.stamp
    (record { line = c.self.inside.count + 2; first = c.place-first.result; cpu = c.args.cpu; what = c.what_of-what.result }))
    c.args.stamp (c.self.inside.count + 2) c.args.cpu (moment_seen c.args.moment)
is_stored c = record {
  first = c.place-first.result;
  kept = c.what_of-what.result;
  is_kept = c.what_of-what.ensures;
  is_placed = subst
      (λ ws. IsPlaced ws c.place-first.new.words.items (moment_words (moment_seen c.args.moment)) c.place-first.result) c.reserve.ensures.items
      (subst (λ own. IsPlaced c.reserve.new.self.items c.place-first.new.words.items own c.place-first.result)
      c.words_of.ensures c.place-first.ensures);
  is_slots =
      ap (λ slots. set slots c.args.stamp
      (record { line = c.self.inside.count + 2; first = c.place-first.result; cpu = c.args.cpu; what = c.what_of-what.result }))
      c.in_ok-grow.ensures.ok;
  free = rw (← c.self.view_is) at c.requires.free;
}

pub place-first-requires-clause-few : goal.place-first-requires-clause-few
place-first-requires-clause-few c =
    subst (λ ws. length ws ≤ 10) (sym c.words_of.ensures)
    (moment_words-few (moment_seen c.args.moment) (HasFewWords-moment (moment_seen c.args.moment) c.requires.moment))

pub what_of-what-requires : goal.what_of-what-requires
what_of-what-requires c = HasFewWords-moment (moment_seen c.args.moment) c.requires.moment

pub invariant_of-self-2 : goal.invariant_of-self-2
invariant_of-self-2 c =
    IsHeld-stored _ _ _ _ _ _ _ _ (is_stored c) c.self.invariant.each c.self.inside.count c.self.invariant
    (HasFewWords-moment (moment_seen c.args.moment) c.requires.moment) (record { cpu = c.requires.cpu; moment = c.requires.moment })
    (rw (← c.self.view_is) at c.requires.few) c.requires.stamp

pub returns-clause-ok : goal.returns-clause-ok
returns-clause-ok c = rw (← c.self.view_is) (IsPut-stored _ _ _ _ _ _ _ _ (is_stored c) c.self.invariant.each)
