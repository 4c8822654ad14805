use Rattle.std.proofs.Common.{arith, ◌≡◌, ◌<◌, length, false, true, refl, subst, sym}
use Rattle.history.specs.Entry.{events_in, room_of}
use Rattle.history.specs.Room.{spare}
use Rattle.history.specs.EventRef.{event_seen}
use Rattle.history.proofs.SubhistoryLaws.{IsIndexed-push, IsIndexed-refused, has_subhistory, next_rank, subhistory_within}
use Rattle.history.proofs.EntryLaws.{IsHeld-stored, events_in-stored, length-events_in, few_words}
use Rattle.history.proofs.RoomLaws.{least_spare-limit, room_left, room_at}
use Rattle.history.proofs.history.History.append.Goals as goal

pub returns-in_err-make_room-clause-succeeds : goal.returns-in_err-make_room-clause-succeeds
returns-in_err-make_room-clause-succeeds c =
    let inside = c.self.inside in
    let follows = rw (← c.self.view_is) at c.requires.follows in
    let within = subhistory_within inside.config (events_in inside.words.items inside.entries.items) inside.subhistories
    (event_seen c.args.event) c.cpu_of.result c.self.invariant.indexed follows c.cpu_of.ensures in
    rw (← c.self.view_is) (λ some.
    let bad : false ≡ true =
    c.in_err-make_room.ensures.succeeds (room_at _ inside.subhistories c.cpu_of.result c.index-self-cpu_of.result within some) in absurd cc)

pub returns-in_err-make_room-clause-left : goal.returns-in_err-make_room-clause-left
returns-in_err-make_room-clause-left c =
    let inside = c.self.inside in
    let follows = rw (← c.self.view_is) at c.requires.follows in
    let within = subhistory_within inside.config (events_in inside.words.items inside.entries.items) inside.subhistories
    (event_seen c.args.event) c.cpu_of.result c.self.invariant.indexed follows c.cpu_of.ensures in
    rw (← c.self.view_is)
    (room_left _ _ inside.subhistories c.cpu_of.result c.index-self-cpu_of.result _ within (omega arith) (omega (arith, c.make_room.ensures.grows)))

pub returns-in_err-store-clause-succeeds : goal.returns-in_err-store-clause-succeeds
returns-in_err-store-clause-succeeds c =
    let inside = c.self.inside in
    rw (← c.self.view_is) (λ some.
    let bad : false ≡ true = c.in_err-store.ensures.succeeds
    (omega (arith, some, least_spare-limit (room_of (spare inside.entries) (spare inside.words)) inside.subhistories)) in absurd cc)

pub returns-in_err-store-clause-left : goal.returns-in_err-store-clause-left
returns-in_err-store-clause-left c =
    let inside = c.self.inside in
    let follows = rw (← c.self.view_is) at c.requires.follows in
    let within = subhistory_within inside.config (events_in inside.words.items inside.entries.items) inside.subhistories
    (event_seen c.args.event) c.cpu_of.result c.self.invariant.indexed follows c.cpu_of.ensures in
    rw (← c.self.view_is)
    (room_left _ _ inside.subhistories c.cpu_of.result c.index-self-cpu_of.result _ within c.store.ensures.left
    (omega (arith, c.make_room.ensures.grows)))

pub returns-clause-left : goal.returns-clause-left
returns-clause-left c =
    let inside = c.self.inside in
    let follows = rw (← c.self.view_is) at c.requires.follows in
    let within = subhistory_within inside.config (events_in inside.words.items inside.entries.items) inside.subhistories
    (event_seen c.args.event) c.cpu_of.result c.self.invariant.indexed follows c.cpu_of.ensures in
    rw (← c.self.view_is)
    (room_left _ _ inside.subhistories c.cpu_of.result c.index-self-cpu_of.result _ within c.store.ensures.left
    (omega (arith, c.make_room.ensures.grows, c.enter.ensures.left)))

pub store-requires-clause-few : goal.store-requires-clause-few
store-requires-clause-few c = few_words _ (event_seen c.args.event) c.requires.follows.is_event

pub store-requires-clause-words : goal.store-requires-clause-words
store-requires-clause-words c =
    let inside = c.self.inside in
    let line = rw (← c.self.view_is) at c.requires.line in
    omega (arith, line, c.self.invariant.held.few_words, length-events_in inside.words.items inside.entries.items)

pub invariant_of-self-2 : goal.invariant_of-self-2
invariant_of-self-2 c =
    let inside = c.self.inside in
    let follows = rw (← c.self.view_is) at c.requires.follows in
    let line = rw (← c.self.view_is) at c.requires.line in
    let stored = c.in_ok-store.ensures.ok in
    let ranked = next_rank (events_in inside.words.items inside.entries.items) (event_seen c.args.event) follows.record_goes_on in
    let events = events_in-stored inside.words.items _ inside.entries.items _ _ c.self.invariant.held stored ranked in
    let counted : c.len-place.result ≡ length (events_in inside.words.items inside.entries.items) =
    omega (arith, c.len-place.ensures, length-events_in inside.words.items inside.entries.items, inside.entries.ok.0) in
    let entered = rw (c.make_room.ensures.kept, counted, c.cpu_of.ensures) at c.enter.ensures.entered in
    record {
      held = IsHeld-stored inside.words.items _ inside.entries.items _ _ c.self.invariant.held stored;
      indexed = rw (events, c.cpu_of.ensures)
          (IsIndexed-push inside.config (events_in inside.words.items inside.entries.items) inside.subhistories (event_seen c.args.event)
          c.index-self-cpu_of.result _ c.self.invariant.indexed follows line entered);
    }

pub returns-clause-ok : goal.returns-clause-ok
returns-clause-ok c =
    let inside = c.self.inside in
    let follows = rw (← c.self.view_is) at c.requires.follows in
    let ranked = next_rank (events_in inside.words.items inside.entries.items) (event_seen c.args.event) follows.record_goes_on in
    rw (← c.self.view_is)
    (rw (events_in-stored inside.words.items _ inside.entries.items _ _ c.self.invariant.held c.in_ok-store.ensures.ok ranked) refl)

pub invariant_of-self-in_err-store : goal.invariant_of-self-in_err-store
invariant_of-self-in_err-store c =
    let inside = c.self.inside in
    let follows = rw (← c.self.view_is) at c.requires.follows in
    let events = events_in inside.words.items inside.entries.items in
    let within = subst (λ n. n < 8) (sym c.cpu_of.ensures)
    (has_subhistory inside.config events inside.subhistories (event_seen c.args.event) c.self.invariant.indexed follows) in
    rw (c.in_err-store.ensures.same_entries, c.in_err-store.ensures.same_words) (record {
      held = c.self.invariant.held;
      indexed = IsIndexed-refused inside.config events inside.subhistories
          c.cpu_of.result c.index-self-cpu_of.result _ c.self.invariant.indexed within
          c.make_room.ensures.kept;
    })

pub overflow_cast-place : goal.overflow_cast-place
overflow_cast-place c =
    let inside = c.self.inside in
    let line = rw (← c.self.view_is) at c.requires.line in
    omega (arith, line, c.len-place.ensures, length-events_in inside.words.items inside.entries.items, inside.entries.ok.0)

pub listed : goal.listed
listed c =
    let inside = c.self.inside in
    let follows = rw (← c.self.view_is) at c.requires.follows in
    subhistory_within inside.config (events_in inside.words.items inside.entries.items) inside.subhistories
    (event_seen c.args.event) c.cpu_of.result c.self.invariant.indexed follows c.cpu_of.ensures

pub bounds-self-inside-cpu_of : goal.bounds-self-inside-cpu_of
bounds-self-inside-cpu_of c =
    let inside = c.self.inside in
    let follows = rw (← c.self.view_is) at c.requires.follows in
    subst (λ n. n < 8) (sym c.cpu_of.ensures)
    (has_subhistory inside.config (events_in inside.words.items inside.entries.items) inside.subhistories (event_seen c.args.event)
    c.self.invariant.indexed follows)

pub invariant_of-self : goal.invariant_of-self
invariant_of-self c =
    let inside = c.self.inside in
    let follows = rw (← c.self.view_is) at c.requires.follows in
    let events = events_in inside.words.items inside.entries.items in
    let within = subst (λ n. n < 8) (sym c.cpu_of.ensures)
    (has_subhistory inside.config events inside.subhistories (event_seen c.args.event) c.self.invariant.indexed follows) in
    record {
      held = c.self.invariant.held;
      indexed = IsIndexed-refused inside.config events inside.subhistories
          c.cpu_of.result c.index-self-cpu_of.result _ c.self.invariant.indexed within
          c.make_room.ensures.kept;
    }
