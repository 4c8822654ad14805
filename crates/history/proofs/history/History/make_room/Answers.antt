use Rattle.std.proofs.Common.{arith, ◌≡◌, false, true}
use Rattle.std.proofs.lemmas.Result.{on_ok_weaker}
use Rattle.history.specs.Entry.{events_in, room_of}
use Rattle.history.specs.Room.{spare}
use Rattle.history.proofs.SubhistoryLaws.{IsIndexed-same}
use Rattle.history.proofs.RoomLaws.{least_spare-limit, room_at, room_grows, room_made}
use Rattle.history.proofs.history.History.make_room.Goals as goal

pub returns-in_err-reserve_event-clause-grows : goal.returns-in_err-reserve_event-clause-grows
returns-in_err-reserve_event-clause-grows c =
    rw (← c.self.view_is)
    (room_grows _ _ c.self.inside.subhistories c.self.inside.subhistories c.self.invariant.indexed.counted
    c.self.invariant.indexed.counted c.reserve_event.ensures.grows (λ k other within. omega arith))

pub invariant_of-self-2 : goal.invariant_of-self-2
invariant_of-self-2 c =
    rw (c.reserve_event.ensures.entries, c.reserve_event.ensures.words) (record {
      held = c.self.invariant.held;
      indexed = IsIndexed-same c.self.inside.config (events_in c.self.inside.words.items c.self.inside.entries.items) c.self.inside.subhistories
          c.make_room_at.new.subhistories c.make_room_at.ensures.counted c.make_room_at.ensures.kept c.self.invariant.indexed;
    })

pub returns-clause-ok : goal.returns-clause-ok
returns-clause-ok c =
    on_ok_weaker c.make_room_at.result
    (λ each. room_made _ c.make_room_at.new.subhistories c.make_room_at.ensures.counted c.in_ok-reserve_event.ensures.ok each)
    c.make_room_at.ensures.ok

pub returns-clause-grows : goal.returns-clause-grows
returns-clause-grows c =
    rw (← c.self.view_is)
    (room_grows _ _ c.self.inside.subhistories c.make_room_at.new.subhistories c.self.invariant.indexed.counted c.make_room_at.ensures.counted
    c.reserve_event.ensures.grows c.make_room_at.ensures.grows)

pub returns-in_err-reserve_event-clause-succeeds : goal.returns-in_err-reserve_event-clause-succeeds
returns-in_err-reserve_event-clause-succeeds c =
    rw (← c.self.view_is) (λ some.
    let bad : false ≡ true = c.in_err-reserve_event.ensures.succeeds (omega
    (arith, some, least_spare-limit (room_of (spare c.self.inside.entries) (spare c.self.inside.words)) c.self.inside.subhistories)) in absurd cc)

pub returns-clause-succeeds : goal.returns-clause-succeeds
returns-clause-succeeds c =
    rw (← c.self.view_is)
    (λ some. c.make_room_at.ensures.succeeds (λ cpu other within.
    room_at _ c.self.inside.subhistories cpu other (omega (arith, c.self.invariant.indexed.counted)) some))
