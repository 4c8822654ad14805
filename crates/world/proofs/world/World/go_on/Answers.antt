use Rattle.world.proofs.Common.{IsNext, Ready, commit_room, event_room, subst, sym, world_of}
use Rattle.std.specs.Prelude.{OnErr}
use Rattle.world.specs.Recorded.{Records, IsShort}
use Rattle.world.proofs.world.World.go_on.Goals as goal

pub commit-requires-clause-ready : goal.commit-requires-clause-ready
commit-requires-clause-ready c =
    let old = world_of c.args.self.now in
    let ready : IsNext old c.args.cpu Ready = subst (IsNext old c.args.cpu) c.in-Ready.is c.next_of.ensures.next in
    subst (λ w. IsNext w c.args.cpu Ready) (sym c.next_of.ensures.world) ready

pub returns-in-Ready-clause-only_recorded : goal.returns-in-Ready-clause-only_recorded
returns-in-Ready-clause-only_recorded c =
    subst (λ w. OnErr c.commit.result (Records w c.args.cpu)) c.next_of.ensures.world c.commit.ensures.only_recorded

pub returns-in-Ready-clause-only_short : goal.returns-in-Ready-clause-only_short
returns-in-Ready-clause-only_short c =
    let mid = c.next_of.new.self in
    let s = c.args.self.now in
    subst (λ w. OnErr c.commit.result (IsShort (event_room s) (commit_room s) w c.args.cpu)) c.next_of.ensures.world
    (subst (λ room. OnErr c.commit.result (IsShort (event_room s) room (world_of mid) c.args.cpu)) c.next_of.ensures.commits
    (subst (λ room. OnErr c.commit.result (IsShort room (commit_room mid) (world_of mid) c.args.cpu))
    c.next_of.ensures.events c.commit.ensures.only_short))
