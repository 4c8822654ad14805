use Rattle.commit_tickets.proofs.Common.{◌≤◌, sym, subst}
use Rattle.std.proofs.Math.Nat.{le-max_left, le-max_right}
use Rattle.commit_tickets.proofs.Rising.{RiseWithin-later}
use Rattle.commit_tickets.proofs.meeting.meet.Goals as goal

pub invariant_of-token : goal.invariant_of-token
invariant_of-token g c =
    let more = subst (λ n. c.token.inside.seen ≤ n) (sym c.max-seen.ensures) (le-max_left c.token.inside.seen c.other.inside.seen) in
    (c.token.invariant.0, c.token.invariant.1, RiseWithin-later 0 _ _ _ more c.token.invariant.2)

pub invariant_of-other : goal.invariant_of-other
invariant_of-other g c =
    let more = subst (λ n. c.other.inside.seen ≤ n) (sym c.max-seen.ensures) (le-max_right c.token.inside.seen c.other.inside.seen) in
    (c.other.invariant.0, c.other.invariant.1, RiseWithin-later 0 _ _ _ more c.other.invariant.2)
