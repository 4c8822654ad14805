-- One event more.
use Rattle.std.proofs.Common.{◌∷◌, [], arith}
use Rattle.std.proofs.lemmas.List.{length-append}
use Rattle.finding.proofs.UnreadLaws.{each_unread}
use Rattle.finding.proofs.unread.unread.Goals as goal

pub places-preserved : goal.places-preserved
places-preserved c =
    let old = c.places.unread.recorded in
    let event = c.in-Some.event in
    let so_far = c.places.invariant in
    let grown = length-append old.events (event ∷ []) in
    rw c.in_ok-push.ensures.ok
    (record {
      config = so_far.config;
      len = omega (arith, grown, so_far.len);
      each = each_unread c.args.history.now.recorded.events old.events c.places.place event so_far.len so_far.each (λ e is. c.in-Some.ensures e is);
    })
