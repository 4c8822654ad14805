-- Both parts, each with the state.
use Rattle.explain.proofs.Common.{◌∙◌, Bool, ap, sym}
use Rattle.explain.specs.Watch.{has, showing}
use Rattle.explain.proofs.track.track_with.Goals as goal

pub returns : goal.returns
returns c history lines w s passes sample is =
    let there = ap (λ (b : Bool). showing b (has s w)) (sym sample.there) in
    let read = ap (showing c.args.sample.is_there) (sym sample.read) in record {
      turn = c.turn_with.ensures history lines w s passes sample.so sample.there is.turn;
      kept = c.kept_with.ensures history lines w s passes (there ∙ read) is.kept;
    }
