-- The call is the one that is made there.
use Rattle.std.proofs.Common.{◌∙◌, ap}
use Rattle.history.specs.Calls.{line_at}
use Rattle.explain.proofs.Lates.{match_both}
use Rattle.explain.proofs.unfinished.unfinished_call.Goals as goal
use Rattle.spec_lemmas.proofs.Calls.{HasOnePlaces-from_history}

pub returns : goal.returns
returns c =
    let named = c.named_call.ensures in
    let made = named.told.called in
    let here = rw (named.cpu, named.number) at made.2 in
    let one = HasOnePlaces-from_history c.args.history.now.recorded c.well_formed-fact.ensures in
    let same = one.one_call made.0 c.args.place c.args.cpu c.args.number c.named_call.result.call.command c.requires.made.0 here c.requires.made.1 in
    record {
      told = named.told;
      made = made.1 ∙ ap line_at same;
      unfinished = rw (named.cpu, named.number) c.requires.unfinished;
      named = rw (named.cpu, named.number) (match_both c.line_if_any.result _ _ c.line_if_any.ensures.none c.line_if_any.ensures.some);
    }
