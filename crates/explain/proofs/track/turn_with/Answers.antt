-- It is so, or it isn't.
use Rattle.std.proofs.Common.{sym, ◌∙◌}
use Rattle.explain.proofs.Tracks.{IsTurn-not, IsTurn-so}
use Rattle.explain.proofs.track.turn_with.Goals as goal

pub returns-then-so : goal.returns-then-so
returns-then-so c history lines w s passes so there is = IsTurn-so history lines w c.args.count s passes c.args.turn (sym so ∙ c.if-so.true) is

pub returns : goal.returns
returns c history lines w s passes so there is = IsTurn-not history lines w c.args.count s passes c.args.there (sym so ∙ c.if-so.false) (sym there)
