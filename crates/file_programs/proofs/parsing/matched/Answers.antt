use Rattle.std.proofs.lemmas.Result.{IfOk-weaker}
use Rattle.file_programs.proofs.parsing.matched.Goals as goal

pub returns-clause-rows : goal.returns-clause-rows
returns-clause-rows c = IfOk-weaker c.try_get_matches_from.result _ _ (λ matches h. (h c.requires.simple).0) c.try_get_matches_from.ensures.matches

pub returns-clause-kinds : goal.returns-clause-kinds
returns-clause-kinds c = c.try_get_matches_from.ensures.kinds c.requires.free
