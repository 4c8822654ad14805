use Rattle.std.proofs.Common.{Err, sym, ap, ◌∙◌}
use Rattle.run_commands.specs.Sources.{played}
use Rattle.run_commands.proofs.Ended.{EndsPlay-answer}
use Rattle.run_commands.proofs.program.run_source.Goals as goal

pub returns-in-Ok-clause-played : goal.returns-in-Ok-clause-played
returns-in-Ok-clause-played g c =
    EndsPlay-answer c.args.path c.play_turns.result _ c.play_turns.ensures.played (ap (played c.args.path) (sym c.in-Ok.is))

pub returns-in-Err-clause-played : goal.returns-in-Err-clause-played
returns-in-Err-clause-played g c =
    EndsPlay-answer c.args.path c.play_turns.result _ c.play_turns.ensures.played
    (ap Err c.fault_of_play.ensures ∙ ap (played c.args.path) (sym c.in-Err.is))
