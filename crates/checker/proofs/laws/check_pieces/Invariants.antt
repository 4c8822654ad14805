use Rattle.std.proofs.Common.{take}
use Rattle.std.specs.List.{flat_map}
use Rattle.rmm_spec.specs.HistoryText.{IsHistoryText}
use Rattle.checker.specs.Session.{HasJudged}
use Rattle.checker.proofs.laws.check_pieces.Given as goal

abbrev pub invariant-loop-piece : goal.invariant-loop-piece
invariant-loop-piece l = HasJudged l.session (flat_map (λ piece. piece.now) (take l.piece-index l.certificate))
    × IsHistoryText (flat_map (λ piece. piece.now) l.history) l.session.history.recorded
