-- What is judged of some lines.
use Rattle.std.specs.Prelude.{◌≡◌, List, length, Option, MatchOption, IsNone}
use Rattle.rmm_spec.specs.declared.line.Line.{Line}
use Rattle.rmm_spec.specs.FirstFault.{FailsAt}
use Rattle.rmm_spec.specs.HistoryText.{History}
use Rattle.checker.specs.Offers.{AreOffersAt}
use Rattle.checker.specs.Replay.{IsReplayOf, IsRefusedMemory}
use Rattle.checker.specs.declared.failure.Failure.{Failure}
use Rattle.checker.specs.declared.replay.Replay.{Replay}

-- The lines are replayed, each with one offer, or one of them is the first that fails, and so many offers were made up to it.
abbrev pub AreJudged : Replay → Option Failure → History → List Line → Type 0
AreJudged replay failed history lines =
    MatchOption failed (IsReplayOf replay history lines × (replay.machine.offers ≡ length lines))
    (λ failure. FailsAt history lines failure.step failure.reason × AreOffersAt failure.reason failure.step replay.machine.offers)

-- no line so far fails, and the next one is refused memory
abbrev pub IsRefusedNext : Replay → Option Failure → History → Line → Type 0
IsRefusedNext replay failed history line = IsNone failed × IsRefusedMemory replay history line
