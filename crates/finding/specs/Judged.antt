-- What the checker says of an order.
use Rattle.std.specs.Prelude.{⊤}
use Rattle.rmm_spec.specs.HistoryText.{History}
use Rattle.rmm_spec.specs.Linearization.{IsLinearization}
use Rattle.finding.specs.declared.judging.Judged.{Judged}
use Rattle.finding.specs.declared.judging.Judged.TheVariants as judged

-- one that is said to be a linearization is one
abbrev pub IsJudged : History → Judged → Type 0
IsJudged history (judged.Linearization order) = IsLinearization history order.lines
IsJudged history (judged.Fails place) = ⊤
