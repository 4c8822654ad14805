-- What is found of a history return by return.
use Rattle.std.specs.Prelude.{⊤, ℕ, ◌≤◌, []}
use Rattle.rmm_spec.specs.HistoryText.{History}
use Rattle.rmm_spec.specs.Linearization.{IsLinearization}
use Rattle.verdict_laws.specs.Order.{LeadsNowhere}
use Rattle.finding.specs.Begun.{AllReturned, AreOrders, OrdersLost}
use Rattle.finding.specs.declared.forward.Further.{Further}
use Rattle.finding.specs.declared.forward.Further.TheVariants as further
use Rattle.finding.specs.declared.forward.Survey.{Survey}
use Rattle.finding.specs.declared.forward.Survey.TheVariants as survey
use Rattle.finding.specs.declared.shelved.Orders.{Orders}
use Rattle.finding.specs.declared.survey.Answer.{Answer}
use Rattle.finding.specs.declared.survey.Answer.TheVariants as answer

-- where no order survives a return, there is none; each call that returned before the place up to which was looked stands in each that is kept
abbrev pub IsSurvey : History → ℕ → Survey → Type 0
IsSurvey history until (survey.Lost place) = LeadsNowhere history []
IsSurvey history until (survey.Kept orders) = AllReturned history orders.begun.items until
IsSurvey history until (survey.Undecided place) = ⊤

-- where no order survives a return, those that were kept lead nowhere; each call that returned before the place stands in each that is kept then
abbrev pub IsFurther : History → Orders → ℕ → Further → Type 0
IsFurther history kept until (further.Lost place) = OrdersLost history kept
IsFurther history kept until (further.Kept orders place) =
    AreOrders history orders (OrdersLost history kept) × AllReturned history orders.begun.items place × (place ≤ until)
IsFurther history kept until (further.Undecided place) = ⊤

-- the order is a linearization, or there is none
abbrev pub IsAnswer : History → Answer → Type 0
IsAnswer history (answer.Order order) = IsLinearization history order.lines
IsAnswer history (answer.Lost place) = LeadsNowhere history []
IsAnswer history answer.Open = ⊤
