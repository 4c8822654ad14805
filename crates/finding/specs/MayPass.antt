-- Why a call may as well come behind another, whatever comes before them.
use Rattle.std.specs.Prelude.{◌≡◌, ℕ, true, false, Some}
use Rattle.rmm_spec.specs.declared.call.Call.{Call}
use Rattle.rmm_spec.specs.declared.reply.Reply.{Reply}
use Rattle.rmm_spec.specs.Locks.{is_named}
use Rattle.rmm_spec.specs.Step.Terms.{named}
use Rattle.verdict_laws.specs.Apart.{is_apart_from, lent, lets_lend}
use Rattle.verdict_laws.specs.Beside.{AreBeside}
use Rattle.verdict_laws.specs.Ending.{EndsApart}
use Rattle.verdict_laws.specs.Making.{AreMadeApart}
use Rattle.finding.specs.Next.{IsCarriedOut, IsReplyOf}
use Rattle.finding.specs.declared.next_call.NextCall.{NextCall}

-- the two calls are so related, with their replies
abbrev pub AreRelated : (Call → Reply → Call → Reply → Type 0) → NextCall → NextCall → Type 0
AreRelated related one two = (given answered : Reply) → IsReplyOf one given → IsReplyOf two answered → related one.call given two.call answered

-- The one lends a granule with which the other has nothing to do, or which that doesn't name; or the other lends one and may come first; or the
-- two are apart; or one changes a REC alone beside the other's work; or the other ends a REC or a realm that the one doesn't name.
pub data MayPass (one two : NextCall) : Type 0 where
  LendsApart : (granule : ℕ) → lent one.call ≡ Some granule → is_apart_from two.call granule ≡ true → MayPass one two
  LendsFirst : (granule : ℕ) → lent one.call ≡ Some granule → IsCarriedOut one → is_named (named two.call) granule ≡ false → MayPass one two
  LendsLast : (granule : ℕ) → lent two.call ≡ Some granule → IsCarriedOut two → lets_lend one.call two.call granule ≡ true → MayPass one two
  Apart : AreRelated AreMadeApart one two → MayPass one two
  Enters : ((answered : Reply) → IsReplyOf two answered → AreBeside one.call two.call answered) → MayPass one two
  Works : ((given : Reply) → IsReplyOf one given → AreBeside two.call one.call given) → MayPass one two
  Ends : EndsApart one.call two.call → IsCarriedOut one → IsCarriedOut two → MayPass one two
