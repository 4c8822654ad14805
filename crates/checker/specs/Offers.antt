-- How many offers are made to the machine for the lines of a certificate.
use Rattle.std.specs.Prelude.{◌≡◌, ℕ, ◌+◌, ⊤, Option, Some, None, Result, Ok, Err}
use Rattle.rmm_spec.specs.declared.verdict.Reason.{Reason}
use Rattle.rmm_spec.specs.declared.verdict.Reason.TheVariants as reason
use Rattle.rmm_spec.specs.declared.verdict.Verdict.{Verdict}
use Rattle.rmm_spec.specs.declared.verdict.Verdict.TheVariants as verdict
use Rattle.spec_machine.specs.Offers.{one_more}

-- after a line that fails: its reply is offered only where nothing else is wrong
abbrev pub offers_failed : Reason → ℕ → ℕ
offers_failed reason.Reply offers = one_more offers
offers_failed why offers = offers

-- after a line's judgement
abbrev pub offers_after : {E : Type 0} → Result (Option Reason) E → ℕ → ℕ
offers_after (Ok None) offers = one_more offers
offers_after (Ok (Some why)) offers = offers_failed why offers
offers_after (Err error) offers = one_more offers

-- one for each line before the step that fails, and one for that step where the machine refuses its reply
abbrev pub AreOffersAt : Reason → ℕ → ℕ → Type 0
AreOffersAt reason.Reply step offers = offers ≡ step
AreOffersAt why step offers = offers + 1 ≡ step

-- so many were made where this is the verdict: one for each line up to the first that fails, but for a step that fails for another
-- reason than its reply; of a text that is bad nothing is said
abbrev pub AreOffersFor : Verdict → ℕ → Type 0
AreOffersFor (verdict.HistoryFault line) offers = ⊤
AreOffersFor (verdict.CertificateFault line) offers = ⊤
AreOffersFor (verdict.Yes count) offers = offers ≡ count
AreOffersFor (verdict.No step why) offers = AreOffersAt why step offers
