-- A judgement from its reading and its writing, and why it is refused memory.
use Rattle.std.proofs.Common.{◌≡◌, ◌≢◌, ◌⊎◌, ℕ, ◌+◌, ◌<◌, List, [], ◌++◌, length, Result, Ok, Err, false, inl, inr, arith, refl, sym, ap, ◌∙◌, subst}
use Rattle.std.specs.Prelude.{IfOk, IfErr, OnOk}
use Rattle.std.specs.Io.KnownBytes.{Appends}
use Rattle.devices.specs.Sink.{HoldsBeginning, Writing}
use Rattle.devices.specs.Source.{Gives, Reading}
use Rattle.devices.specs.Taker.{RefusesPiece}
use Rattle.rmm_spec.specs.declared.verdict.Verdict.{Verdict}
use Rattle.rmm_spec.specs.declared.verdict.Verdict.TheVariants as of_verdict
use Rattle.rmm_spec.specs.HistoryText.{History, InHistories, IsHistoryText}
use Rattle.rmm_spec.specs.Text.{IsBadLine}
use Rattle.rmm_spec.specs.VerdictText.{verdict_line}
use Rattle.checker.specs.Judgement.{TakesMemory}
use Rattle.check_command.specs.Faults.{EndsCheck, EndsJudgement, checked}
use Rattle.check_command.specs.Judgement.{IsJudgement, OnVerdict, failures_of}
use Rattle.check_command.specs.Memory.{JudgesThose, RefusesLine, RefusesVerdict}
use Rattle.check_command.specs.Taken.{HasTaken, RefusesEvent}
use Rattle.check_command.specs.declared.fault.CheckFault.{CheckFault}
use Rattle.check_command.specs.declared.fault.Paths.{Paths}
use Rattle.check_command.specs.declared.judgement.JudgeFault.{JudgeFault}
use Rattle.check_command.specs.declared.judgement.JudgeFault.TheVariants as fault
use Rattle.check_command.specs.declared.takers.Judging.{Judging}
use Rattle.check_command.specs.declared.takers.Recording.{Recording}
use Rattle.check_command.proofs.CertificateTexts.{RefusesLine-of}
use Rattle.check_command.proofs.HistoryTexts.{RefusesEvent-text}
use Rattle.checker.specs.Session.{HasJudged, IsRefusedIn}
use Rattle.spec_lemmas.proofs.HistoryGrammar.{same_history}

-- the answer that has this fault
abbrev pub failed_by : JudgeFault → Result Verdict JudgeFault
failed_by failed = Err failed

-- and that it was passed on from
pub passed_on : {T : Type 0} (answer : Result T JudgeFault) (failed : JudgeFault) → answer ≡ Err failed → failed_by failed ≡ Err fault.NoMemory
    → answer ≡ Err fault.NoMemory
passed_on answer failed is same = is ∙ ap Err (let told : failed ≡ fault.NoMemory = cc in told)

-- ---- refused memory

-- while the history is read
pub history_refused : {S Refused : Type 0} (gives : S → List ℕ → S → Type 0) (old new : S) (taker : Recording) → HasTaken taker.0 []
    → Refused ⊎ RefusesPiece gives (λ recording before text. HasTaken recording.0 text)
    (λ recording piece. RefusesEvent recording.0 piece) old new taker
    → Refused ⊎ ((text : List ℕ) × Gives gives old text new × TakesMemory text)
history_refused gives old new taker start (inl refused) = inl refused
history_refused gives old new taker start (inr piece) =
    inr (piece.text ++ piece.piece, piece.given, inl (RefusesEvent-text piece.taken.0 piece.text piece.piece (piece.handed [] start) piece.refused))

-- while the certificate is read
pub session_refused : {S Refused : Type 0} (gives : S → List ℕ → S → Type 0) (old new : S) (taker : Judging) (recorded : History)
    → ((bytes : List ℕ) → IsHistoryText bytes recorded
    → IsHistoryText bytes taker.0.history.recorded × HasJudged taker.0 [] × (taker.0.refused ≡ false))
    → Refused ⊎ RefusesPiece gives
    (λ judging history text. IsHistoryText history judging.0.history.recorded × HasJudged judging.0 text × (judging.0.refused ≡ false))
    (λ judging piece. judging.0.refused ≡ false → IsRefusedIn judging.0 piece) old new taker
    → Refused ⊎ ((bytes : List ℕ) → IsHistoryText bytes recorded → (text : List ℕ) × (Gives gives old text new × RefusesLine recorded text))
session_refused gives old new taker recorded begun (inl refused) = inl refused
session_refused gives old new taker recorded begun (inr piece) = inr (λ bytes states.
    let given = piece.handed bytes (begun bytes states) in (
      piece.text ++ piece.piece,
      (
        piece.given,
        RefusesLine-of piece.taken.0 recorded piece.text piece.piece
            (same_history bytes piece.taken.0.history.recorded recorded given.0 states) given.1
            (piece.refused given.2),
      ),
    ))

-- by nobody
pub unread_refused : {S T Refused : Type 0} (gives : S → List ℕ → S → Type 0) (has_taken : T → List ℕ → List ℕ → Type 0) (old new : S) (taker : T)
    → Refused ⊎ RefusesPiece gives has_taken (λ taken piece. ⊥) old new taker → Refused
unread_refused gives has_taken old new taker (inl refused) = refused
unread_refused gives has_taken old new taker (inr piece) = absurd piece.refused

-- and after it
pub certificate_refused : (history certificate : Reading) (recorded : History) (bytes : List ℕ) → history.whole bytes → history.given bytes
    → IsHistoryText bytes recorded
    → certificate.is_untouched ⊎ (certificate.is_refused ⊎ ((b : List ℕ) → IsHistoryText b recorded → (text : List ℕ)
    × (certificate.given text × RefusesLine recorded text))) → RefusesVerdict history certificate
certificate_refused history certificate recorded bytes whole given states (inl untouched) =
    inl (record { is_untouched = untouched; cause = inr (bytes, given, inr (recorded, states)) })
certificate_refused history certificate recorded bytes whole given states (inr (inl refused)) = inr (inl refused)
certificate_refused history certificate recorded bytes whole given states (inr (inr line)) =
    let found = line bytes states in
    inr (inr (record {
      bytes = bytes;
      is_history = whole;
      recorded = recorded;
      states = states;
      text = found.0;
      is_given = found.1.0;
      refused = found.1.1;
    }))

-- ---- judgements

-- a history with a bad line is judged so whatever the certificate is
pub bad_history_judged : (IsHistory IsCertificate : List ℕ → Type 0) (answer : Result Verdict JudgeFault)
    (line : ℕ) (bytes : List ℕ) → IsHistory bytes
    → IsBadLine InHistories bytes line → IfOk answer (λ verdict. verdict ≡ of_verdict.HistoryFault line)
    → OnOk answer ((text : List ℕ) × IsCertificate text)
    → IfOk answer (λ verdict. JudgesThose verdict IsHistory IsCertificate)
bad_history_judged IsHistory IsCertificate (Ok verdict) line bytes is_history bad told whole =
    subst (λ v. JudgesThose v IsHistory IsCertificate) (sym told) (record {
      history = bytes;
      certificate = whole.0;
      is_history = is_history;
      is_certificate = whole.1;
      judged = bad;
    })
bad_history_judged IsHistory IsCertificate (Err failed) line bytes is_history bad told whole = tt

no_verdict : (P : Type 0) (failed : JudgeFault) → failed ≢ fault.Write → OnVerdict (Err failed) P
no_verdict P fault.ReadHistory none = tt
no_verdict P fault.ReadCertificate none = tt
no_verdict P fault.Write none = absurd (none refl)
no_verdict P fault.NoMemory none = tt

no_sink_failure : (failed : JudgeFault) → failed ≢ fault.Write → (failures_of (failed_by failed)).sink ≡ 0
no_sink_failure fault.ReadHistory none = refl
no_sink_failure fault.ReadCertificate none = refl
no_sink_failure fault.Write none = absurd (none refl)
no_sink_failure fault.NoMemory none = refl

-- no verdict was reached, and the sink is as it was
pub IsJudgement-unread : (history certificate : Reading) (sink : Writing) (failed : JudgeFault) → history.is_ended ⊎ certificate.is_untouched
    → ((text : List ℕ) × history.given text) → ((text : List ℕ) × certificate.given text) → failed ≢ fault.Write
    → (failed_by failed ≡ Err fault.NoMemory → RefusesVerdict history certificate)
    → history.failures_after ≡ history.failures_before + (failures_of (failed_by failed)).history
    → certificate.failures_after ≡ certificate.failures_before + (failures_of (failed_by failed)).certificate
    → sink.taken_after ≡ sink.taken_before → sink.held_after ≡ sink.held_before → sink.failures_after ≡ sink.failures_before
    → IsJudgement history certificate sink (Err failed)
IsJudgement-unread history certificate sink failed order history_read certificate_read
    unwritten memory of_history of_certificate taken held failures = record {
      order = order;
      history_read = history_read;
      certificate_read = certificate_read;
      ends = no_verdict _ failed unwritten;
      judged = tt;
      written = tt;
      held = tt;
      torn = λ is. absurd (unwritten (let told : failed ≡ fault.Write = cc in told));
      silent = λ _. taken;
      untouched = λ _. held;
      memory = λ is. inl (memory is);
      history_failures = of_history;
      certificate_failures = of_certificate;
      sink_failures = omega (arith, failures, no_sink_failure failed unwritten);
    }

-- a verdict was reached, and its line is written
pub IsJudgement-written : (history certificate : Reading) (sink : Writing) (verdict : Verdict) (answer : Result Verdict JudgeFault)
    → history.is_ended → certificate.is_ended
    → ((text : List ℕ) × history.given text) → ((text : List ℕ) × certificate.given text) → JudgesThose verdict history.whole certificate.whole
    → history.failures_after ≡ history.failures_before + 0 → certificate.failures_after ≡ certificate.failures_before + 0
    → IfOk answer (λ told. told ≡ verdict) → OnOk answer (sink.taken_after ≡ sink.taken_before ++ verdict_line verdict)
    → OnOk answer (Appends sink.held_before sink.held_after (verdict_line verdict))
    → (answer ≡ Err fault.Write → HoldsBeginning (verdict_line verdict) sink.taken_before sink.taken_after sink.held_before sink.held_after)
    → (answer ≡ Err fault.NoMemory → sink.room < length (verdict_line verdict)) → (answer ≡ Err fault.NoMemory → sink.taken_after ≡ sink.taken_before)
    → (answer ≡ Err fault.NoMemory → sink.held_after ≡ sink.held_before)
    → sink.failures_after ≡ sink.failures_before + (failures_of answer).sink
    → IfErr answer (λ failed. (failed ≢ fault.ReadHistory) × (failed ≢ fault.ReadCertificate)) → IsJudgement history certificate sink answer
IsJudgement-written history certificate sink verdict (Ok told) ended over history_read certificate_read
    judged of_history of_certificate same ok held torn full silent untouched failures faults =
    record {
      order = inl ended;
      history_read = history_read;
      certificate_read = certificate_read;
      ends = (ended, over);
      judged = subst (λ v. JudgesThose v history.whole certificate.whole) (sym same) judged;
      written = subst (λ v. sink.taken_after ≡ sink.taken_before ++ verdict_line v) (sym same) ok;
      held = subst (λ v. Appends sink.held_before sink.held_after (verdict_line v)) (sym same) held;
      torn = λ is. absurd cc;
      silent = tt;
      untouched = tt;
      memory = λ is. absurd cc;
      history_failures = of_history;
      certificate_failures = of_certificate;
      sink_failures = failures;
    }
IsJudgement-written history certificate sink verdict (Err fault.Write) ended over history_read
    certificate_read judged of_history of_certificate same ok held torn full silent untouched failures faults =
    record {
      order = inl ended;
      history_read = history_read;
      certificate_read = certificate_read;
      ends = (ended, over);
      judged = tt;
      written = tt;
      held = tt;
      torn = λ _. record { verdict = verdict; judged = judged; begun = torn refl };
      silent = λ other. absurd (other refl);
      untouched = λ other. absurd (other refl);
      memory = λ is. absurd cc;
      history_failures = of_history;
      certificate_failures = of_certificate;
      sink_failures = failures;
    }
IsJudgement-written history certificate sink verdict (Err fault.NoMemory) ended over history_read
    certificate_read judged of_history of_certificate same ok held torn full silent untouched failures faults =
    record {
      order = inl ended;
      history_read = history_read;
      certificate_read = certificate_read;
      ends = tt;
      judged = tt;
      written = tt;
      held = tt;
      torn = λ is. absurd cc;
      silent = λ _. silent refl;
      untouched = λ _. untouched refl;
      memory = λ _. inr (record { verdict = verdict; judged = judged; short = full refl });
      history_failures = of_history;
      certificate_failures = of_certificate;
      sink_failures = failures;
    }
IsJudgement-written history certificate sink verdict (Err fault.ReadHistory) ended over history_read
    certificate_read judged of_history of_certificate same ok held torn full silent untouched failures faults =
    absurd (faults.0 refl)
IsJudgement-written history certificate sink verdict (Err fault.ReadCertificate) ended over history_read
    certificate_read judged of_history of_certificate same ok held torn full silent untouched failures faults =
    absurd (faults.1 refl)

-- ---- how a check ends

checked_ends : (paths : Paths) (answer : Result Verdict JudgeFault) → IfErr (checked paths answer) (EndsCheck paths)
checked_ends paths (Ok verdict) = tt
checked_ends paths (Err failed) = (failed, refl)

-- its fault is one of the judgement
pub EndsCheck-judged : (paths : Paths) (history certificate : Reading) (sink : Writing) (ended : Result Verdict CheckFault)
    → EndsJudgement paths history certificate sink ended → IfErr ended (EndsCheck paths)
EndsCheck-judged paths history certificate sink ended judged =
    subst (λ e. IfErr e (EndsCheck paths)) (sym judged.is_end) (checked_ends paths judged.answer)
