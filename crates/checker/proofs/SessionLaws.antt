-- How a session comes from one line to the next, and to its verdict.
use Rattle.std.proofs.Common.{◌≡◌, ◌==◌, ℕ, ◌+◌, ◌<◌, ◌≤◌, List, [], ◌∷◌, ◌++◌, length, take, drop, Option, Some, None, Result, Ok, Err, true, is_some, refl, sym, ap, ◌∙◌, subst, arith, append_assoc, length-append, take-append-drop, false}
use Rattle.std.specs.Prelude.{IsOk, IfOk, IfErr}
use Rattle.std.proofs.lemmas.List.{take_all, append-nil, take-append-le}
use Rattle.std.proofs.lemmas.Option.{slice_get_within}
use Rattle.certificate.proofs.PieceLemmas.{Answer, Answered, GoesOn, IsRefused}
use Rattle.certificate.specs.Pieces.{Begun, IsReadTo, Takes, with_told}
use Rattle.certificate.specs.declared.fault.CertFault.{CertFault}
use Rattle.certificate.specs.declared.fault.CertFault.TheVariants.{BadLine}
use Rattle.rmm_spec.specs.declared.line.Line.{Line}
use Rattle.rmm_spec.specs.declared.verdict.Reason.{Reason}
use Rattle.rmm_spec.specs.declared.verdict.Verdict.{Verdict}
use Rattle.rmm_spec.specs.CertificateText.{InCertificates, IsCertificateText, certificate_text}
use Rattle.rmm_spec.specs.FirstFault.{FailsAt, FailsBy, Passes}
use Rattle.rmm_spec.specs.HistoryText.{History, IsHistoryText}
use Rattle.rmm_spec.specs.Judgement.{Judges, JudgesOrder}
use Rattle.rmm_spec.specs.State.{State}
use Rattle.rmm_spec.specs.Text.{IsBadLine}
use Rattle.checker.specs.Failure.{AreJudged}
use Rattle.rmi_codec.specs.Newlines.{newlines}
use Rattle.checker.specs.Offers.{AreOffersFor}
use Rattle.checker.specs.Session.{BeginsJudged, HasJudged, HasJudgedBy, offers_of}
use Rattle.checker.specs.declared.session.Session.{Session}
use Rattle.checker.proofs.Verdicts.{Judges-from_order}
use Rattle.checker.specs.declared.failure.Failure.{Failure}
use Rattle.checker.specs.declared.replay.Replay.{Replay}
use Rattle.lemmas.proofs.Elements.{slice_get-append, slice_get-push}

-- the first line that fails stays the first
FailsAt-push : (history : History) (lines : List Line) (next : Line) (step : ℕ) (why : Reason) → FailsAt history lines step why
    → FailsAt history (lines ++ next ∷ []) step why
FailsAt-push history lines next step why fails =
    let within : fails.index < length lines = slice_get_within lines fails.index fails.line fails.is_line in
    let same : take fails.index (lines ++ next ∷ []) ≡ take fails.index lines = take-append-le fails.index lines (next ∷ []) (omega arith) in
    record {
      index = fails.index;
      counted = fails.counted;
      line = fails.line;
      is_line = slice_get-append lines (next ∷ []) fails.index fails.line fails.is_line;
      old = fails.old;
      before = subst (λ (ls : List Line). Passes history ls fails.old) (sym same) fails.before;
      fails = subst (λ (ls : List Line). FailsBy why history.events ls fails.old fails.line) (sym same) fails.fails;
    }

pub AreJudged-failed : (replay : Replay) (failed : Option Failure) (history : History) (lines : List Line) (next : Line) → is_some failed ≡ true
    → AreJudged replay failed history lines → AreJudged replay failed history (lines ++ next ∷ [])
AreJudged-failed replay None history lines next some judged = absurd cc
AreJudged-failed replay (Some failure) history lines next some judged =
    (FailsAt-push history lines next failure.step failure.reason judged.0, judged.1)

-- the line behind lines that pass fails
pub FailsAt-last : (history : History) (lines : List Line) (next : Line) (step : ℕ) (why : Reason) (old : State) → step ≡ length lines + 1
    → Passes history lines old → FailsBy why history.events lines old next → FailsAt history (lines ++ next ∷ []) step why
FailsAt-last history lines next step why old counted passes fails =
    let front : take (length lines) (lines ++ next ∷ []) ≡ lines =
    take-append-le (length lines) lines (next ∷ []) (omega arith) ∙ take_all (length lines) lines (omega arith) in
    record {
      index = length lines;
      counted = counted;
      line = next;
      is_line = slice_get-push lines next;
      old = old;
      before = subst (λ (ls : List Line). Passes history ls old) (sym front) passes;
      fails = subst (λ (ls : List Line). FailsBy why history.events ls old next) (sym front) fails;
    }

-- what was told is judged
pub HasJudged-next : (old new : Result Begun ℕ) (count step : ℕ) (told : Option Line)
    (before after : Replay) (failed fails : Option Failure) (history : History)
    (text rest : List ℕ) → Answered new (Ok (count, told)) → GoesOn old new count told rest
    → IfErr old (λ l. new ≡ Err l) → IfOk new (λ kept. step ≡ kept.count)
    → ((lines : List Line) → step ≡ length (with_told lines told)
    → AreJudged before failed history lines → AreJudged after fails history (with_told lines told))
    → HasJudgedBy old before failed history text → HasJudgedBy new after fails history (text ++ take count rest)
HasJudged-next (Ok old) (Ok new) count step told before after failed fails history text rest answered goes_on stays counted judge given =
    let read = goes_on text given.0 given.1.0 in
    (with_told given.0 told, (read, judge given.0 (counted ∙ read.counted) given.1.1))
HasJudged-next (Ok old) (Err l) count step told before after failed fails history text rest answered goes_on stays counted judge given = absurd cc
HasJudged-next (Err l) (Ok new) count step told before after failed fails history text rest answered goes_on stays counted judge given = absurd cc
HasJudged-next (Err l) (Err m) count step told before after failed fails history text rest answered goes_on stays counted judge given = absurd cc

-- the kept line that was told is judged
pub HasJudged-kept : {T : Type 0} (old new : Result Begun ℕ) (count step : ℕ) (line : Line) (answer : Option T) (told : T) (before after : Replay)
    (failed fails : Option Failure) (history : History) (text rest : List ℕ) → answer ≡ Some told → IfErr old (λ _. answer ≡ None) → IsOk new
    → GoesOn old new count (Some line) rest → IfOk new (λ kept. step ≡ kept.count)
    → ((lines : List Line) → step ≡ length lines + 1 → AreJudged before failed history lines → AreJudged after fails history (lines ++ line ∷ []))
    → HasJudgedBy old before failed history text → HasJudgedBy new after fails history (text ++ take count rest)
HasJudged-kept (Ok old) (Ok new) count step line answer told before after failed
    fails history text rest is_told none is_ok goes_on counted judge given =
    let read = goes_on text given.0 given.1.0 in
    (given.0 ++ line ∷ [], (read, judge given.0 (counted ∙ read.counted ∙ length-append given.0 (line ∷ [])) given.1.1))
HasJudged-kept (Ok old) (Err l) count step line answer told before after failed
    fails history text rest is_told none is_ok goes_on counted judge given =
    absurd cc
HasJudged-kept (Err l) new count step line answer told before after failed fails history text rest is_told none is_ok goes_on counted judge given =
    absurd (let e : Some told ≡ None = sym is_told ∙ none in cc)

-- an answer is a value or none
not_ok : (answer : Answer) → IsOk answer → ((told : ℕ × Option Line) → answer ≡ Ok told → ⊥) → ⊥
not_ok (Ok told) is none = none told refl
not_ok (Err fault) is none = absurd cc

-- more bytes come behind what is judged
BeginsJudged-more : (replay : Replay) (failed : Option Failure) (history : History) (text more : List ℕ) → BeginsJudged replay failed history text
    → BeginsJudged replay failed history (text ++ more)
BeginsJudged-more replay failed history text more (lines, (rest, (is_text, judged))) =
    (lines, (rest ++ more, (ap (λ t. t ++ more) is_text ∙ append_assoc (certificate_text lines) rest more, judged)))

-- no value was told: the line is bad whatever follows
pub HasJudged-bad : (old new : Result Begun ℕ) (answer : Answer) (replay : Replay) (failed : Option Failure) (history : History) (text rest : List ℕ)
    → ((told : ℕ × Option Line) → answer ≡ Ok told → ⊥) → Answered new answer → IsRefused old new rest → IfErr old (λ l. new ≡ Err l)
    → HasJudgedBy old replay failed history text → HasJudgedBy new replay failed history (text ++ rest)
HasJudged-bad (Ok old) (Ok new) answer replay failed history text rest none answered refused stays given = absurd (not_ok answer answered none)
HasJudged-bad (Ok old) (Err l) answer replay failed history text rest none answered refused stays given =
    let lines = given.0 in
    let read = given.1.0 in (
      λ more. subst (λ t. IsBadLine InCertificates t l) (sym (append_assoc text rest more)) (refused text more lines read),
      BeginsJudged-more replay failed history text rest (lines, (old.begun, (read.is_text, given.1.1))),
    )
HasJudged-bad (Err l) (Ok new) answer replay failed history text rest none answered refused stays given = absurd cc
HasJudged-bad (Err l) (Err m) answer replay failed history text rest none answered refused stays given =
    let same : m ≡ l = cc in (
      λ more. subst (λ t. IsBadLine InCertificates t m) (sym (append_assoc text rest more))
          (subst (λ n. IsBadLine InCertificates (text ++ (rest ++ more)) n) (sym same) (given.0 (rest ++ more))),
      BeginsJudged-more replay failed history text rest given.1,
    )

-- the session was given the piece up to its rest, and memory wasn't refused
pub record IsFedUpTo (old new : Session) (piece rest : List ℕ) : Type 0 where
  pub front : List ℕ
  pub is_piece : piece ≡ front ++ rest
  pub judged : (text : List ℕ) → HasJudged old text → HasJudged new (text ++ front)
  pub same_history : new.history.recorded ≡ old.history.recorded
  pub going : new.refused ≡ false
  pub offers : offers_of new ≤ offers_of old + newlines front

pub IsFedUpTo-none : (session : Session) (piece : List ℕ) → session.refused ≡ false → IsFedUpTo session session piece piece
IsFedUpTo-none session piece going = record {
  front = [];
  is_piece = refl;
  judged = λ text given. subst (HasJudged session) (sym (append-nil text)) given;
  same_history = refl;
  going = going;
  offers = omega arith;
}

-- the bytes that a piece begins with, and what is left of it
pub cut_further : (piece front rest later : List ℕ) (count : ℕ)
    → piece ≡ front ++ rest → later ≡ drop count rest → piece ≡ front ++ take count rest ++ later
cut_further piece front rest later count is_piece is_later =
    is_piece ∙ ap (λ r. front ++ r) (sym (take-append-drop count rest)) ∙ sym (append_assoc front (take count rest) (drop count rest))
    ∙ ap (λ r. front ++ take count rest ++ r) (sym is_later)

-- what is taken is in the piece, and is something where the piece has any byte
pub taken_within : (piece : List ℕ) (count : ℕ) (told : Option Line) → Takes piece count told → count ≤ length piece
taken_within piece count None takes = omega (arith, takes.0)
taken_within piece count (Some line) (front, (later, (none, is_piece, counted))) =
    omega (arith, counted, ap length is_piece, length-append front (10 ∷ later))

pub taken_shortens : (piece later : List ℕ) (count : ℕ) (told : Option Line) → Takes piece count told → false ≡ (length piece == 0)
    → length later + count ≡ length piece → length later < length piece
taken_shortens [] later count told takes some left = absurd (let bad : false ≡ true = some in cc)
taken_shortens (byte ∷ piece) later count None takes some left = omega (arith, takes.0, left)
taken_shortens (byte ∷ piece) later count (Some line) (front, (after, (none, is_piece, counted))) some left = omega (arith, counted, left)

-- a bad line ends the reading, and its number is the verdict
pub bad_line_told : {T : Type 0} (certificate : Result Begun ℕ) (replay : Replay)
    (failed : Option Failure) (history : History) (text : List ℕ) (line : ℕ)
    (answer : Result T CertFault) → answer ≡ Err (BadLine line)
    → IfOk certificate (λ kept. IfErr answer
    (λ fault. (l : ℕ) × ((fault ≡ BadLine l) × ((t : List ℕ) (ls : List Line) → IsReadTo t ls kept → IsBadLine InCertificates t l))))
    → IfErr certificate (λ l. answer ≡ Err (BadLine l)) → HasJudgedBy certificate replay failed history text → IsBadLine InCertificates text line
bad_line_told (Ok kept) replay failed history text line (Ok value) is_answer bad stays given = absurd cc
bad_line_told (Ok kept) replay failed history text line (Err fault) is_answer bad stays given =
    let told : fault ≡ BadLine bad.0 = bad.1.0 in
    let answered : fault ≡ BadLine line = cc in
    let same : bad.0 ≡ line = cc in
    subst (λ n. IsBadLine InCertificates text n) same (bad.1.1 text given.0 given.1.0)
bad_line_told (Err l) replay failed history text line answer is_answer bad stays given =
    let same : l ≡ line = cc in
    subst (λ n. IsBadLine InCertificates text n) same (subst (λ t. IsBadLine InCertificates t l) (append-nil text) (given.0 []))

-- the text ends, and its lines are judged
pub Judges-session : {T : Type 0} (certificate : Result Begun ℕ) (replay : Replay)
    (failed : Option Failure) (history : History) (history_bytes text : List ℕ)
    (verdict : Verdict) (count : ℕ) (value : T) (answer : Result T CertFault) → answer ≡ Ok value
    → IfOk certificate (λ kept. (t : List ℕ) (ls : List Line) → IsReadTo t ls kept → IsCertificateText t ls)
    → IfErr certificate (λ l. answer ≡ Err (BadLine l)) → IfOk certificate (λ kept. count ≡ kept.count)
    → ((order : List Line) → count ≡ length order → AreJudged replay failed history order → JudgesOrder verdict history order)
    → IsHistoryText history_bytes history → HasJudgedBy certificate replay failed history text → Judges verdict history_bytes text
Judges-session (Ok kept) replay failed history history_bytes text verdict count value answer is_answer whole stays counted judge is_history given =
    let read = given.1.0 in
    Judges-from_order verdict history_bytes text history given.0 is_history (whole text given.0 read)
    (judge given.0 (counted ∙ read.counted) given.1.1)
Judges-session (Err l) replay failed history history_bytes text verdict count value answer is_answer whole stays counted judge is_history given =
    absurd (let e : Ok value ≡ Err (BadLine l) = sym is_answer ∙ stays in cc)

-- the text ends, and so many offers were made for its lines
pub AreOffersFor-session : {T : Type 0} (certificate : Result Begun ℕ) (replay : Replay) (failed : Option Failure) (history : History) (text : List ℕ)
    (verdict : Verdict) (count : ℕ) (value : T) (answer : Result T CertFault) → answer ≡ Ok value
    → IfErr certificate (λ l. answer ≡ Err (BadLine l)) → IfOk certificate (λ kept. count ≡ kept.count)
    → ((order : List Line) → count ≡ length order → AreJudged replay failed history order → AreOffersFor verdict replay.machine.offers)
    → HasJudgedBy certificate replay failed history text → AreOffersFor verdict replay.machine.offers
AreOffersFor-session (Ok kept) replay failed history text verdict count value answer is_answer stays counted judge given =
    judge given.0 (counted ∙ given.1.0.counted) given.1.1
AreOffersFor-session (Err l) replay failed history text verdict count value answer is_answer stays counted judge given =
    absurd (let e : Ok value ≡ Err (BadLine l) = sym is_answer ∙ stays in cc)
