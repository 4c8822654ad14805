-- What an explanation says of two texts.
use Rattle.std.specs.Prelude.{◌≡◌, ◌≢◌, ◌⊎◌, ℕ, ◌+◌, ◌-◌, ◌<◌, ◌≤◌, List, [], ◌∷◌, ◌++◌, length, take, slice_get, Some, IfSome}
use Rattle.std.specs.List.{filter}
use Rattle.rmm_spec.specs.declared.line.Line.{Line}
use Rattle.rmm_spec.specs.Call.{call_of}
use Rattle.rmm_spec.specs.Text.{HasNoNewline, first_lines, parts_of}
use Rattle.rmm_spec.specs.HistoryText.{Config, History, IsHistoryText}
use Rattle.rmm_spec.specs.CertificateText.{IsCertificateText}
use Rattle.rmm_spec.specs.State.{State}
use Rattle.rmm_spec.specs.Step.{outcome}
use Rattle.rmm_spec.specs.Linearization.{ReturnsBefore, IsReplyOf}
use Rattle.rmm_spec.specs.FirstFault.{Passes}
use Rattle.reasons.specs.Report.{AddsOwners}
use Rattle.reasons.specs.declared.explanation.Cause.{Cause}
use Rattle.reasons.specs.declared.explanation.Cause.TheVariants as cause
use Rattle.reasons.specs.declared.explanation.Explanation.{Explanation}
use Rattle.reasons.specs.declared.explanation.Explanation.TheVariants as explanation
use Rattle.reasons.specs.declared.flaw.Flaw.{Flaw}
use Rattle.reasons.specs.declared.flaw.Flaw.TheVariants as flaw
use Rattle.reasons.specs.declared.flaw.Misplaced.{Misplaced}
use Rattle.reasons.specs.declared.flaw.Misplaced.TheVariants as misplaced
use Rattle.reasons.specs.Wrong.{IsCertificateLine, IsEventLine, IsHeader, IsHeaderOf, IsWrong}
use Rattle.reasons.specs.declared.explanation.RefusedLine.{RefusedLine}
use Rattle.reasons.specs.declared.explanation.Summary.{Summary}
use Rattle.reasons.specs.declared.named_call.UnfinishedCall.{UnfinishedCall}
use Rattle.explain.specs.declared.watch.Watch.{Watch}
use Rattle.explain.specs.Deciding.{IsDecision}
use Rattle.explain.specs.Told.{IsTold, NamesAt, is_call}
use Rattle.explain.specs.Watch.{IsSince}
use Rattle.explain.specs.Before.{IsBefore}
use Rattle.explain.specs.Late.{IsLateOf}
use Rattle.explain.specs.Put.{IsPut}
use Rattle.explain.specs.Unfinished.{AreUnfinished}
pub use Rattle.reasons.specs.Verdict.{reason_of, verdict_of}

-- ---- what stands behind it

-- The line claims the reply of the call, and the specified answer is the machine's in the state that the lines before lead to. What decides
-- is so there, and since the step that is told.
pub record IsRefused (history : History) (lines : List Line) (step : ℕ) (refused : RefusedLine) : Type 0 where
  pub index : ℕ
  pub counted : step ≡ index + 1
  pub line : Line
  pub is_line : slice_get lines index ≡ Some line
  pub claims : IsReplyOf history.events line refused.claimed
  pub old : State
  pub passes : Passes history (take index lines) old
  pub specifies : refused.specified ≡ outcome old refused.call.cpu (call_of refused.call.call.command)
  pub watched : Watch
  pub decides : IsDecision old refused.call.cpu refused.call.call.command refused.specified refused.claimed refused.deciding watched
  pub since : IsSince history lines index watched refused.since
  pub put : IfSome refused.put (IsPut history lines index refused.deciding)
  pub late : IsLateOf history.events lines index refused.call watched old refused.late
  pub before : IsBefore old refused.call.cpu (call_of refused.call.call.command) refused.before

-- of the line that fails, and of the calls that it is about
abbrev pub IsCause : Cause → History → List Line → ℕ → Type 0
IsCause (cause.Unknown cpu number) history lines step = NamesAt lines step cpu number
IsCause (cause.Repeated call earlier) history lines step =
    NamesAt lines step call.cpu call.number × IsTold history.events call × NamesAt lines earlier call.cpu call.number × (earlier < step)
IsCause (cause.Kind call) history lines step = NamesAt lines step call.cpu call.number × IsTold history.events call
IsCause (cause.Order call earlier other) history lines step =
    NamesAt lines step call.cpu call.number × IsTold history.events call
    × NamesAt lines earlier other.cpu other.number × (earlier < step) × IsTold history.events other
    × ReturnsBefore history.events call.cpu call.number other.cpu other.number
IsCause (cause.Reply refused) history lines step =
    NamesAt lines step refused.call.cpu refused.call.number × IsTold history.events refused.call × IsRefused history lines step refused
IsCause (cause.Missing call) history lines step = IsTold history.events call

-- the machine's CPUs, and the owners in the state to which all lines lead
pub record IsSummary (history : History) (lines : List Line) (summary : Summary) : Type 0 where
  pub calls : summary.calls ≡ length (filter is_call history.events)
  pub cpus : summary.cpus ≡ history.config.cpus
  pub last : State
  pub all : Passes history lines last
  pub owners : AddsOwners last [] summary.owners.items

-- the texts stand for a history and an order, which this is told of
pub record Explains (history_bytes certificate_bytes : List ℕ) (Says : History → List Line → Type 0) : Type 0 where
  pub history : History
  pub lines : List Line
  pub is_history : IsHistoryText history_bytes history
  pub is_certificate : IsCertificateText certificate_bytes lines
  pub says : Says history lines

-- the bytes are the first line of the text, without its newline
pub record IsFirstLine (text bytes : List ℕ) : Type 0 where
  pub after : List ℕ
  pub is_text : text ≡ bytes ++ after
  pub ends : (after ≡ []) ⊎ ((more : List ℕ) × (after ≡ 10 ∷ more))
  pub no_newline : HasNoNewline bytes

-- the bytes are that line of the text, counted from 1, or empty where it has fewer
pub record IsLineIn (text : List ℕ) (line : ℕ) (bytes : List ℕ) : Type 0 where
  pub rest : List ℕ
  pub is_text : text ≡ first_lines (line - 1) text ++ rest
  pub first : IsFirstLine rest bytes

-- ---- a bad line

-- why a line of its kind can't stand in its place
abbrev pub IsMisplaced : Misplaced → List ℕ → ℕ → Type 0
IsMisplaced misplaced.Unended text line = (line ≤ 1000000) × (rest : List ℕ) × (text ≡ first_lines (line - 1) text ++ rest) × HasNoNewline rest
IsMisplaced misplaced.Full text line = 1000000 < line
IsMisplaced misplaced.OutOfTurn text line = (line ≤ 1000000) × (cut more : List ℕ) × (text ≡ first_lines (line - 1) text ++ (cut ++ 10 ∷ more))

-- of a line with these parts, which is to be of a kind: the part that is wrong in it, or that it is of the kind and misplaced
abbrev pub IsFlawOf : (List (List ℕ) → Type 0) → Flaw → List ℕ → ℕ → List (List ℕ) → Type 0
IsFlawOf IsOfKind (flaw.Part wrong) text line parts = IsWrong IsOfKind parts wrong
IsFlawOf IsOfKind (flaw.Place place) text line parts = IsOfKind parts × IsMisplaced place text line

-- this is said of the text's first line
abbrev pub IsOnFirstLine : List ℕ → (List ℕ → Type 0) → Type 0
IsOnFirstLine text Says = (first : List ℕ) × IsFirstLine text first × Says first

-- of a history's line: the first is to be a header, and a later one an event on the machine that the first tells of
abbrev pub IsHistoryFlaw : Flaw → List ℕ → ℕ → List (List ℕ) → Type 0
IsHistoryFlaw told text line parts =
    (line ≡ 1 → IsFlawOf IsHeader told text line parts)
    × (line ≢ 1 → IsOnFirstLine text (λ header. (config : Config)
    → IsHeaderOf (parts_of header) config → IsFlawOf (IsEventLine config.cpus) told text line parts))

-- of a certificate's line, which is never out of turn
abbrev pub IsCertificateFlaw : Flaw → List ℕ → ℕ → List (List ℕ) → Type 0
IsCertificateFlaw told text line parts = IsFlawOf IsCertificateLine told text line parts × (told ≢ flaw.Place misplaced.OutOfTurn)

-- ---- both texts

-- of all places of the history
abbrev pub NeverReturned : History → List Line → List UnfinishedCall → Type 0
NeverReturned history lines unfinished = AreUnfinished history.events lines (length history.events) unfinished

abbrev pub IsExplained : Explanation → List ℕ → List ℕ → Type 0
IsExplained (explanation.HistoryFault bad) history certificate =
    IsLineIn history bad.line bad.bytes.now × IsHistoryFlaw bad.flaw history bad.line (parts_of bad.bytes.now)
IsExplained (explanation.CertificateFault bad) history certificate =
    IsLineIn certificate bad.line bad.bytes.now × IsCertificateFlaw bad.flaw certificate bad.line (parts_of bad.bytes.now)
IsExplained (explanation.Yes summary unfinished) history certificate =
    Explains history certificate (λ h lines. IsSummary h lines summary × NeverReturned h lines unfinished.items)
IsExplained (explanation.No step cause unfinished) history certificate =
    Explains history certificate (λ h lines. IsCause cause h lines step × NeverReturned h lines unfinished.items)
