-- Which lines lead nowhere, and when all that can come next does.
use Rattle.verdict_laws.proofs.Common.{◌≡◌, ℕ, ◌+◌, ◌<◌, List, [], ◌∷◌, ◌++◌, inl, inr, length, Some, sym, ◌∙◌, ap, subst, arith, append_assoc, slice_get, cases_order, slice_get_within, Line, History, IsHistory, State, opening, IsFinished, IsLinearization, ReturnsBefore, AreEntriesOf, NamesCall, IsOfItsKind, cpu_named, number_named, slice_get-append, count_of, LeadsNowhere, HasOnePlaces-from_history}
use Rattle.std.proofs.Common.{take}
use Rattle.std.proofs.Math.Seq.{take-append_seam}
use Rattle.std.proofs.lemmas.List.{append-nil, length-append}
use Rattle.lemmas.proofs.Elements.{slice_get_push_cases, slice_get-push}
use Rattle.rmm_laws.proofs.EntryRuns.{not-IsRefused}
use Rattle.verdict_laws.specs.Order.{Reaches, IsNext, HasOpen, GivesNowhere}
use Rattle.verdict_laws.proofs.CallOrder.{call_before_return, finished_before_call, returns_before_later}
use Rattle.verdict_laws.proofs.Counts.{slice_get-append_cases}

-- the order without a line begins each
pub none-from_nowhere : (history : History) (lines : List Line) → LeadsNowhere history [] → ¬ IsLinearization history lines
none-from_nowhere history lines nowhere = nowhere.none lines

-- the line stands behind the lines, whatever follows
pub line_stands : (lines : List Line) (line : Line) (more : List Line) → slice_get ((lines ++ line ∷ []) ++ more) (length lines) ≡ Some line
line_stands lines line more = slice_get-append (lines ++ line ∷ []) more (length lines) line (slice_get-push lines line)

-- the lines come before it
lines_before : (lines : List Line) (line : Line) (more : List Line) → take (length lines) ((lines ++ line ∷ []) ++ more) ≡ lines
lines_before lines line more =
    ap (λ (ls : List Line). take (length lines) ls) (append_assoc lines (line ∷ []) more) ∙ take-append_seam lines (line ∷ more)

module _ (history : History) (is_history : IsHistory history) (lines : List Line)
    (state : State) (reached : Reaches history lines state) (line : Line) where
  -- a call that returned before the line's was made, and isn't in the order, can't come behind it
  pub nowhere_past : (cpu number : ℕ) → IsFinished history.events cpu number → ¬ (number < count_of cpu lines)
      → ReturnsBefore history.events cpu number (cpu_named line) (number_named line) → LeadsNowhere history (lines ++ line ∷ [])
  nowhere_past cpu number finished is_open returns = record {
    none = λ more valid.
        let at = valid.order.complete cpu number finished in
        elim (slice_get-append_cases (lines ++ line ∷ []) more at.0 at.1 at.2) [
          | inl among ↦ elim (slice_get_push_cases lines line at.0 at.1 among) [
            | inl before ↦ is_open (reached.named cpu number (at.0, at.1, before, at.3, at.4))
            | inr last ↦
                let of_cpu : cpu_named line ≡ cpu = sym (ap cpu_named last.1) ∙ at.3 in
                let numbered : number_named line ≡ number = sym (ap number_named last.1) ∙ at.4 in
                let itself : ReturnsBefore history.events cpu number cpu number =
                subst (λ (n : ℕ). ReturnsBefore history.events cpu number cpu n) numbered
                (subst (λ (c : ℕ). ReturnsBefore history.events cpu number c (number_named line)) of_cpu returns) in
                let after = call_before_return history is_history cpu number itself.called
                itself.returned itself.command itself.given itself.is_called itself.is_returned in
                let before = itself.before in
                omega (arith, after, before)
          ]
          | inr behind ↦
              let longer : length (lines ++ line ∷ []) ≡ length lines + 1 = length-append lines (line ∷ []) in
              valid.real_time (length lines) at.0 line at.1 (omega (arith, behind, longer)) (line_stands lines line more) at.2
              (subst (λ (n : ℕ). ReturnsBefore history.events (cpu_named at.1) n (cpu_named line) (number_named line)) (sym at.4)
              (subst (λ (c : ℕ). ReturnsBefore history.events c number (cpu_named line) (number_named line)) (sym at.3) returns))
        ];
  }

  -- only a CPU's next call can come next
  pub nowhere_unless : (IsNext history.events lines line → LeadsNowhere history (lines ++ line ∷ [])) → LeadsNowhere history (lines ++ line ∷ [])
  nowhere_unless next = record {
    none = λ more valid.
        let known : NamesCall history.events line = valid.order.names.known (length lines) line (line_stands lines line more) in
        let kind : IsOfItsKind history.events line = valid.order.names.kinds (length lines) line (line_stands lines line more) in
        elim (cases_order (number_named line) (count_of (cpu_named line) lines)) [
          | inl at ↦ (next (record { known = known; kind = kind; numbered = at })).none more valid
          | inr apart ↦ elim apart [
            | inl below ↦
                let named = reached.first (cpu_named line) (number_named line) below in
                let stands : slice_get ((lines ++ line ∷ []) ++ more) named.0 ≡ Some named.1 =
                slice_get-append (lines ++ line ∷ []) more named.0 named.1 (slice_get-append lines (line ∷ []) named.0 named.1 named.2) in
                valid.order.names.once named.0 (length lines) named.1 line (slice_get_within lines named.0 named.1 named.2) stands
                (line_stands lines line more) (named.3, named.4)
            | inr above ↦
                let number = count_of (cpu_named line) lines in
                (nowhere_past (cpu_named line) number
                (finished_before_call history is_history (cpu_named line) number (number_named line) above known)
                (λ below. omega (arith, below))
                (returns_before_later history is_history (cpu_named line) number (number_named line) above known)).none more valid
          ]
        ];
  }

  -- a reply that the specification gives is one of those that lead nowhere
  pub nowhere_by : GivesNowhere history lines state line → LeadsNowhere history (lines ++ line ∷ [])
  nowhere_by each = record {
    none = λ more valid.
        not-IsRefused history.events (HasOnePlaces-from_history history is_history)
        ((lines ++ line ∷ []) ++ more) valid.entries (opening history.config) valid.last
        valid.run.claimed valid.run.run (length lines) line reached.passes.entries state (line_stands lines line more)
        (subst (λ (ls : List Line). AreEntriesOf history.events ls reached.passes.entries)
        (sym (lines_before lines line more)) reached.passes.run.claimed)
        reached.passes.run.run (λ entry new is_entry step. (each entry new is_entry step).none more valid);
  }

-- each line that can come next leads nowhere, and a finished call is open
pub nowhere_after : (history : History) → IsHistory history → (lines : List Line) (state : State) → Reaches history lines state
    → HasOpen history.events lines → ((line : Line) → IsNext history.events lines line → LeadsNowhere history (lines ++ line ∷ []))
    → LeadsNowhere history lines
nowhere_after history is_history lines state reached is_open each = record { none = none }
  where
    none : (more : List Line) → ¬ IsLinearization history (lines ++ more)
    none [] valid =
        let whole : IsLinearization history lines = subst (IsLinearization history) (append-nil lines) valid in
        let named = reached.named is_open.cpu is_open.number (whole.order.complete is_open.cpu is_open.number is_open.finished) in
        let unnamed = is_open.unnamed in
        omega (arith, named, unnamed)
    none (line ∷ more) valid =
        (nowhere_unless history is_history lines state reached line (each line)).none more
        (subst (IsLinearization history) (sym (append_assoc lines (line ∷ []) more)) valid)
