-- A first fault and a linearization exclude each other.
use Rattle.std.proofs.Common.{ℕ, List}
use Rattle.rmm_spec.specs.declared.line.Line.{Line}
use Rattle.rmm_spec.specs.declared.verdict.Reason.{Reason}
use Rattle.rmm_spec.specs.declared.verdict.Reason.TheVariants as reason
use Rattle.rmm_spec.specs.HistoryText.{History}
use Rattle.rmm_spec.specs.State.{opening}
use Rattle.rmm_spec.specs.Linearization.{IsLinearization}
use Rattle.rmm_spec.specs.FirstFault.{FirstFault}
use Rattle.lemmas.proofs.Elements.{slice_get-take}
use Rattle.spec_lemmas.proofs.Calls.{HasOnePlaces}
use Rattle.rmm_laws.proofs.EntryRuns.{not-IsRefused}

pub not-IsLinearization : (history : History) → HasOnePlaces history.events → (why : Reason) (lines : List Line) (step : ℕ)
    → FirstFault why history lines step → IsLinearization history lines → ⊥
not-IsLinearization history one reason.Unknown lines step fault valid =
    fault.fails (valid.order.names.known fault.index fault.line fault.is_line)
not-IsLinearization history one reason.Repeated lines step fault valid =
    let named = fault.fails.1 in
    let earlier = slice_get-take fault.index lines named.0 named.1 named.2 in
    valid.order.names.once named.0 fault.index named.1 fault.line earlier.0 earlier.1 fault.is_line (named.3, named.4)
not-IsLinearization history one reason.Kind lines step fault valid =
    fault.fails.2 (valid.order.names.kinds fault.index fault.line fault.is_line)
not-IsLinearization history one reason.Order lines step fault valid =
    let late = fault.fails.3 in
    let earlier = slice_get-take fault.index lines late.0 late.1 late.2 in
    valid.real_time late.0 fault.index late.1 fault.line earlier.0 earlier.1 fault.is_line late.3
not-IsLinearization history one reason.Reply lines step fault valid =
    not-IsRefused history.events one lines valid.entries (opening history.config) valid.last valid.run.claimed valid.run.run
    fault.index fault.line fault.before.entries fault.old fault.is_line fault.before.run.claimed fault.before.run.run fault.fails.4
not-IsLinearization history one (reason.Missing cpu number) lines step fault valid =
    fault.missing.unnamed (valid.order.complete cpu number fault.missing.finished)
