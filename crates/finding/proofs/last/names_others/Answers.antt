-- The call that is there is the one that was looked at.
use Rattle.std.proofs.Common.{◌≡◌, false, Option, None, Some, sym, ◌∙◌, ap, subst}
use Rattle.std.specs.Prelude.{unwrap_or}
use Rattle.std.proofs.lemmas.Bool.{not-true}
use Rattle.std.proofs.lemmas.Option.{get_or_from_slice_get}
use Rattle.rmm_spec.specs.Locks.{is_named}
use Rattle.rmm_spec.specs.Step.Terms.{named}
use Rattle.finding.specs.declared.next_call.NextCall.{NextCall}
use Rattle.finding.proofs.SeparateLaws.{unnamed-elsewhere}
use Rattle.finding.proofs.last.names_others.Goals as goal

pub returns-in-Some : goal.returns-in-Some
returns-in-Some c = λ apart found at granule names.
    let same : c.in-Some.found ≡ found =
    ap (λ (o : Option NextCall). unwrap_or o c.in-Some.found)
    (sym c.in-Some.is ∙ get_or_from_slice_get c.args.calls.now c.args.other (Some found) None at) in
    subst (λ (f : NextCall). is_named (named f.call) granule ≡ false) same
    (unnamed-elsewhere (is_named (named c.in-Some.found.call)) (named c.args.next.now.call) granule
    (sym c.names_any.ensures ∙ not-true c.names_any.result apart) names)
