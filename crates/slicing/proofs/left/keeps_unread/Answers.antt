-- One call at most is made at a place.
use Rattle.std.proofs.Common.{◌≡◌, ◌∙◌, Some, ap, sym}
use Rattle.rmi_view.specs.Seen.{command_seen}
use Rattle.rmm_spec.specs.declared.call.Call.{Call}
use Rattle.rmm_spec.specs.declared.event.Event.TheVariants.{Called}
use Rattle.rmm_spec.specs.Call.{call_of}
use Rattle.verdict_laws.specs.Facts.{may_end}
use Rattle.slicing.proofs.left.keeps_unread.Goals as goal

pub returns-in-Some : goal.returns-in-Some
returns-in-Some c is cpu number command is_called k given =
    let (other, count, made) = c.in-Some.ensures.some in
    let both : Some (Called other count (command_seen c.in-Some.command)) ≡ Some (Called cpu number command) = sym made ∙ is_called in
    let same : command_seen c.in-Some.command ≡ command = cc in
    ap (λ (called : Call). may_end c.args.fact k called given) (sym (c.call.ensures ∙ ap call_of same)) ∙ c.keeps.ensures is k given
