-- By what both work on.
use Rattle.std.proofs.Common.{sym, ◌∙◌}
use Rattle.finding.specs.MayPass.{Apart}
use Rattle.finding.proofs.SeparateLaws.{AreRelated-made_apart}
use Rattle.finding.proofs.separate.are_separate.Goals as goal

pub returns : goal.returns
returns c = λ apart.
    Apart (AreRelated-made_apart c.args.one.now c.args.two.now c.in-Some.first c.in-Some-work_of.second c.in-Some.ensures
    c.in-Some-work_of.ensures (sym c.is_of_kind.ensures ∙ c.if-not-is_of_kind.false) (sym c.is_of_kind-2.ensures ∙ c.if-not-is_of_kind-2.false)
    (λ rd other is is_too. c.differ.ensures c.if-not-differ.false rd other (c.own_realm.ensures ∙ is) (c.own_realm-2.ensures ∙ is_too))
    (λ vmid other is is_too. c.differ-2.ensures c.if-not-differ-2.false vmid other (c.taken_vmid.ensures ∙ is) (c.taken_vmid-2.ensures ∙ is_too))
    (c.are_of_other_granules.ensures apart))
