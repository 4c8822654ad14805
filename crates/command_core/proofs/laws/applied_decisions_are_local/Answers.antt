use Rattle.std.proofs.Common.{◌≡◌, sym, subst}
use Rattle.rmm_spec.specs.Local.{Hold, LocalStep}
use Rattle.command_core.specs.Changed.{hold_changed}
use Rattle.command_core.proofs.laws.applied_decisions_are_local.Goals as goal

pub returns : goal.returns
returns c = λ config cpu command hold new given change decides cells side place.
    let same : hold_changed hold change ≡ new = λ i. record { cells = sym cells i; side = sym side i; place = sym place i } in
    subst (λ (h : Hold). LocalStep config cpu command given hold h) same decides
