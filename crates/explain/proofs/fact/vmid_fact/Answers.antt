-- Granule by granule.
use Rattle.explain.proofs.Common.{◌*◌, ◌∙◌, ◌≡◌, false, state_of, sym, true, ℕ}
use Rattle.std.proofs.lemmas.Option.{slice_get-get_or}
use Rattle.rmm_spec.specs.Lookup.{has_vmid, is_vmid_used}
use Rattle.explain.proofs.Searches.{none_next_row, none_of_rows}
use Rattle.explain.proofs.fact.vmid_fact.Goals as goal

pub loop-i-preserved : goal.loop-i-preserved
loop-i-preserved c =
    let s = state_of c.args.machine.now in
    let is_row = slice_get-get_or c.args.owners.now c.loop-i.i c.index-owners-i.result c.loop-i-test.true in
    none_next_row s c.args.owners.now (λ (g : ℕ). has_vmid c.args.vmid (s.realm g))
    c.loop-i.i c.address-rd.result _ c.requires.owners is_row c.address-rd.ensures
    (sym c.if-has_vmid.ensures) c.loop-i.invariant

pub unreachable-requires : goal.unreachable-requires
unfolding is_vmid_used
unreachable-requires c =
    let s = state_of c.args.machine.now in
    let none = none_of_rows s c.args.owners.now c.loop-i.i (λ k. has_vmid c.args.vmid (s.realm (k * 4096))) c.requires.owners c.loop-i-test.false
    c.loop-i.auto.i-end c.loop-i.invariant in
    let bad : true ≡ false = sym c.requires.used ∙ none in cc
