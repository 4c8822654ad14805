-- Granule by granule.
use Rattle.explain.proofs.Common.{◌*◌, ◌∙◌, ◌≡◌, false, state_of, sym, true, ℕ}
use Rattle.std.proofs.lemmas.Option.{slice_get-get_or}
use Rattle.rmm_spec.specs.Lookup.{is_owned_by, has_rec}
use Rattle.explain.proofs.Searches.{none_next_row, none_of_rows}
use Rattle.explain.proofs.fact.rec_left.Goals as goal

pub loop-i-preserved : goal.loop-i-preserved
loop-i-preserved c =
    let s = state_of c.args.machine.now in
    let is_row = slice_get-get_or c.args.owners.now c.loop-i.i c.index-owners-i.result c.loop-i-test.true in
    none_next_row s c.args.owners.now (λ (g : ℕ). is_owned_by c.args.rd (s.rec g))
    c.loop-i.i c.address-rec.result _ c.requires.owners is_row c.address-rec.ensures
    (sym c.if-is_rec_of.ensures) c.loop-i.invariant

pub unreachable-requires : goal.unreachable-requires
unfolding has_rec
unreachable-requires c =
    let s = state_of c.args.machine.now in
    let none = none_of_rows s c.args.owners.now c.loop-i.i (λ k. is_owned_by c.args.rd (s.rec (k * 4096))) c.requires.owners c.loop-i-test.false
    c.loop-i.auto.i-end c.loop-i.invariant in
    let bad : true ≡ false = sym c.requires.left ∙ none in cc
