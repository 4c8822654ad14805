-- One more.
use Rattle.std.proofs.Common.{◌+◌, ◌++◌, List, [], ◌∷◌, take, sym, subst, ◌∙◌, ap, arith}
use Rattle.std.proofs.lemmas.List.{take_more}
use Rattle.rmm_spec.specs.Rows.{Needed}
use Rattle.explain.specs.Before.{AreGranulesBefore}
use Rattle.explain.proofs.Befores.{granules_next}
use Rattle.explain.proofs.before.granules_before.Goals as goal

pub loop-i-preserved : goal.loop-i-preserved
loop-i-preserved c = (
  c.push.ensures.len ∙ ap (λ n. n + 1) c.loop-i.invariant.0,
  λ s report.
      let names = c.as_slice-names.result.now in
      let so_far = c.loop-i.granules.items in
      let more = take_more names c.loop-i.i c.index-names-i.result (omega (arith, c.loop-i-test.true, c.min-i-end.ensures)) in
      let next = granules_next s (take c.loop-i.i names) so_far c.index-names-i.result c.granule_before.result (c.loop-i.invariant.1 s report)
      (c.granule_before.ensures s report) in
      subst (AreGranulesBefore s (take (c.loop-i.i + 1) names)) (sym c.push.ensures.items)
      (subst (λ (ns : List Needed). AreGranulesBefore s ns (so_far ++ c.granule_before.result ∷ [])) (sym more)
      (subst (λ (n : Needed). AreGranulesBefore s (take c.loop-i.i names ++ n ∷ []) (so_far ++ c.granule_before.result ∷ []))
      c.index-names-i.is next)),
)
