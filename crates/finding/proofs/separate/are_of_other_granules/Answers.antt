-- What the first works on, it names or gives back.
use Rattle.std.proofs.Common.{◌||◌, sym, ◌∙◌, inl, inr}
use Rattle.std.proofs.lemmas.Bool.{false_from_ne_true, not-true, or_cases}
use Rattle.lemmas.proofs.Tests.{both_ways}
use Rattle.rmm_spec.specs.Locks.{is_named}
use Rattle.rmm_spec.specs.Step.Terms.{named}
use Rattle.rmi_view.specs.Seen.{reply_seen}
use Rattle.verdict_laws.specs.Separate.{is_freed}
use Rattle.finding.proofs.SeparateLaws.{unnamed-elsewhere}
use Rattle.finding.proofs.separate.are_of_other_granules.Goals as goal

pub returns : goal.returns
returns c = λ apart g works.
    let one = c.args.one.now in
    let two = c.args.two.now in
    elim (or_cases (is_named (named one.call) g) (is_freed one.call (reply_seen one.reply) g) works) [
      | inl names ↦
          let unnamed = unnamed-elsewhere (is_named (named two.call)) (named one.call) g (sym c.names_any.ensures ∙ c.if-names_any.false) names in
          let unfreed = false_from_ne_true (is_freed two.call (reply_seen two.reply) g)
          (λ frees. both_ways names (c.names_freed.ensures c.if-names_freed.false g frees)) in λ i. unnamed i || unfreed i
      | inr frees ↦ c.works_on_freed.ensures (not-true c.works_on_freed.result apart) g frees
    ]
