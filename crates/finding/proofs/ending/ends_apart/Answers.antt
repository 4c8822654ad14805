-- What the one names the other doesn't.
use Rattle.std.proofs.Common.{sym, ◌∙◌}
use Rattle.std.proofs.lemmas.Bool.{not-true}
use Rattle.rmm_spec.specs.Locks.{is_named}
use Rattle.rmm_spec.specs.Step.Terms.{named}
use Rattle.finding.specs.MayPass.{Ends}
use Rattle.finding.proofs.SeparateLaws.{unnamed-elsewhere}
use Rattle.finding.proofs.ending.ends_apart.Goals as goal

pub returns : goal.returns
returns c = λ apart.
    let one = c.args.one.now in
    let two = c.args.two.now in
    Ends (record {
      works = sym c.is_of_kind.ensures ∙ c.if-not-is_of_kind.false;
      ends = sym c.is_ending.ensures ∙ c.if-not-is_ending.false;
      apart = λ granule names. unnamed-elsewhere (is_named (named two.call)) (named one.call) granule
          (sym c.names_any.ensures ∙ not-true c.names_any.result apart) names;
    }) (c.is_carried_out.ensures c.if-not-is_carried_out.false) (c.is_carried_out-2.ensures c.if-not-is_carried_out-2.false)
