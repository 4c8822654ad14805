-- What the other names the one doesn't.
use Rattle.std.proofs.Common.{sym, ◌∙◌}
use Rattle.std.proofs.lemmas.Bool.{not-true}
use Rattle.rmm_spec.specs.Locks.{is_named}
use Rattle.rmm_spec.specs.Step.Terms.{named}
use Rattle.finding.proofs.SeparateLaws.{unnamed-elsewhere}
use Rattle.finding.proofs.ending.ends_later.Goals as goal

pub returns-clause-later : goal.returns-clause-later
returns-clause-later c = λ apart.
    let one = c.args.one.now in
    let two = c.args.two.now in
    record {
      ends = sym c.is_ending.ensures ∙ c.if-not-is_ending.false;
      works = sym c.ends_or_works.ensures ∙ c.if-not-ends_or_works.false;
      apart = λ granule names. unnamed-elsewhere (is_named (named one.call)) (named two.call) granule
          (sym c.names_any.ensures ∙ not-true c.names_any.result apart) names;
      vmids = c.leaves_vmid.ensures c.if-not-leaves_vmid.false;
      realms = c.ends_alike.ensures c.if-not-ends_alike.false;
    }

pub returns-clause-done : goal.returns-clause-done
returns-clause-done c = λ _. c.is_carried_out.ensures c.if-not-is_carried_out.false

pub returns-clause-done_too : goal.returns-clause-done_too
returns-clause-done_too c = λ _. c.is_carried_out-2.ensures c.if-not-is_carried_out-2.false
