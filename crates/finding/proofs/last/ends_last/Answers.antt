-- What the other names is no part, and named alone.
use Rattle.std.proofs.Common.{sym, ◌∙◌}
use Rattle.rmm_spec.specs.Step.Terms.{named}
use Rattle.spec_machine.specs.View.{state_of}
use Rattle.verdict_laws.specs.Apart.{is_part}
use Rattle.finding.proofs.SeparateLaws.{unnamed-elsewhere}
use Rattle.finding.proofs.last.ends_last.Goals as goal

pub returns : goal.returns
returns c = λ alone.
    let s = state_of c.args.machine.now in
    record {
      later = c.ends_later.ensures.later c.if-not-ends_later.false;
      done = c.ends_later.ensures.done c.if-not-ends_later.false;
      done_too = c.ends_later.ensures.done_too c.if-not-ends_later.false;
      whole = λ granule names. unnamed-elsewhere (λ g. is_part (s.tag g)) (named c.args.two.now.call) granule
          (sym c.names_part.ensures ∙ c.if-names_part.false) names;
      alone = c.is_named_alone.ensures alone;
    }
