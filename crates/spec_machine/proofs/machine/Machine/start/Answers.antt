use Rattle.spec_machine.proofs.Common.{◌<◌, ◌∙◌, ◌≡◌, arith, flat_state, none-some, same_Some, state_in, subst, sym}
use Rattle.rmm_spec.specs.Walk.{full}
use Rattle.spec_machine.proofs.machine.Machine.start.Goals as goal

pub returns-in_default-clause-none : goal.returns-in_default-clause-none
unfolding state_in flat_state
returns-in_default-clause-none c = λ r is inside. none-some r (c.in_default.ensures ∙ is)

pub returns-then-ipa-space_end-clause-none : goal.returns-then-ipa-space_end-clause-none
unfolding state_in flat_state
returns-then-ipa-space_end-clause-none c = λ r is inside.
    let same : c.in-Some.realm.now ≡ r = same_Some c.in-Some.realm.now r (c.in-Some.ensures ∙ is) in
    let within : c.args.ipa < full c.in-Some.realm.now = subst (λ x. c.args.ipa < full x) (sym same) inside in
    absurd (omega (arith, within, c.space_end.ensures, c.if-ipa-space_end.true))

pub returns-clause-found : goal.returns-clause-found
unfolding state_in flat_state
returns-clause-found c = record {
  realm = c.in-Some.realm.now;
  is_realm = sym c.in-Some.ensures;
  is_root = sym c.root_of.ensures;
  is_level = sym c.start_level.ensures;
  inside = omega (arith, c.space_end.ensures, c.if-ipa-space_end.false);
}
