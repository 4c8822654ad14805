-- The first that fails is in one of the parts.
use Rattle.std.proofs.Common.{map}
use Rattle.rmm_spec.specs.Lookup.{rec_inside}
use Rattle.rmm_spec.specs.Step.Terms.{class_of, named}
use Rattle.spec_machine.specs.View.{state_of}
use Rattle.reasons.specs.Lists as spec
use Rattle.reasons.specs.Lists.{conditions}
use Rattle.reasons.proofs.First.{IsFirst-left, first-none, first-own, first-tag, first-word, first_found, none_found}
use Rattle.reasons.proofs.Words.{allowed-pass}
use Rattle.reasons.proofs.deciding.failing_test.Goals as goal

pub returns-in-Some : goal.returns-in-Some
unfolding conditions
returns-in-Some c =
    let s = state_of c.args.machine.now in
    let asked = c.in-Some.asked in (
      asked.condition,
      IsFirst-left s (spec.place_conditions (class_of c.args.call.now) c.args.cpu (rec_inside s c.args.cpu)) _ asked.condition asked.test
          (first_found s _ c.in_ok-asked.field-0 asked c.in_ok-asked.ensures c.in-Some.is),
    )

pub returns-in-Some-2 : goal.returns-in-Some-2
unfolding conditions
returns-in-Some-2 c =
    let s = state_of c.args.machine.now in
    let given = c.args.call.now in
    let asked = c.in-Some-2.asked in (
      asked.condition,
      first-word s (spec.place_conditions (class_of given) c.args.cpu (rec_inside s c.args.cpu))
          (spec.word_conditions given) (map spec.tag_condition (named given))
          (spec.own_conditions (rec_inside s c.args.cpu) given) (none_found _ _ _ c.in_ok-asked.ensures c.in_default.not-Some)
          asked.condition asked.test (first_found s _ c.in_ok-asked-2.field-0 asked c.in_ok-asked-2.ensures c.in-Some-2.is),
    )

pub returns-in-Some-3 : goal.returns-in-Some-3
unfolding conditions
returns-in-Some-3 c =
    let s = state_of c.args.machine.now in
    let given = c.args.call.now in
    let asked = c.in-Some-3.asked in (
      asked.condition,
      first-tag s (spec.place_conditions (class_of given) c.args.cpu (rec_inside s c.args.cpu))
          (spec.word_conditions given) (map spec.tag_condition (named given))
          (spec.own_conditions (rec_inside s c.args.cpu) given) (none_found _ _ _ c.in_ok-asked.ensures c.in_default.not-Some)
          (none_found _ _ _ c.in_ok-asked-2.ensures c.in_default-2.not-Some) asked.condition asked.test
          (first_found s _ c.in_ok-asked-3.field-0 asked c.in_ok-asked-3.ensures c.in-Some-3.is),
    )

pub failing_own-requires : goal.failing_own-requires
failing_own-requires c =
    allowed-pass (state_of c.args.machine.now) c.args.call.now (none_found _ _ _ c.in_ok-asked-2.ensures c.in_default-2.not-Some)

pub returns-in-Some-4 : goal.returns-in-Some-4
unfolding conditions
returns-in-Some-4 c =
    let s = state_of c.args.machine.now in
    let given = c.args.call.now in
    let asked = c.in-Some-4.asked in (
      asked.condition,
      first-own s (spec.place_conditions (class_of given) c.args.cpu (rec_inside s c.args.cpu))
          (spec.word_conditions given) (map spec.tag_condition (named given))
          (spec.own_conditions (rec_inside s c.args.cpu) given) (none_found _ _ _ c.in_ok-asked.ensures c.in_default.not-Some)
          (none_found _ _ _ c.in_ok-asked-2.ensures c.in_default-2.not-Some) (none_found _ _ _ c.in_ok-asked-3.ensures c.in_default-3.not-Some)
          asked.condition asked.test (first_found s _ c.in_ok-asked-4.field-0 asked c.in_ok-asked-4.ensures c.in-Some-4.is),
    )

pub returns-in-None : goal.returns-in-None
unfolding conditions
returns-in-None c =
    let s = state_of c.args.machine.now in
    let given = c.args.call.now in
    first-none s (spec.place_conditions (class_of given) c.args.cpu (rec_inside s c.args.cpu))
    (spec.word_conditions given) (map spec.tag_condition (named given))
    (spec.own_conditions (rec_inside s c.args.cpu) given) (none_found _ _ _ c.in_ok-asked.ensures c.in_default.not-Some)
    (none_found _ _ _ c.in_ok-asked-2.ensures c.in_default-2.not-Some) (none_found _ _ _ c.in_ok-asked-3.ensures c.in_default-3.not-Some)
    (rw c.in-None.is at c.in_ok-asked-4.ensures)
