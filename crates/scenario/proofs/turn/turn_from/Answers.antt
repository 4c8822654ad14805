use Rattle.std.proofs.Common.{◌≡◌, ◌<◌, ◌+◌, ◌-◌, get_or, length, refl, sym, ◌∙◌, arith}
use Rattle.rmm_spec.specs.declared.turn.Due.{Due}
use Rattle.scenario.proofs.TurnTexts.{BeginsWith-turn, is_empty-length, not_empty-length, turn_text-from}
use Rattle.scenario.proofs.turn.turn_from.Goals as goal

pub returns-then-is_empty-clause-none : goal.returns-then-is_empty-clause-none
returns-then-is_empty-clause-none c = λ (turn, low, same).
    let begun = BeginsWith-turn c.as_bytes-bytes.result.now turn (omega (arith, low, c.requires)) (c.as_bytes-bytes.ensures.value ∙ same) in
    let none = is_empty-length (length c.as_bytes-bytes.result.now) c.if-is_empty.ensures in
    omega (arith, begun.some, none)

pub returns-then-digit-lt48-clause-none : goal.returns-then-digit-lt48-clause-none
returns-then-digit-lt48-clause-none c = λ (turn, low, same).
    let begun = BeginsWith-turn c.as_bytes-bytes.result.now turn (omega (arith, low, c.requires)) (c.as_bytes-bytes.ensures.value ∙ same) in
    omega (arith, begun.digit, c.if-digit-lt48.true)

pub returns-then-cpu-cpus-clause-none : goal.returns-then-cpu-cpus-clause-none
returns-then-cpu-cpus-clause-none c = λ (turn, low, same).
    let begun = BeginsWith-turn c.as_bytes-bytes.result.now turn (omega (arith, low, c.requires)) (c.as_bytes-bytes.ensures.value ∙ same) in
    omega (arith, begun.digit, low, c.if-cpu-cpus.true)

pub returns-in-Some-clause-text : goal.returns-in-Some-clause-text
returns-in-Some-clause-text c =
    let digit = get_or c.as_bytes-bytes.result.now 0 0 in
    let turn : Due = record { cpu = digit - 48; will = c.in-Some.will } in
    let low : digit - 48 < 10 = omega (arith, c.if-cpu-cpus.false, c.requires) in
    let again : digit ≡ digit - 48 + 48 = omega (arith, c.if-digit-lt48.false) in
    sym c.as_bytes-bytes.ensures.value
    ∙ turn_text-from c.as_bytes-bytes.result.now digit turn low
    (not_empty-length (length c.as_bytes-bytes.result.now) c.if-is_empty.ensures) refl again
    (sym c.split_at.ensures.back ∙ c.in-Some.ensures.found)

pub returns-in-None-clause-none : goal.returns-in-None-clause-none
returns-in-None-clause-none c = λ (turn, low, same).
    let begun = BeginsWith-turn c.as_bytes-bytes.result.now turn (omega (arith, low, c.requires)) (c.as_bytes-bytes.ensures.value ∙ same) in
    c.in-None.ensures.none turn.will (c.split_at.ensures.back ∙ begun.will)
