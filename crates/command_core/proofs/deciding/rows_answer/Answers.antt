use Rattle.command_core.proofs.Common.{◌∙◌, ap, is_settled, is_unshaped, place_of, seen_state, subst, sym}
use Rattle.granule_cells.specs.declared.cpu_place.CpuPlace.{CpuPlace}
use Rattle.command_rows.specs.Answers.{IsInside}
use Rattle.command_core.specs.Pairs.{pair_cells}
use Rattle.command_core.proofs.Owned.{settled-owned, settled-placed}
use Rattle.command_core.proofs.deciding.rows_answer.Goals as goal

pub answer_outside-requires : goal.answer_outside-requires
answer_outside-requires c =
    let a = c.args in
    let held = pair_cells a.sight.now.held.now in
    record {
      owned = settled-owned a.sight.now.config.now held a.call.now
          (ap (λ (p : CpuPlace). is_settled a.sight.now.config.now a.call.now (place_of p) held) (sym c.in-Outside.is) ∙ c.requires.settled)
          (ap (λ (p : CpuPlace). is_unshaped a.sight.now.config.now a.call.now (place_of p) held) (sym c.in-Outside.is) ∙ c.requires.shaped);
    }

pub answer_inside-requires : goal.answer_inside-requires
answer_inside-requires c =
    let a = c.args in
    let held = pair_cells a.sight.now.held.now in
    record {
      inside = subst (λ rec. IsInside (seen_state a.sight.now.config.now held) rec a.call.now) (sym c.address.ensures)
          (settled-placed a.sight.now.config.now c.in-Inside.rec c.in-Inside.rd held a.call.now
          (ap (λ (p : CpuPlace). is_settled a.sight.now.config.now a.call.now (place_of p) held) (sym c.in-Inside.is) ∙ c.requires.settled)
          (ap (λ (p : CpuPlace). is_unshaped a.sight.now.config.now a.call.now (place_of p) held) (sym c.in-Inside.is) ∙ c.requires.shaped));
    }
