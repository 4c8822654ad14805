use Rattle.std.proofs.Common.{◌≡◌, ℕ, Some, refl, ap, ◌∙◌, arith}
use Rattle.std.proofs.lemmas.Option.{none-some, same_Some}
use Rattle.rmm_spec.specs.State.{RecRecord}
use Rattle.rmm_spec.specs.Shape.{Outside, Inside}
use Rattle.world_laws.specs.SmallWholes.{the_rec}
use Rattle.world_laws.proofs.broken_recs.broken_places_are_not_well_shaped.Goals as goal

pub returns-clause-nowhere : goal.returns-clause-nowhere
returns-clause-nowhere c = λ shaped. let runs = (shaped.recs.inside 0 0x6000 0x1000).0 refl in none-some runs.it runs.is_rec

pub returns-clause-not_running : goal.returns-clause-not_running
returns-clause-not_running c = λ shaped.
    let runs = (shaped.recs.inside 0 0x3000 0x1000).0 refl in
    none-some 0 (ap (λ (r : RecRecord). r.cpu) (same_Some the_rec runs.it runs.is_rec) ∙ runs.is_on)

pub returns-clause-elsewhere : goal.returns-clause-elsewhere
returns-clause-elsewhere c = λ shaped.
    let runs = (shaped.recs.inside 0 0x3000 0x2000).0 refl in
    let bad : ◌≡◌ {A = ℕ} 0x1000 0x2000 =
    ap (λ (r : RecRecord). r.owner) (same_Some (record the_rec { cpu = Some 0 }) runs.it runs.is_rec) ∙ runs.is_owner in omega arith

pub returns-clause-unplaced : goal.returns-clause-unplaced
returns-clause-unplaced c = λ shaped.
    let inside : Outside ≡ Inside 0x3000 0x1000 =
    (shaped.recs.inside 0 0x3000 0x1000).1 (record { it = record the_rec { cpu = Some 0 }; is_rec = refl; is_owner = refl; is_on = refl }) in cc
