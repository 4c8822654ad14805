use Rattle.std.proofs.Common.{◌≡◌, ℕ, ◌^◌, ◌≤◌, Some, refl, sym, arith}
use Rattle.std.proofs.lemmas.Bool.{false≢true}
use Rattle.rmm_spec.specs.declared.tag.Ripas.TheVariants.{Ram}
use Rattle.rmm_spec.specs.State.{HostCall, RipasChange}
use Rattle.world_laws.specs.SmallWholes.{the_rec, owner_record, asking}
use Rattle.world_laws.proofs.broken_recs.broken_recs_are_not_well_shaped.Goals as goal

pub returns-clause-unowned : goal.returns-clause-unowned
returns-clause-unowned c = λ places shaped. false≢true (shaped.recs.owned 0x3000 (record the_rec { owner = 0x2000 }) refl)

pub returns-clause-first_aux : goal.returns-clause-first_aux
returns-clause-first_aux c = λ places shaped. false≢true (shaped.recs.aux0 0x3000 the_rec refl)

pub returns-clause-second_aux : goal.returns-clause-second_aux
returns-clause-second_aux c = λ places shaped. false≢true (shaped.recs.aux1 0x3000 the_rec refl)

pub returns-clause-one_aux : goal.returns-clause-one_aux
returns-clause-one_aux c = λ places shaped. false≢true (sym (shaped.recs.two 0x3000 (record the_rec { aux1 = 0x4000 }) refl))

pub returns-clause-shared_aux : goal.returns-clause-shared_aux
returns-clause-shared_aux c = λ places shaped. let bad : ◌≡◌ {A = ℕ} 0x3000 0x6000 = shaped.recs.apart 0x3000 0x6000 0x4000 refl refl in omega arith

pub returns-clause-begins_off_page : goal.returns-clause-begins_off_page
returns-clause-begins_off_page c = λ places shaped.
    false≢true (shaped.recs.requests 0x3000 (asking 1 0x1000) owner_record (record { base = 1; top = 0x1000; ripas = Ram }) refl refl refl).pages

pub returns-clause-ends_off_page : goal.returns-clause-ends_off_page
returns-clause-ends_off_page c = λ places shaped.
    false≢true (shaped.recs.requests 0x3000 (asking 0 0x1001) owner_record (record { base = 0; top = 0x1001; ripas = Ram }) refl refl refl).pages

pub returns-clause-disordered : goal.returns-clause-disordered
returns-clause-disordered c = λ places shaped.
    let bad : 0x2000 ≤ 0x1000 = (shaped.recs.requests 0x3000 (asking 0x2000 0x1000) owner_record
    (record { base = 0x2000; top = 0x1000; ripas = Ram }) refl refl refl).ordered in omega arith

pub returns-clause-too_far : goal.returns-clause-too_far
returns-clause-too_far c = λ places shaped.
    let bad : 0x4000001000 ≤ 2 ^ 38 = (shaped.recs.requests 0x3000 (asking 0 0x4000001000) owner_record
    (record { base = 0; top = 0x4000001000; ripas = Ram }) refl refl refl).protected in omega arith

pub returns-clause-idle_exit : goal.returns-clause-idle_exit
returns-clause-idle_exit c =
    λ places shaped. false≢true (shaped.recs.running 0x3000 (record the_rec { pending = Some (HostCall 1) }) (HostCall 1) refl refl)

pub returns-clause-unasked : goal.returns-clause-unasked
returns-clause-unasked c =
    λ places shaped. false≢true (shaped.recs.asked 0x3000 (record the_rec { cpu = Some 0; pending = Some RipasChange }) refl refl)
