use Rattle.std.proofs.Common.{◌≡◌, ℕ, [], refl, ap, ◌∙◌, arith}
use Rattle.std.proofs.lemmas.Bool.{false≢true}
use Rattle.std.proofs.lemmas.Option.{none-some, same_Some}
use Rattle.rmm_spec.specs.State.{RealmRecord}
use Rattle.rmm_spec.specs.Lookup.{is_granule}
use Rattle.rmm_spec.specs.Cell.{Undelegated, Delegated}
use Rattle.world_laws.specs.SmallWholes.{new_record, second_record}
use Rattle.world_laws.proofs.broken_realms.broken_realms_are_not_well_shaped.Goals as goal

pub returns-clause-no_space : goal.returns-clause-no_space
returns-clause-no_space c = λ places shaped. false≢true (shaped.realms.spaces 0x1000 (record new_record { start_level = 0 }) refl)

pub returns-clause-unmeasured : goal.returns-clause-unmeasured
returns-clause-unmeasured c = λ places shaped.
    let bad : ◌≡◌ {A = ℕ} 0 4 = shaped.realms.measured 0x1000 (record new_record { rems = [] }) refl in omega arith

pub returns-clause-unlisted : goal.returns-clause-unlisted
returns-clause-unlisted c = λ places shaped. none-some 0x1000 (shaped.realms.listed 0x1000 new_record refl)

pub returns-clause-shared_vmid : goal.returns-clause-shared_vmid
returns-clause-shared_vmid c = λ places shaped.
    let bad : ◌≡◌ {A = ℕ} 0x1000 0x3000 = same_Some 0x1000 0x3000 (shaped.realms.listed 0x3000 (second_record 1) refl) in omega arith

pub returns-clause-other_vmid : goal.returns-clause-other_vmid
returns-clause-other_vmid c = λ places shaped.
    let used = shaped.realms.used 2 0x1000 refl in
    let bad : ◌≡◌ {A = ℕ} 1 2 = ap (λ (r : RealmRecord). r.vmid) (same_Some new_record used.0 used.1) ∙ used.2 in omega arith

pub returns-clause-vmid_of_none : goal.returns-clause-vmid_of_none
returns-clause-vmid_of_none c = λ places shaped. let used = shaped.realms.used 2 0x3000 refl in none-some used.0 used.1

pub returns-clause-miscounted : goal.returns-clause-miscounted
returns-clause-miscounted c = λ places shaped. let bad : ◌≡◌ {A = ℕ} 1 0 = shaped.realms.counted 0x1000 in omega arith

pub returns-clause-past_the_end : goal.returns-clause-past_the_end
unfolding is_granule
returns-clause-past_the_end c = λ places shaped. let bad : Delegated ≡ Undelegated = shaped.outside.undelegated 0x8000 refl in cc

pub returns-clause-between_pages : goal.returns-clause-between_pages
unfolding is_granule
returns-clause-between_pages c = λ places shaped. let bad : Delegated ≡ Undelegated = shaped.outside.undelegated 0x1800 refl in cc
