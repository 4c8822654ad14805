-- What is told by the side table and by the CPUs' places is what the flat state tells.
use Rattle.spec_machine.proofs.Common.{◌*◌, ◌∙◌, ◌≡◌, Bool, Config, None, Option, RealmRecord, Some, ap, arith, eqb-true, false, flat_state, if◌then◌else◌, lt-ltb, nat_lt, none-some, refl, suc, sym, true, zero, ℕ}
use Rattle.std.proofs.Common.{◌||◌, is_some}
use Rattle.std.proofs.lemmas.Bool.{false_from_ne_true, false≢true, eq-eqb}
use Rattle.rmm_spec.specs.Lookup.{any_below, has_vmid, is_vmid_used, is_owned_by, has_rec, rec_inside}
use Rattle.rmm_spec.specs.Cell.{Cell, Undelegated, realm_in, realms_of, recs_of}
use Rattle.rmm_spec.specs.Shape.{Side, CpuPlace, Inside, IsWellShaped, count_below}
use Rattle.rmm_laws.proofs.Searches.{inside_runs}
use Rattle.rmm_laws.proofs.ShapeTies.{well_shaped-is_sound}
use Rattle.spec_lemmas.proofs.Placed.{passing_below, any_below-from, runs_on-running, cell_granule, is_inside-inside}

-- one is found exactly where there is one to count
found-counted : (b rest : Bool) (count : ℕ) → rest ≡ nat_lt 0 count → (b || rest) ≡ nat_lt 0 (if b then suc count else count)
found-counted true rest count same = sym (lt-ltb 0 (suc count) (omega arith))
found-counted false rest count same = same

any_below-count_below : (n : ℕ) (passes : ℕ → Bool) → any_below n passes ≡ nat_lt 0 (count_below n passes)
any_below-count_below zero passes = refl
any_below-count_below (suc n) passes =
    found-counted (passes n) (any_below n passes) (count_below n passes) (any_below-count_below n passes)

module _ (config : Config) (side : Side) (places : ℕ → CpuPlace) (cells : ℕ → Cell) (w : IsWellShaped config side places cells) where
  pub has_rec-counted : (rd : ℕ) → nat_lt 0 (side.rec_counts rd) ≡ has_rec (flat_state config cells) rd
  unfolding has_rec flat_state
  has_rec-counted rd =
      ap (nat_lt 0) (w.realms.counted rd) ∙ sym (any_below-count_below config.granules (λ k. is_owned_by rd (recs_of cells (k * 4096))))

  vmid_owner : (vmid : ℕ) (o : Option RealmRecord) → has_vmid vmid o ≡ true → (realm : RealmRecord) × (o ≡ Some realm) × (realm.vmid ≡ vmid)
  vmid_owner vmid None has = absurd (false≢true has)
  vmid_owner vmid (Some realm) has = (realm, refl, eqb-true realm.vmid vmid has)

  undelegated-rd : (c : Cell) → is_some (realm_in c) ≡ true → c ≡ Undelegated → ⊥
  undelegated-rd c is undelegated = false≢true (ap (λ (x : Cell). is_some (realm_in x)) (sym undelegated) ∙ is)

  pub is_vmid_used-listed : (vmid : ℕ) → is_some (side.vmids vmid) ≡ is_vmid_used (flat_state config cells) vmid
  unfolding is_vmid_used flat_state
  is_vmid_used-listed vmid = by (side.vmids vmid) refl
    where
      by : (o : Option ℕ) → side.vmids vmid ≡ o
          → is_some (side.vmids vmid) ≡ any_below config.granules (λ k. has_vmid vmid (realms_of cells (k * 4096)))
      by None is =
          ap is_some is
          ∙ sym (false_from_ne_true (any_below config.granules (λ k. has_vmid vmid (realms_of cells (k * 4096)))) (λ any.
          let found = passing_below config.granules (λ k. has_vmid vmid (realms_of cells (k * 4096))) any in
          let owner = vmid_owner vmid (realms_of cells (found.0 * 4096)) found.2 in
          none-some (found.0 * 4096) (sym is ∙ (ap side.vmids (sym owner.2) ∙ w.realms.listed (found.0 * 4096) owner.0 owner.1))))
      by (Some rd) is =
          let used = w.realms.used vmid rd is in
          let at = cell_granule config side places cells w rd (undelegated-rd (cells rd) (ap (λ (o : Option RealmRecord). is_some o) used.1)) in
          ap is_some is
          ∙ sym (any_below-from config.granules (λ k. has_vmid vmid (realms_of cells (k * 4096))) at.0 at.1
          (ap (has_vmid vmid) (ap (realms_of cells) at.2 ∙ used.1) ∙ eq-eqb used.0.vmid vmid used.2))

  -- a CPU that is inside is inside of the REC that its place says
  pub rec_inside-place : (cpu rec rd : ℕ) → places cpu ≡ Inside rec rd → rec ≡ rec_inside (flat_state config cells) cpu
  unfolding flat_state
  rec_inside-place cpu rec rd place =
      let s = flat_state config cells in
      let sound = well_shaped-is_sound config side places cells w in
      let runs = (w.recs.inside cpu rec rd).0 place in
      sound.recs.alone rec (rec_inside s cpu) cpu (runs_on-running cpu (recs_of cells rec) runs.it runs.is_rec runs.is_on)
      (inside_runs s cpu (is_inside-inside config side places cells w cpu rec rd place))
