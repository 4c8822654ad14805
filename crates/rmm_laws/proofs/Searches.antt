-- What a search over all granules says of each address, and what stands at a tag.
use Rattle.rmm_laws.proofs.SoundCommon.{◌*◌, ◌/◌, ◌<◌, ◌∙◌, ◌≡◌, Bool, IsSound, IsTrue, None, Option, Rd, RealmRecord, Rec, RecRecord, Some, State, ap, arith, both_ways, false, granule_from_tag, has_tag, inl, inr, is_some, realm_at, rec_at, refl, runs_on, suc, sym, true, zero, ℕ}
use Rattle.std.proofs.Common.{◌⊎◌, unwrap_or}
use Rattle.std.proofs.lemmas.Bool.{or_parts}
use Rattle.rmm_spec.specs.Lookup.{is_granule, any_below, greatest_below, is_inside, rec_inside, is_vmid_used, has_vmid, has_rec, is_owned_by}
use Rattle.spec_lemmas.proofs.Lookups.{granule-number}

-- ---- searches

-- where no number below n passes, none does
pub any_below-false : (n : ℕ) (passes : ℕ → Bool) → any_below n passes ≡ false → (k : ℕ) → k < n → passes k ≡ false
any_below-false zero passes none k below = absurd (omega arith)
any_below-false (suc n) passes none k below =
    let parts = or_parts (passes n) (any_below n passes) none in
    let cases : (k < n) ⊎ (k ≡ n) = grind arith in
    elim cases [
      | inl less ↦ any_below-false n passes parts.1 k less
      | inr last ↦ rw last parts.0
    ]

-- one number more, by whether it passes
greatest_below-by : (n : ℕ) (passes : ℕ → Bool) (last : Bool) → passes n ≡ last → IsTrue (any_below (suc n) passes)
    → (IsTrue (any_below n passes) → IsTrue (passes (greatest_below n passes))) → IsTrue (passes (greatest_below (suc n) passes))
greatest_below-by n passes true here any earlier = rw here here
greatest_below-by n passes false gone any earlier = rw gone (earlier (rw gone at any))

-- where a number below n passes, the greatest one does
pub greatest_below-passes : (n : ℕ) (passes : ℕ → Bool) → IsTrue (any_below n passes) → IsTrue (passes (greatest_below n passes))
greatest_below-passes zero passes any = both_ways any refl
greatest_below-passes (suc n) passes any = greatest_below-by n passes _ refl any (greatest_below-passes n passes)

-- a map that has values at granules alone, where a search finds none that passes
none_passes : {A : Type 0} (granules : ℕ) (found : ℕ → Option A) (passes : Option A → Bool) → passes None ≡ false
    → ((g : ℕ) → IsTrue (is_some (found g)) → IsTrue (is_granule granules g))
    → any_below granules (λ k. passes (found (k * 4096))) ≡ false → (g : ℕ) (at : Option A) → found g ≡ at → passes at ≡ false
none_passes granules found passes nothing placed none g None at = nothing
none_passes granules found passes nothing placed none g (Some x) at =
    let number = granule-number granules g (placed g (ap is_some at)) in
    rw (← at) (rw number.1 (any_below-false granules (λ k. passes (found (k * 4096))) none (g / 4096) number.0))

-- RECs stand at granules
pub rec_granule : (s : State) → IsSound s → (g : ℕ) → IsTrue (is_some (s.rec g)) → IsTrue (is_granule s.config.granules g)
rec_granule s sound g there = granule_from_tag s g Rec (sym (sound.recs.tagged g) ∙ there)

-- realms stand at granules
pub realm_granule : (s : State) → IsSound s → (g : ℕ) → IsTrue (is_some (s.realm g)) → IsTrue (is_granule s.config.granules g)
realm_granule s sound g there = granule_from_tag s g Rd (sym (sound.realms.tagged g) ∙ there)

-- no REC runs on a CPU that is inside of none
pub none_runs : (s : State) (cpu : ℕ) → IsSound s → is_inside s cpu ≡ false → (g : ℕ) → runs_on cpu (s.rec g) ≡ false
unfolding is_inside
none_runs s cpu sound out g = none_passes s.config.granules s.rec (runs_on cpu) refl (rec_granule s sound) out g (s.rec g) refl

-- no REC belongs to a realm that has none
pub none_owned : (s : State) (rd : ℕ) → IsSound s → has_rec s rd ≡ false → (g : ℕ) → is_owned_by rd (s.rec g) ≡ false
unfolding has_rec
none_owned s rd sound none g = none_passes s.config.granules s.rec (is_owned_by rd) refl (rec_granule s sound) none g (s.rec g) refl

-- no realm has a VMID that isn't used
pub none_has_vmid : (s : State) (vmid : ℕ) → IsSound s → is_vmid_used s vmid ≡ false → (g : ℕ) → has_vmid vmid (s.realm g) ≡ false
unfolding is_vmid_used
none_has_vmid s vmid sound none g = none_passes s.config.granules s.realm (has_vmid vmid) refl (realm_granule s sound) none g (s.realm g) refl

-- the REC that a CPU is inside of runs on it
pub inside_runs : (s : State) (cpu : ℕ) → IsTrue (is_inside s cpu) → IsTrue (runs_on cpu (s.rec (rec_inside s cpu)))
unfolding is_inside rec_inside
inside_runs s cpu inside = greatest_below-passes s.config.granules (λ k. runs_on cpu (s.rec (k * 4096))) inside

-- ---- what stands at a tag

-- what has a value is read as it
read : {A : Type 0} (found : Option A) (default : A) → IsTrue (is_some found) → found ≡ Some (unwrap_or found default)
read None default there = both_ways there refl
read (Some x) default there = refl

-- a realm stands at its tag
pub realm_there : (s : State) (rd : ℕ) → IsSound s → IsTrue (has_tag s rd Rd) → s.realm rd ≡ Some (realm_at s rd)
unfolding realm_at
realm_there s rd sound tag = read (s.realm rd) _ (sound.realms.tagged rd ∙ tag)

-- a REC stands at its tag
pub rec_there : (s : State) (a : ℕ) → IsSound s → IsTrue (has_tag s a Rec) → s.rec a ≡ Some (rec_at s a)
unfolding rec_at
rec_there s a sound tag = read (s.rec a) _ (sound.recs.tagged a ∙ tag)

-- a realm is the one that is read at its address
pub realm_at-is : (s : State) (rd : ℕ) (r : RealmRecord) → s.realm rd ≡ Some r → realm_at s rd ≡ r
unfolding realm_at
realm_at-is s rd r there = rw there refl

-- a REC is the one that is read at its address
pub rec_at-is : (s : State) (a : ℕ) (c : RecRecord) → s.rec a ≡ Some c → rec_at s a ≡ c
unfolding rec_at
rec_at-is s a c there = rw there refl
