-- What searches of a state and tests of a granule's address say.
use Rattle.std.proofs.Common.{◌≡◌, ℕ, zero, suc, ◌*◌, ◌/◌, ◌%◌, ◌<◌, ◌≤◌, ◌==◌, Bool, true, false, if◌then◌else◌, Option, Some, None, IsTrue, refl, sym, ◌∙◌, ap, arith, eqb-true}
use Rattle.std.proofs.lemmas.Bool.{and_parts, false≢true, ltb-true}
use Rattle.std.proofs.lemmas.Bool.Decides.{nat_tests}
use Rattle.std.specs.Prelude.{nat_lt}
use Rattle.rmm_spec.specs.Lookup.{has_vmid, is_granule}
use Rattle.rmm_spec.specs.Shape.{count_below}
use Rattle.rmm_spec.specs.Update.{with_realm}
use Rattle.rmm_spec.specs.State.{RealmRecord, State}

-- a realm that has the VMID is there
pub vmid_owner : (vmid : ℕ) (o : Option RealmRecord) → has_vmid vmid o ≡ true → (realm : RealmRecord) × (o ≡ Some realm) × (realm.vmid ≡ vmid)
vmid_owner vmid None has = absurd (false≢true has)
vmid_owner vmid (Some realm) has = (realm, refl, eqb-true realm.vmid vmid has)

-- no more pass than are counted
pub counted-le : (n : ℕ) (passes : ℕ → Bool) → count_below n passes ≤ n
counted-le zero passes = omega arith
counted-le (suc n) passes = by (passes n) (counted-le n passes)
  where
    by : (b : Bool) → count_below n passes ≤ n → (if b then suc (count_below n passes) else count_below n passes) ≤ suc n
    by true few = omega (arith, few)
    by false few = omega (arith, few)

-- the number of a granule's address is below the count
pub granule-within : (granules address : ℕ) → IsTrue (is_granule granules address) → address / 4096 < granules
unfolding is_granule
granule-within granules address granule =
    let parts = and_parts (address % 4096 == 0) (nat_lt address (granules * 4096)) granule in
    omega (arith, ltb-true address (granules * 4096) parts.1)

-- a realm that is put where it is changes nothing
pub with_realm-same : (s : State) (rd : ℕ) (realm : RealmRecord) → s.realm rd ≡ Some realm → with_realm s rd realm ≡ s
with_realm-same s rd realm there = λ i. record s { realm = λ other. at other (other == rd) refl i }
  where
    at : (other : ℕ) (b : Bool) → (other == rd) ≡ b → (if b then Some realm else s.realm other) ≡ s.realm other
    at other true same = sym there ∙ ap s.realm (sym (eqb-true other rd same))
    at other false same = refl

-- a granule's address by its number
pub granule-number : (granules address : ℕ) → IsTrue (is_granule granules address) → (address / 4096 < granules) × (address ≡ (address / 4096) * 4096)
unfolding is_granule
granule-number granules address is =
    let parts = and_parts (address % 4096 == 0) (nat_lt address (granules * 4096)) is in
    let multiple : address % 4096 ≡ 0 = eqb-true (address % 4096) 0 parts.0 in
    let below : address < granules * 4096 = grind (arith, nat_tests, parts.1) in
    (omega arith, omega arith)
