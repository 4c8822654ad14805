-- The end that is chosen for a stretch is one that its rows allow, and the greatest.
use Rattle.command_core.proofs.Common.{◌&&◌, ◌*◌, ◌+◌, ◌-◌, ◌<◌, ◌==◌, ◌∙◌, ◌≡◌, ◌≤◌, Bool, State, and_from, and_parts, ap, arith, eq-eqb, eqb-true, false, false≢true, if◌then◌else◌, nat_tests, refl, subst, suc, sym, true, zero, ℕ}
use Rattle.std.proofs.Common.{min, add-one, mul-le-mul_right, div-mul-le_self}
use Rattle.std.proofs.lemmas.Nat.{le-div, pow_pos}
use Rattle.rmm_spec.specs.declared.accepted.Stretch.{Stretch}
use Rattle.rmm_spec.specs.Walk.{entry_size, table_size, table_number}
use Rattle.rmm_spec.specs.Step.Ripas.{IsReached}
use Rattle.command_core.specs.Furthest.{leading, may_set, most_set, furthest}
use Rattle.lemmas.proofs.Tests.{and_second-fails}

-- ---- leading numbers

pub leading-le : (n : ℕ) (p : ℕ → Bool) → leading n p ≤ n
leading-le zero p = omega arith
leading-le (suc n) p = by (leading n p == n && p n) (leading-le n p)
  where
    by : (b : Bool) → leading n p ≤ n → (if b then suc n else leading n p) ≤ suc n
    by true few = omega arith
    by false few = omega (arith, few)

leading-each : (n : ℕ) (p : ℕ → Bool) (k : ℕ) → k < leading n p → p k ≡ true
leading-each zero p k less = absurd (omega (arith, less))
leading-each (suc n) p k less = by (leading n p == n && p n) refl less (leading-each n p k)
  where
    here : (c : Bool) → (k == n) ≡ c → leading n p ≡ n → p n ≡ true → k < suc n → (k < leading n p → p k ≡ true) → p k ≡ true
    here true same all next within rest = ap p (eqb-true k n same) ∙ next
    here false apart all next within rest =
        let below : (k ≡ n → ⊥) = λ same. false≢true (sym apart ∙ eq-eqb k n same) in
        rest (omega (arith, below, within, all))

    by : (b : Bool) → (leading n p == n && p n) ≡ b → k < (if b then suc n else leading n p) → (k < leading n p → p k ≡ true) → p k ≡ true
    by true both within rest =
        let parts = and_parts (leading n p == n) (p n) both in
        here (k == n) refl (eqb-true (leading n p) n parts.0) parts.1 within rest
    by false stops within rest = rest within

-- where so many pass, the run is as long
leading-most : (n : ℕ) (p : ℕ → Bool) (c : ℕ) → c ≤ n → ((k : ℕ) → k < c → p k ≡ true) → c ≤ leading n p
leading-most zero p c within each = omega (arith, within)
leading-most (suc n) p c within each = by (c == suc n) refl (leading-most n p)
  where
    longer : (b : Bool) → c ≤ leading n p → c ≤ (if b then suc n else leading n p)
    longer true rest = let few = leading-le n p in omega (arith, rest, few)
    longer false rest = rest

    by : (b : Bool) → (c == suc n) ≡ b → ((d : ℕ) → d ≤ n → ((k : ℕ) → k < d → p k ≡ true) → d ≤ leading n p)
        → c ≤ (if leading n p == n && p n then suc n else leading n p)
    by true is rest =
        let same = eqb-true c (suc n) is in
        let long : n ≤ leading n p = rest n (omega arith) (λ k less. each k (omega (arith, less, same))) in
        let few = leading-le n p in
        let all : leading n p ≡ n = omega (arith, long, few) in
        let whole : (leading n p == n && p n) ≡ true =
        and_from (leading n p == n) (p n) (eq-eqb (leading n p) n all) (each n (omega (arith, same))) in
        subst (λ b. c ≤ (if b then suc n else leading n p)) (sym whole) (omega (arith, same))
    by false is rest =
        let apart : (c ≡ suc n → ⊥) = λ same. false≢true (sym is ∙ eq-eqb c (suc n) same) in
        longer (leading n p == n && p n) (rest c (omega (arith, apart, within)) each)

-- one number more passes
pub leading-more : (n : ℕ) (p : ℕ → Bool) → leading n p ≡ n → p n ≡ true → leading (n + 1) p ≡ n + 1
leading-more n p all next =
    let whole : (leading n p == n && p n) ≡ true = rw (eq-eqb (leading n p) n all) next in
    rw (add-one n) (rw whole refl)

-- the first that doesn't pass ends the run
pub leading-ends : (n : ℕ) (p : ℕ → Bool) (k : ℕ) → k < n → leading k p ≡ k → p k ≡ false → k ≡ leading n p
leading-ends zero p k within all stops = absurd (omega (arith, within))
leading-ends (suc n) p k within all stops = by (k == n) refl (λ less. leading-ends n p k less all stops)
  where
    ended : (leading n p == n && p n) ≡ false → k ≡ leading n p → k ≡ (if leading n p == n && p n then suc n else leading n p)
    ended fails is = rw fails is

    short : k ≡ leading n p → k < n → (leading n p == n && p n) ≡ false
    short is less =
        let apart : (leading n p == n) ≡ false = grind (arith, nat_tests, is, less) in
        rw apart refl

    by : (b : Bool) → (k == n) ≡ b → (k < n → k ≡ leading n p) → k ≡ (if leading n p == n && p n then suc n else leading n p)
    by true same rest =
        let at = eqb-true k n same in
        let is : k ≡ leading n p = sym (ap (λ x. leading x p) (sym at) ∙ all) in
        let fails : (leading n p == n && p n) ≡ false = and_second-fails (leading n p == n) (p n) (ap p (sym at) ∙ stops) in
        ended fails is
    by false apart rest =
        let other : (k ≡ n → ⊥) = λ same. false≢true (sym apart ∙ eq-eqb k n same) in
        let less : k < n = omega (arith, other, within) in
        ended (short (rest less) less) (rest less)

-- ---- stretches

unit-some : (level : ℕ) → 0 < entry_size level
unfolding entry_size
unit-some level = pow_pos (12 + 9 * (3 - level))

-- how much of the stretch may be set at most
abbrev room : Stretch → ℕ
room stretch = min stretch.top ((table_number stretch.level stretch.base + 1) * table_size stretch.level) - stretch.base

-- so many entries as are reached lie within it
reached-room : (s : State) (stretch : Stretch) (top : ℕ) (reached : IsReached s stretch top)
    → (reached.count ≤ most_set stretch) × (stretch.base ≤ min stretch.top ((table_number stretch.level stretch.base + 1) * table_size stretch.level))
reached-room s stretch top reached =
    let unit = entry_size stretch.level in
    let end = (table_number stretch.level stretch.base + 1) * table_size stretch.level in
    let is_end : top ≡ stretch.base + reached.count * unit = reached.is_end in
    let within : top ≤ stretch.top = reached.within in
    let in_table : top ≤ end = reached.in_table in
    let fits : reached.count * unit ≤ min stretch.top end - stretch.base = omega (arith, is_end, within, in_table) in
    let order : stretch.base ≤ min stretch.top end = omega (arith, is_end, within, in_table) in
    (le-div reached.count (room stretch) unit (unit-some stretch.level) fits, order)

pub furthest-reached : (s : State) (stretch : Stretch) (top : ℕ) → IsReached s stretch top → IsReached s stretch (furthest s stretch)
unfolding furthest
furthest-reached s stretch top reached =
    let unit = entry_size stretch.level in
    let end = (table_number stretch.level stretch.base + 1) * table_size stretch.level in
    let most = most_set stretch in
    let count = leading most (may_set s stretch) in
    let room_of = reached-room s stretch top reached in
    let order : stretch.base ≤ min stretch.top end = room_of.1 in
    let longer : reached.count ≤ count = leading-most most (may_set s stretch) reached.count room_of.0 reached.each in
    let one : 1 ≤ reached.count = reached.some in
    let few : count * unit ≤ most * unit = mul-le-mul_right unit (leading-le most (may_set s stretch)) in
    let whole : most * unit ≤ room stretch = div-mul-le_self (room stretch) unit in
    let fits : stretch.base + count * unit ≤ min stretch.top end = omega (arith, few, whole, order) in
    record {
      count = count;
      some = omega (arith, longer, one);
      is_end = refl;
      within = omega (arith, fits);
      in_table = omega (arith, fits);
      each = λ k less. leading-each most (may_set s stretch) k less;
    }

-- no allowed end is greater
pub reached-furthest : (s : State) (stretch : Stretch) (top : ℕ) → IsReached s stretch top → top ≤ furthest s stretch
unfolding furthest
reached-furthest s stretch top reached =
    let unit = entry_size stretch.level in
    let longer : reached.count ≤ leading (most_set stretch) (may_set s stretch) =
    leading-most (most_set stretch) (may_set s stretch) reached.count (reached-room s stretch top reached).0 reached.each in
    let more : reached.count * unit ≤ leading (most_set stretch) (may_set s stretch) * unit = mul-le-mul_right unit longer in
    let is_end : top ≡ stretch.base + reached.count * unit = reached.is_end in
    omega (arith, is_end, more)
