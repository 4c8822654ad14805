-- Where a stretch may end, and its entries.
use Rattle.spec_machine.proofs.Common.{◌%◌, ◌*◌, ◌+◌, ◌-◌, ◌/◌, ◌<◌, ◌==◌, ◌∙◌, ◌≡◌, ◌≤◌, Bool, Entry, State, ap, arith, cases_lt, entry_at, entry_number, eqb-true, false, inl, inr, lt-ltb, nat_lt, refl, suc, sym, table_number, table_size, true, zero, ℕ}
use Rattle.std.proofs.Common.{nat_le, ◌&&◌, add-one}
use Rattle.std.proofs.Math.Nat.{div-add-mod, div-div-eq-div-mul, mul-le-mul_left}
use Rattle.std.proofs.lemmas.Bool.{and_parts, and_left, and_right, ltb-true, leb-true, le-ltb, le-leb, lt-leb, eq-eqb, ne_eqb}
use Rattle.std.proofs.lemmas.Nat.{div_below, le-div}
use Rattle.spec_lemmas.proofs.WalkLaws.{table_size-entries}
use Rattle.rmm_spec.specs.declared.accepted.Stretch.{Stretch}
use Rattle.rmm_spec.specs.Lookup.{all_below}
use Rattle.rmm_spec.specs.Step.Ripas.{can_be_set, is_reached}
use Rattle.rmm_spec.specs.Walk.{entry_size, is_multiple}
use Rattle.spec_machine.specs.Searches.{is_end}
use Rattle.std.proofs.lemmas.Bool.{and_from, eqb-false}

-- ---- numbers that all pass

all_below-fails : (passes : ℕ → Bool) (k n : ℕ) → k < n → passes k ≡ false → all_below n passes ≡ false
all_below-fails passes k zero below fails = absurd (omega arith)
all_below-fails passes k (suc n) below fails = by (k == n) refl (λ less. all_below-fails passes k n less fails)
  where
    by : (b : Bool) → (k == n) ≡ b → (k < n → all_below n passes ≡ false) → all_below (suc n) passes ≡ false
    by true here rest = and_left (passes n) (all_below n passes) (rw (eqb-true k n here) at fails)
    by false apart rest =
        let other : k ≡ n → ⊥ = eqb-false k n apart in
        and_right (passes n) (all_below n passes) (rest (omega (arith, below, other)))

-- one more that passes
all_below-more : (passes : ℕ → Bool) (n : ℕ) → all_below n passes ≡ true → passes n ≡ true → all_below (n + 1) passes ≡ true
all_below-more passes n all holds = rw (add-one n) (and_from (passes n) (all_below n passes) holds all)

-- ---- where it may end

-- a stretch ends by the end of its table where its last byte is in it
last_byte : (base top size : ℕ) → 0 < size → base < top → nat_le top ((base / size + 1) * size) ≡ nat_le ((top - 1) / size) (base / size)
last_byte base top size some order =
    let q = base / size in
    elim (cases_lt ((q + 1) * size) top) [
      | inl past ↦ (let after : q + 1 ≤ (top - 1) / size = le-div (q + 1) (top - 1) size some (omega arith) in
          rw (lt-leb top ((q + 1) * size) past, lt-leb ((top - 1) / size) q (omega arith)) refl)
      | inr within ↦ (let before : (top - 1) / size < q + 1 = div_below (top - 1) size (q + 1) some (omega arith) in
          rw (le-leb top ((q + 1) * size) within, le-leb ((top - 1) / size) q (omega arith)) refl)
    ]

-- a table covers some bytes
table_size-some : (level : ℕ) → level ≤ 3 → 0 < table_size level
unfolding table_size
table_size-some zero within = omega arith
table_size-some (suc zero) within = omega arith
table_size-some (suc (suc zero)) within = omega arith
table_size-some (suc (suc (suc zero))) within = omega arith
table_size-some (suc (suc (suc (suc level)))) within = absurd (omega arith)

-- an entry covers some bytes
entry_size-some : (level : ℕ) → level ≤ 3 → 0 < entry_size level
unfolding entry_size
entry_size-some zero within = omega arith
entry_size-some (suc zero) within = omega arith
entry_size-some (suc (suc zero)) within = omega arith
entry_size-some (suc (suc (suc zero))) within = omega arith
entry_size-some (suc (suc (suc (suc level)))) within = absurd (omega arith)

-- the last of the tests, where the first holds
end-by : (level base top bound : ℕ) → level ≤ 3 → (first : Bool) → nat_lt base top ≡ first
    → (first && is_multiple (top - base) (entry_size level) && nat_le top bound && nat_le top ((table_number level base + 1) * table_size level))
    ≡ (first && is_multiple (top - base) (entry_size level) && nat_le top bound && nat_le (table_number level (top - 1)) (table_number level base))
unfolding table_number
end-by level base top bound within false past = refl
end-by level base top bound within true before =
    ap (λ (last : Bool). is_multiple (top - base) (entry_size level) && nat_le top bound && last)
    (last_byte base top (table_size level) (table_size-some level within) (ltb-true base top before))

pub end-tests : (stretch : Stretch) (top : ℕ) → stretch.level ≤ 3
    → is_end stretch top ≡ (nat_lt stretch.base top && is_multiple (top - stretch.base) (entry_size stretch.level) && nat_le top stretch.top
    && nat_le (table_number stretch.level (top - 1)) (table_number stretch.level stretch.base))
unfolding is_end
end-tests stretch top within = end-by stretch.level stretch.base top stretch.top within _ refl

-- it doesn't end where it begins, past its top, or within an entry
pub end_past : (stretch : Stretch) (top : ℕ) → top ≤ stretch.base → is_end stretch top ≡ false
unfolding is_end
end_past stretch top past = rw (le-ltb stretch.base top past) refl

pub end_beyond : (stretch : Stretch) (top : ℕ) → stretch.top < top → is_end stretch top ≡ false
unfolding is_end
end_beyond stretch top beyond =
    and_left _ (nat_le top ((table_number stretch.level stretch.base + 1) * table_size stretch.level))
    (and_right (nat_lt stretch.base top && is_multiple (top - stretch.base) (entry_size stretch.level))
    (nat_le top stretch.top) (lt-leb top stretch.top beyond))

pub end_between : (stretch : Stretch) (top : ℕ) → ((top - stretch.base) % entry_size stretch.level ≡ 0 → ⊥) → is_end stretch top ≡ false
unfolding is_end
end_between stretch top between =
    and_left _ (nat_le top ((table_number stretch.level stretch.base + 1) * table_size stretch.level))
    (and_left (nat_lt stretch.base top && is_multiple (top - stretch.base) (entry_size stretch.level)) (nat_le top stretch.top)
    (and_right (nat_lt stretch.base top) (is_multiple (top - stretch.base) (entry_size stretch.level))
    (ne_eqb ((top - stretch.base) % entry_size stretch.level) 0 between)))

-- otherwise it ends where it is in one table
pub end_at : (stretch : Stretch) (top : ℕ) → stretch.level ≤ 3 → stretch.base < top → top ≤ stretch.top
    → (top - stretch.base) % entry_size stretch.level ≡ 0
    → is_end stretch top ≡ nat_le (table_number stretch.level (top - 1)) (table_number stretch.level stretch.base)
end_at stretch top within order bound multiple =
    end-tests stretch top within
    ∙ rw (lt-ltb stretch.base top order, eq-eqb ((top - stretch.base) % entry_size stretch.level) 0 multiple, le-leb top stretch.top bound) refl

-- ---- its entries

-- the entries of a stretch are in one table
in_table-of : (base top k size : ℕ) → 0 < size → base < top → top ≤ (base / (512 * size) + 1) * (512 * size) → k < (top - base) / size
    → (base / size + k) / 512 ≡ base / size / 512
in_table-of base top k size some order in_table below =
    let first = base / size in
    let count = (top - base) / size in
    let t = first / 512 in
    let table_is : first / 512 ≡ base / (size * 512) = div-div-eq-div-mul base size 512 in
    let same : size * 512 ≡ 512 * size = omega arith in
    let number : base / (512 * size) ≡ t = rw (← same) (sym table_is) in
    let ends : top ≤ (t + 1) * (512 * size) = rw number at in_table in
    let base_is : size * first + base % size ≡ base = div-add-mod base size in
    let run_is : size * count + (top - base) % size ≡ top - base = div-add-mod (top - base) size in
    let all : first + count ≤ 512 * (t + 1) = elim (cases_lt (512 * (t + 1)) (first + count)) [
      | inl past ↦ (let scaled : size * (512 * (t + 1) + 1) ≤ size * (first + count) =
          rw (add-one (512 * (t + 1))) (mul-le-mul_left size past) in absurd (omega arith))
      | inr within ↦ within
    ] in
    omega arith

-- the four tests of an end, that the stretch's entries are in one table
pub in_table : (stretch : Stretch) (top k : ℕ) → stretch.level ≤ 3 → is_end stretch top ≡ true → k < entry_number stretch.level (top - stretch.base)
    → (entry_number stretch.level stretch.base + k) / 512 ≡ entry_number stretch.level stretch.base / 512
unfolding is_end entry_number table_number
in_table stretch top k within ends below =
    let size = entry_size stretch.level in
    let three = and_parts (nat_lt stretch.base top && is_multiple (top - stretch.base) size && nat_le top stretch.top)
    (nat_le top ((table_number stretch.level stretch.base + 1) * table_size stretch.level)) ends in
    let two = and_parts (nat_lt stretch.base top && is_multiple (top - stretch.base) size) (nat_le top stretch.top) three.0 in
    let one = and_parts (nat_lt stretch.base top) (is_multiple (top - stretch.base) size) two.0 in
    let in_table = rw (table_size-entries stretch.level within)
    at (leb-true top ((stretch.base / table_size stretch.level + 1) * table_size stretch.level) three.1) in
    in_table-of stretch.base top k size (entry_size-some stretch.level within) (ltb-true stretch.base top one.0) in_table below

-- a stretch that ends goes up
pub end-order : (stretch : Stretch) (top : ℕ) → is_end stretch top ≡ true → stretch.base < top
unfolding is_end
end-order stretch top ends =
    let three = and_parts (nat_lt stretch.base top && is_multiple (top - stretch.base) (entry_size stretch.level) && nat_le top stretch.top)
    (nat_le top ((table_number stretch.level stretch.base + 1) * table_size stretch.level)) ends in
    let two = and_parts (nat_lt stretch.base top && is_multiple (top - stretch.base) (entry_size stretch.level)) (nat_le top stretch.top) three.0 in
    ltb-true stretch.base top (and_parts (nat_lt stretch.base top) (is_multiple (top - stretch.base) (entry_size stretch.level)) two.0).0

-- ---- the whole test

-- it may end there, and each entry may be set
reached-is : (s : State) (stretch : Stretch) (top : ℕ) → is_reached s stretch top ≡ (is_end stretch top
    && all_below (entry_number stretch.level (top - stretch.base))
    (λ k. can_be_set stretch.purpose (entry_at s stretch.rd stretch.level (entry_number stretch.level stretch.base + k))))
unfolding is_reached is_end entry_number
reached-is s stretch top = refl

pub reached-no_end : (s : State) (stretch : Stretch) (top : ℕ) → is_end stretch top ≡ false → false ≡ is_reached s stretch top
reached-no_end s stretch top fails = rw (reached-is s stretch top, fails) refl

-- whether an entry may be set, where it is looked up
set-by : (s : State) (stretch : Stretch) (first k : ℕ) (entry : Entry) (b : Bool) → first ≡ entry_number stretch.level stretch.base
    → entry ≡ entry_at s stretch.rd stretch.level (first + k) → b ≡ can_be_set stretch.purpose entry
    → can_be_set stretch.purpose (entry_at s stretch.rd stretch.level (entry_number stretch.level stretch.base + k)) ≡ b
set-by s stretch first k entry b is_first is_entry is =
    ap (λ (n : ℕ). can_be_set stretch.purpose (entry_at s stretch.rd stretch.level (n + k))) (sym is_first)
    ∙ ap (λ (e : Entry). can_be_set stretch.purpose e) (sym is_entry) ∙ sym is

-- an entry may not be set
pub reached-fails : (s : State) (stretch : Stretch) (top first k : ℕ) (entry : Entry) → k < entry_number stretch.level (top - stretch.base)
    → first ≡ entry_number stretch.level stretch.base → entry ≡ entry_at s stretch.rd stretch.level (first + k)
    → false ≡ can_be_set stretch.purpose entry → false ≡ is_reached s stretch top
reached-fails s stretch top first k entry below is_first is_entry fails =
    let passes : ℕ → Bool = λ n. can_be_set stretch.purpose (entry_at s stretch.rd stretch.level (entry_number stretch.level stretch.base + n)) in
    rw (reached-is s stretch top)
    (sym (and_right (is_end stretch top) (all_below (entry_number stretch.level (top - stretch.base)) passes)
    (all_below-fails passes k (entry_number stretch.level (top - stretch.base)) below
    (set-by s stretch first k entry false is_first is_entry fails))))

-- one more entry may be set
pub reached-more : (s : State) (stretch : Stretch) (first k : ℕ) (entry : Entry)
    → all_below k (λ n. can_be_set stretch.purpose (entry_at s stretch.rd stretch.level (entry_number stretch.level stretch.base + n))) ≡ true
    → first ≡ entry_number stretch.level stretch.base → entry ≡ entry_at s stretch.rd stretch.level (first + k)
    → true ≡ can_be_set stretch.purpose entry
    → all_below (k + 1) (λ n. can_be_set stretch.purpose (entry_at s stretch.rd stretch.level (entry_number stretch.level stretch.base + n))) ≡ true
reached-more s stretch first k entry all is_first is_entry holds =
    all_below-more (λ n. can_be_set stretch.purpose (entry_at s stretch.rd stretch.level (entry_number stretch.level stretch.base + n))) k all
    (set-by s stretch first k entry true is_first is_entry holds)

-- each entry may be set
pub reached-all : (s : State) (stretch : Stretch) (top n : ℕ) → is_end stretch top ≡ true → n ≡ entry_number stretch.level (top - stretch.base)
    → all_below n (λ k. can_be_set stretch.purpose (entry_at s stretch.rd stretch.level (entry_number stretch.level stretch.base + k))) ≡ true
    → true ≡ is_reached s stretch top
reached-all s stretch top n ends whole all = rw (reached-is s stretch top, ends) (sym (rw whole at all))
