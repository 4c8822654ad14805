-- The greatest end of a stretch by whole entries.
use Rattle.std.proofs.Common.{◌≡◌, ℕ, ◌+◌, ◌-◌, ◌*◌, ◌/◌, ◌<◌, ◌≤◌, sym, ap, ◌∙◌, arith}
use Rattle.std.proofs.Math.Nat.{le-div_iff_mul-le, mul-le-mul_right}
use Rattle.rmm_spec.specs.declared.accepted.Stretch.{Stretch}
use Rattle.rmm_spec.specs.Walk.{entry_size}
use Rattle.finding.specs.Ends.{IsEnd}

-- an end by the last address has no more entries
fewer_entries : (stretch : Stretch) (end last size : ℕ) (is_end : IsEnd stretch end) → end ≤ last → size ≡ entry_size stretch.level → 0 < size
    → is_end.count ≤ (last - stretch.base) / size
fewer_entries stretch end last size is_end by sized some =
    let at : end ≡ stretch.base + is_end.count * size =
    is_end.is_end ∙ ap (λ (s : ℕ). stretch.base + is_end.count * s) (sym sized) in
    (le-div_iff_mul-le {k = size} {x = is_end.count} {y = last - stretch.base} some).1 (omega (arith, at, by))

-- so that it is no greater than the greatest
pub greatest_end : (stretch : Stretch) (end last size : ℕ) → IsEnd stretch end → end ≤ last → size ≡ entry_size stretch.level → 0 < size
    → end ≤ stretch.base + (last - stretch.base) / size * size
greatest_end stretch end last size is_end by sized some =
    let few = fewer_entries stretch end last size is_end by sized some in
    let at : end ≡ stretch.base + is_end.count * size =
    is_end.is_end ∙ ap (λ (s : ℕ). stretch.base + is_end.count * s) (sym sized) in
    omega (arith, at, mul-le-mul_right size few)

-- and there is none where no entry fits
pub no_end : (stretch : Stretch) (end last size : ℕ) → IsEnd stretch end → end ≤ last → size ≡ entry_size stretch.level → 0 < size
    → (last - stretch.base) / size ≡ 0 → ⊥
no_end stretch end last size is_end by sized some none =
    let few = fewer_entries stretch end last size is_end by sized some in
    let one = is_end.some in
    omega (arith, few, one, none)
