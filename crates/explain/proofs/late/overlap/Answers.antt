-- By both orders.
use Rattle.std.proofs.Common.{◌≡◌, true, false}
use Rattle.explain.proofs.Lates.{not_both, not_if}
use Rattle.explain.proofs.late.overlap.Goals as goal

pub returns-then-not-is_before : goal.returns-then-not-is_before
returns-then-not-is_before c h cpu number other_cpu other is_history one also =
    let first = c.if-not-is_before.ensures h cpu number other_cpu other is_history one also in
    let second = c.is_before-then-not-is_before.ensures h other_cpu other cpu number is_history also one in (
      λ test. (
        λ returns. let bad : false ≡ true = first.1 returns in cc,
        λ returns. not_both c.is_before-then-not-is_before.result test (second.1 returns),
      ),
      λ overlaps. not_if c.is_before-then-not-is_before.result (λ test. overlaps.1 (second.0 test)),
    )
