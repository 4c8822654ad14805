-- Word by word.
use Rattle.explain.proofs.Common.{◌∙◌, ◌≡◌, arith, cases_lt, false, inl, inr, refl, slice_get, subst, sym, true, ℕ}
use Rattle.explain.proofs.Words.{same_short}
use Rattle.explain.proofs.deciding.first_wrong.Goals as goal

pub loop-i-preserved : goal.loop-i-preserved
loop-i-preserved c k below = elim (cases_lt k c.loop-i.i) [
  | inl old ↦ c.loop-i.invariant k old
  | inr new ↦
      let same : c.loop-i.i ≡ k = omega (arith, new, below) in
      subst (λ (n : ℕ). slice_get c.args.claimed.now n ≡ slice_get c.args.specified.now n) same
      (sym c.word_at-one.ensures ∙ c.if-not-are_same.ensures.0 refl ∙ c.word_at-other.ensures)
]

pub returns-then-not-are_same : goal.returns-then-not-are_same
returns-then-not-are_same c = record {
  is_claimed = sym c.word_at-one.ensures;
  is_specified = sym c.word_at-other.ensures;
  apart = λ same. absurd (let bad : false ≡ true = c.if-not-are_same.ensures.1 same in cc);
  first = c.loop-i.invariant;
}

pub unreachable-requires : goal.unreachable-requires
unreachable-requires c =
    c.requires.apart (sym (same_short 10 c.args.claimed.now c.args.specified.now c.requires.few c.requires.little
    (λ k below. c.loop-i.invariant k (omega (arith, below, c.loop-i-test.false)))))
