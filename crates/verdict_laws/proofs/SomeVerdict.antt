-- Of each two texts some verdict is right.
use Rattle.verdict_laws.proofs.Common.{◌≡◌, ℕ, zero, suc, ◌+◌, ◌-◌, ◌<◌, Bool, true, false, ◌⊎◌, inl, inr, List, [], ◌∷◌, length, if◌then◌else◌, ◌==◌, refl, ap, subst, arith}
use Rattle.rmm_spec.specs.declared.verdict.Verdict.{Verdict}
use Rattle.rmm_spec.specs.declared.verdict.Verdict.TheVariants as verdict
use Rattle.rmm_spec.specs.CertificateText.{InCertificates}
use Rattle.rmm_spec.specs.HistoryText.{InHistories}
use Rattle.rmm_spec.specs.Judgement.{Judges}
use Rattle.rmm_spec.specs.Text.{first_lines, IsBadLine}
use Rattle.checker.proofs.Verdicts.{Judges-from_order}
use Rattle.verdict_laws.proofs.Decisions.{Decided, decided_not, decided_both, decided_lt, holds_surely, IsFirst, first_below}
use Rattle.verdict_laws.proofs.Grammars.{decided_InCertificates, decided_InHistories}
use Rattle.verdict_laws.proofs.Orders.{judged_order}

-- one byte more, whether or not it ends a line
first_lines_all-byte : (ends : Bool) (n : ℕ) (text : List ℕ) → length text < n → ((k : ℕ) → length text < k → first_lines k text ≡ text)
    → first_lines (if ends then n else suc n) text ≡ text
first_lines_all-byte true n text more each = each n more
first_lines_all-byte false n text more each = each (suc n) (omega (arith, more))

-- more first lines than there are bytes are the text
first_lines_all : (n : ℕ) (text : List ℕ) → length text < n → first_lines n text ≡ text
first_lines_all zero text more = absurd (omega (arith, more))
first_lines_all (suc n) [] more = refl
first_lines_all (suc n) (byte ∷ text) more =
    ap (λ bytes. byte ∷ bytes) (first_lines_all-byte (byte == 10) n text (omega (arith, more)) (λ k. first_lines_all k text))

-- line n is counted, and with it the first lines aren't in the grammar
abbrev EndsWrong : (List ℕ → Type 0) → List ℕ → ℕ → Type 0
EndsWrong Grammar text n = (0 < n) × (¬ Grammar (first_lines n text))

-- the first such line is bad
IsBadLine-first : (Grammar : List ℕ → Type 0) → ((text : List ℕ) → Decided (Grammar text)) → (text : List ℕ) (bound : ℕ)
    → (first : IsFirst (EndsWrong Grammar text) bound) → IsBadLine Grammar text first.at
IsBadLine-first Grammar decided text bound first = record {
  counted = first.holds.0;
  before = λ more.
      holds_surely (decided (first_lines (first.at - 1) text))
      (λ wrong. first.none_before (first.at - 1) (omega (arith, more)) (omega (arith, more), wrong));
  here = first.holds.1;
}

-- a text is in the grammar, or has a bad line
bad_line_or : (Grammar : List ℕ → Type 0) → ((text : List ℕ) → Decided (Grammar text)) → (text : List ℕ)
    → Grammar text ⊎ ((line : ℕ) × IsBadLine Grammar text line)
bad_line_or Grammar decided text =
    elim (first_below (EndsWrong Grammar text) (λ n. decided_both (decided_lt 0 n) (decided_not (decided (first_lines n text)))) (length text + 2)) [
      | inl first ↦ inr (first.at, IsBadLine-first Grammar decided text (length text + 2) first)
      | inr none ↦ inl (holds_surely (decided text) (λ wrong.
          none (length text + 1) (omega arith)
          (omega arith, λ given. wrong (subst Grammar (first_lines_all (length text + 1) text (omega arith)) given))))
    ]

-- the history's bad line, then the certificate's, then the order's verdict
pub a_verdict_exists : (history certificate : List ℕ) → (v : Verdict) × Judges v history certificate
a_verdict_exists history certificate = elim (bad_line_or InHistories decided_InHistories history) [
  | inr bad ↦ (verdict.HistoryFault bad.0, bad.1)
  | inl h ↦ elim (bad_line_or InCertificates decided_InCertificates certificate) [
    | inr bad ↦ (verdict.CertificateFault bad.0, (h, bad.1))
    | inl c ↦
        let told = judged_order h.0 h.1.is_history c.0 in
        (told.0, Judges-from_order told.0 history certificate h.0 c.0 h.1 c.1 told.1)
  ]
]
