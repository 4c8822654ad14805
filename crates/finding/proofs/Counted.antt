-- How many calls of each CPU stand in an order.
use Rattle.finding.proofs.Common.{◌++◌, ◌+◌, ◌<◌, ◌∙◌, ◌∷◌, ◌≡◌, ◌≤◌, History, IsHistory, Line, List, State, [], ap, arith, cases_lt, cpu_named, inl, inr, length, refl, sym, ℕ}
use Rattle.std.proofs.Common.{◌≢◌, zero, suc, get_or, set, get_or-set_same, get_or-set_other}
use Rattle.std.proofs.lemmas.Bool.Decides.{eqb_tells}
use Rattle.std.proofs.lemmas.List.{length-set}
use Rattle.spec_lemmas.proofs.Places.{call_is_event}
use Rattle.verdict_laws.specs.Order.{count_of, Reaches}
use Rattle.verdict_laws.proofs.Counts.{count_of-same, count_of-other, count_of-nil}
use Rattle.finding.specs.Counts.{AreCounts}

-- no line
pub AreCounts-nil : AreCounts (0 ∷ 0 ∷ 0 ∷ 0 ∷ 0 ∷ 0 ∷ 0 ∷ 0 ∷ []) []
AreCounts-nil = record {
  size = refl;
  each = λ cpu within. zeros cpu ∙ sym (count_of-nil cpu);
}
  where
    zeros : (cpu : ℕ) → get_or {A = ℕ} (0 ∷ 0 ∷ 0 ∷ 0 ∷ 0 ∷ 0 ∷ 0 ∷ 0 ∷ []) cpu 0 ≡ 0
    zeros zero = refl
    zeros (suc zero) = refl
    zeros (suc (suc zero)) = refl
    zeros (suc (suc (suc zero))) = refl
    zeros (suc (suc (suc (suc zero)))) = refl
    zeros (suc (suc (suc (suc (suc zero))))) = refl
    zeros (suc (suc (suc (suc (suc (suc zero)))))) = refl
    zeros (suc (suc (suc (suc (suc (suc (suc zero))))))) = refl
    zeros (suc (suc (suc (suc (suc (suc (suc (suc cpu)))))))) = refl

-- one line more
pub AreCounts-push : (counts : List ℕ) (lines : List Line) (line : Line) (cpu count : ℕ) → AreCounts counts lines → cpu_named line ≡ cpu → cpu < 8
    → count ≡ count_of cpu lines + 1 → AreCounts (set counts cpu count) (lines ++ line ∷ [])
AreCounts-push counts lines line cpu count are of_cpu within counted = record {
  size = length-set counts cpu count ∙ are.size;
  each = λ other inside. elim (eqb_tells (cpu_named line) other) [
    | inl same ↦
        let at : cpu ≡ other = sym of_cpu ∙ same.1 in
        let size = are.size in
        let lt : cpu < length counts = omega (arith, size, within) in
        ap (λ (c : ℕ). get_or (set counts cpu count) c 0) (sym at) ∙ get_or-set_same counts cpu count 0 lt ∙ counted
        ∙ ap (λ (c : ℕ). count_of c lines + 1) at ∙ sym (count_of-same other lines line same.1)
    | inr differ ↦
        let ne : other ≢ cpu = λ at. differ.1 (of_cpu ∙ sym at) in
        get_or-set_other counts cpu other count 0 ne ∙ are.each other inside ∙ sym (count_of-other other lines line differ.0)
  ];
}

module _ (history : History) (is_history : IsHistory history) (lines : List Line) (state : State) (reached : Reaches history lines state) where
  -- lines name calls of the machine's CPUs alone
  no_calls : (cpu : ℕ) → 8 ≤ cpu → count_of cpu lines ≡ 0
  no_calls cpu past = elim (cases_lt 0 (count_of cpu lines)) [
    | inl some ↦
        let named = reached.first cpu 0 some in
        let known = reached.passes.names.known named.0 named.1 named.2 in
        let event = call_is_event history known.0 _ _ known.1 is_history known.2 in
        let within = event.0 in
        let of_cpu = named.3 in
        let most = is_history.config.most_cpus in
        absurd (omega (arith, past, within, of_cpu, most))
    | inr none ↦ omega (arith, none)
  ]

-- two orders of the same counts have as many calls of each CPU
pub same_counts : (history : History) → IsHistory history → (one other : List Line) (state end : State)
    → Reaches history one state → Reaches history other end
    → (counts : List ℕ) → AreCounts counts one → AreCounts counts other → (cpu : ℕ) → count_of cpu one ≡ count_of cpu other
same_counts history is_history one other state end reached also counts are others cpu = elim (cases_lt cpu 8) [
  | inl within ↦ sym (are.each cpu within) ∙ others.each cpu within
  | inr past ↦ no_calls history is_history one state reached cpu past ∙ sym (no_calls history is_history other end also cpu past)
]
