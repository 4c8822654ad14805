-- Lists of tokens and passes to which those of one more CPU come.
use Rattle.std.proofs.Common.{◌≡◌, ℕ, List, [], ◌∷◌, ◌++◌, length, Some, sym, ap, arith, ◌∙◌, subst, ◌⊎◌, inl, inr, ⊎_elim}
use Rattle.std.specs.Prelude.{slice_get}
use Rattle.std.proofs.lemmas.List.{length_push}
use Rattle.std.proofs.lemmas.Option.{slice_get_within}
use Rattle.commit_tickets.specs.View.{TokenView}
use Rattle.event_queue.specs.View.{CpuView}
use Rattle.monitor.specs.View.{MonitorView}
use Rattle.monitor.specs.Executed.{ArePaired}
use Rattle.monitor.specs.Cpus.{ArePairs}
use Rattle.lemmas.proofs.Elements.{slice_get-push_cases}

-- each token has the number of its place
abbrev pub AreNumbered : List TokenView → Type 0
AreNumbered tokens = (cpu : ℕ) (token : TokenView) → slice_get tokens cpu ≡ Some token → token.cpu ≡ cpu

pub numbered-push : (tokens : List TokenView) (token : TokenView)
    → AreNumbered tokens → token.cpu ≡ length tokens → AreNumbered (tokens ++ token ∷ [])
numbered-push tokens token old same cpu found at =
    ⊎_elim (λ (earlier : slice_get tokens cpu ≡ Some found). old cpu found earlier)
    (λ (last : (cpu ≡ length tokens) × (token ≡ found)). ap (λ (t : TokenView). t.cpu) (sym last.1) ∙ same ∙ sym last.0)
    (slice_get-push_cases tokens token cpu found at)

module _ (monitor : MonitorView) (tokens : List TokenView) (passes : List CpuView)
    (token : TokenView) (pass : CpuView) (old : ArePairs monitor tokens passes)
    (pair : ArePaired monitor token pass) where
  paired-both : (k : ℕ) (t : TokenView) (p : CpuView) → (slice_get tokens k ≡ Some t) ⊎ ((k ≡ length tokens) × (token ≡ t))
      → (slice_get passes k ≡ Some p) ⊎ ((k ≡ length passes) × (pass ≡ p)) → ArePaired monitor t p
  paired-both k t p (inl at) (inl pass_at) = old.each k t p at pass_at
  paired-both k t p (inl at) (inr last) = absurd (omega (arith, slice_get_within tokens k t at, last.0, old.same_count))
  paired-both k t p (inr last) (inl pass_at) = absurd (omega (arith, slice_get_within passes k p pass_at, last.0, old.same_count))
  paired-both k t p (inr last) (inr pass_last) = subst (λ x. ArePaired monitor x p) last.1 (subst (λ x. ArePaired monitor token x) pass_last.1 pair)

  pub pairs-push : ArePairs monitor (tokens ++ token ∷ []) (passes ++ pass ∷ [])
  pairs-push = record {
    same_count = omega (arith, old.same_count, length_push tokens token, length_push passes pass);
    each = λ k t p at pass_at. paired-both k t p (slice_get-push_cases tokens token k t at) (slice_get-push_cases passes pass k p pass_at);
  }
