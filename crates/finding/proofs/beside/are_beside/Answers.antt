-- By the REC that is entered, where one is.
use Rattle.std.proofs.Common.{◌≡◌, false, subst, sym, ◌∙◌, ℕ}
use Rattle.std.proofs.lemmas.Option.{none-some, same_Some}
use Rattle.verdict_laws.specs.Separate.{works_on}
use Rattle.finding.proofs.beside.are_beside.Goals as goal

pub returns-in-Some : goal.returns-in-Some
returns-in-Some c = λ elsewhere answered replied. record {
  enters = sym c.is_entry.ensures ∙ c.if-not-is_entry.false;
  works = sym c.is_work.ensures ∙ c.if-not-is_work.false;
  apart = λ rec is. subst (λ (g : ℕ). works_on c.args.work.now.call answered g ≡ false)
      (same_Some c.in-Some.rec rec (sym c.in-Some.is ∙ c.entered.ensures ∙ is))
      (c.works_elsewhere.ensures elsewhere answered replied);
}

pub returns-in-None : goal.returns-in-None
returns-in-None c = λ _ answered replied. record {
  enters = sym c.is_entry.ensures ∙ c.if-not-is_entry.false;
  works = sym c.is_work.ensures ∙ c.if-not-is_work.false;
  apart = λ rec is. absurd (none-some rec (sym c.in-None.is ∙ c.entered.ensures ∙ is));
}
