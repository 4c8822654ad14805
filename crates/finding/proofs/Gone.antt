-- What follows from how far an order went on.
use Rattle.finding.proofs.Common.{◌∷◌, ◌≡◌, History, [], refl, subst, sym, ℕ}
use Rattle.std.proofs.lemmas.List.Elements.{All-cons, All-nil}
use Rattle.finding.specs.Begun.{AllReturned, HasReturned, IsLost}
use Rattle.finding.specs.Going.{IsAhead, IsGone}
use Rattle.finding.specs.declared.begun.Begun.{Begun}
use Rattle.finding.specs.declared.front.Front.{Front}
use Rattle.finding.specs.declared.going.Went.{Went}
use Rattle.finding.specs.declared.going.Went.TheVariants.{Lost, Short, UpTo}
use Rattle.finding.specs.declared.shelved.Orders.{Orders}
use Rattle.finding.specs.declared.shelved.Shelved.{Shelved}

module _ (history : History) (old new : Begun) where
  -- where one is left that leads nowhere, the order did
  pub gone_covers : (went : Went) → ((place : ℕ) → went ≡ Lost place → ⊥) → IsGone history old new went → IsLost history new → IsLost history old
  gone_covers (UpTo place) left gone = gone.0
  gone_covers (Short place) left gone = gone
  gone_covers (Lost place) left gone = absurd (left place refl)

  -- each call that returned up to there stands in the one order that is kept of it
  pub gone_ahead : (orders : Orders) (after : Shelved) (went : Went) → orders.begun.items ≡ after ∷ [] → new.front ≡ after.front
      → ((place : ℕ) → went ≡ Lost place → ⊥) → IsGone history old new went → IsAhead history orders went
  gone_ahead orders after (UpTo place) one front left gone =
      let has = λ (order : Shelved). HasReturned history order.front.counts place in
      subst (λ items. AllReturned history items place) (sym one)
      (All-cons has after [] (subst (λ (f : Front). HasReturned history f.counts place) front gone.1) (All-nil has))
  gone_ahead orders after (Short place) one front left gone = tt
  gone_ahead orders after (Lost place) one front left gone = absurd (left place refl)
