-- Orders that are taken into a round.
use Rattle.finding.proofs.Common.{◌++◌, ◌∙◌, ◌∷◌, ◌≡◌, AllLost, History, IsRound, IsTrue, List, None, Option, RoundLost, Some, [], arith, length, subst, sym}
use Rattle.std.proofs.lemmas.List.Elements.{All-pop, All-push}
use Rattle.std.proofs.Common.{◌≤◌, ℕ, false}
use Rattle.std.specs.Option.{IfSome}
use Rattle.std.proofs.lemmas.Bool.{false≢true}
use Rattle.verdict_laws.specs.Unread.{ReadsNothing}
use Rattle.undo_log.specs.Patches.{Standing, patched, standing_of}
use Rattle.spec_machine.specs.declared.machine.Machine.{Machine}
use Rattle.finding.specs.Begun.{AllShelved, AreOrders, Covers, IsLost, IsShelved, IsShelvedLost, OrdersLost, base_of}
use Rattle.finding.specs.Survey.{IsFurther}
use Rattle.finding.specs.declared.begun.Begun.{Begun}
use Rattle.finding.specs.declared.forward.Further.{Further}
use Rattle.finding.specs.declared.forward.Further.TheVariants.{Kept, Lost, Undecided}
use Rattle.finding.specs.declared.round.Round.{Round}
use Rattle.finding.specs.declared.scope.Scope.{Scope}
use Rattle.finding.specs.declared.shelved.Orders.{Orders}
use Rattle.finding.specs.declared.shelved.Shelved.{Shelved}
use Rattle.finding.proofs.Shelving.{IsShelvedLost-begun}

-- no order
pub AllLost-none : (history : History) (base : Standing) (orders : List Shelved) → length orders ≡ 0 → AllLost history base orders
AllLost-none history base orders none = λ k d within. absurd (omega (arith, within, none))

-- one more order
pub AllShelved-push : (history : History) (base : Standing) (old new : List Shelved) (order : Shelved)
    → new ≡ old ++ order ∷ [] → AllShelved history base old → IsShelved history base order
    → AllShelved history base new
AllShelved-push history base old new order are all is =
    subst (AllShelved history base) (sym are) (All-push (IsShelved history base) old order all is)

pub AllLost-push : (history : History) (base : Standing) (old new : List Shelved) (order : Shelved) → new ≡ old ++ order ∷ []
    → AllLost history base old → IsShelvedLost history base order
    → AllLost history base new
AllLost-push history base old new order are all is =
    subst (AllLost history base) (sym are) (All-push (IsShelvedLost history base) old order all is)

-- the last one, and the others
pub AllLost-pop : (history : History) (base : Standing) (old new : List Shelved) (order : Shelved) → old ≡ new ++ order ∷ []
    → AllLost history base old
    → AllLost history base new × IsShelvedLost history base order
AllLost-pop history base old new order are all = All-pop (IsShelvedLost history base) old new (Some order) are all

pub AllShelved-pop : (history : History) (base : Standing) (old new : List Shelved) (order : Shelved) → old ≡ new ++ order ∷ []
    → AllShelved history base old
    → AllShelved history base new × IsShelved history base order
AllShelved-pop history base old new order are all = All-pop (IsShelved history base) old new (Some order) are all

module _ (history : History) (base : Standing) (old new : Round) (order : Shelved) where
  -- one that has the call
  module _ (lacking : new.lacking.items ≡ old.lacking.items) (next : new.next.items ≡ old.next.items ++ order ∷ []) where
    pub IsRound-next : new.scope ≡ old.scope → IsRound history base old → IsShelved history base order → IsRound history base new
    IsRound-next scope round is = record {
      whole = round.whole;
      unread = subst (λ (s : Scope). IsTrue s.unread → ReadsNothing history.events) (sym scope) round.unread;
      lacking = subst (AllShelved history base) (sym lacking) round.lacking;
      next = AllShelved-push history base old.next.items new.next.items order next round.next is;
    }

    pub Covers-next : new.complete ≡ old.complete → Covers history base old new
    Covers-next complete lost = record {
      complete = subst IsTrue complete lost.complete;
      lacking = subst (AllLost history base) lacking lost.lacking;
      next = (AllLost-pop history base new.next.items old.next.items order next lost.next).0;
    }

    pub taken-next : RoundLost history base new → IsShelvedLost history base order
    taken-next lost = (AllLost-pop history base new.next.items old.next.items order next lost.next).1

  -- one that lacks it
  module _ (lacking : new.lacking.items ≡ old.lacking.items ++ order ∷ []) (next : new.next.items ≡ old.next.items) where
    pub IsRound-lacking : new.scope ≡ old.scope → IsRound history base old → IsShelved history base order → IsRound history base new
    IsRound-lacking scope round is = record {
      whole = round.whole;
      unread = subst (λ (s : Scope). IsTrue s.unread → ReadsNothing history.events) (sym scope) round.unread;
      lacking = AllShelved-push history base old.lacking.items new.lacking.items order lacking round.lacking is;
      next = subst (AllShelved history base) (sym next) round.next;
    }

    pub Covers-lacking : new.complete ≡ old.complete → Covers history base old new
    Covers-lacking complete lost = record {
      complete = subst IsTrue complete lost.complete;
      lacking = (AllLost-pop history base new.lacking.items old.lacking.items order lacking lost.lacking).0;
      next = subst (AllLost history base) next lost.next;
    }

    pub taken-lacking : RoundLost history base new → IsShelvedLost history base order
    taken-lacking lost = (AllLost-pop history base new.lacking.items old.lacking.items order lacking lost.lacking).1

-- one is left out, so that nothing is known of the round where the others lead nowhere
module _ (history : History) (base : Standing) (old new : Round) (left : new.complete ≡ false) where
  unfinished : RoundLost history base new → ⊥
  unfinished lost = false≢true (sym left ∙ lost.complete)

  pub IsRound-left : new.scope ≡ old.scope → new.lacking.items ≡ old.lacking.items → new.next.items ≡ old.next.items
      → IsRound history base old → IsRound history base new
  IsRound-left scope lacking next round = record {
    whole = round.whole;
    unread = subst (λ (s : Scope). IsTrue s.unread → ReadsNothing history.events) (sym scope) round.unread;
    lacking = subst (AllShelved history base) (sym lacking) round.lacking;
    next = subst (AllShelved history base) (sym next) round.next;
  }

  pub Covers-left : Covers history base old new
  Covers-left lost = absurd (unfinished lost)

  pub taken-left : (P : Type 0) → RoundLost history base new → P
  taken-left P lost = absurd (unfinished lost)

-- an order of the old round is taken at hand, the ones that are longer are taken, and the machine is back
module _ (history : History) (base : Standing) (old new : Round) (begun : Begun) (same : base_of begun ≡ base) where
  pub IsRound-back : IsRound history (base_of begun) new → IsRound history base new
  IsRound-back round = subst (λ (b : Standing). IsRound history b new) same round

  RoundLost-there : RoundLost history base new → RoundLost history (base_of begun) new
  RoundLost-there lost = subst (λ (b : Standing). RoundLost history b new) (sym same) lost

  pub Covers-back : Covers history (base_of begun) old new → Covers history base old new
  Covers-back covers = λ lost. subst (λ (b : Standing). RoundLost history b old) same (covers (RoundLost-there lost))

  pub taken-back : (order : Shelved) → standing_of begun.machine ≡ patched order.patch base → begun.front ≡ order.front
      → (RoundLost history (base_of begun) new → IsLost history begun) → RoundLost history base new → IsShelvedLost history base order
  taken-back order there front taken =
      λ lost. IsShelvedLost-begun base order begun there history front (taken (RoundLost-there lost))

-- what the orders before a return cover, those with its call do
pub AreOrders-next : (history : History) (kept next : Orders) (covered : Type 0)
    → AreOrders history kept covered → AreOrders history next (OrdersLost history kept) → AreOrders history next covered
AreOrders-next history kept next covered are further = record { shelved = further.shelved; covers = λ lost. are.covers (further.covers lost) }

-- as those that were sorted do
pub AreOrders-sorted : (history : History) (kept ahead : Orders) (round : Round) (machine : Machine) (next : Option Orders)
    → standing_of machine ≡ standing_of ahead.machine → AreOrders history ahead (OrdersLost history kept)
    → (RoundLost history (standing_of ahead.machine) round → OrdersLost history ahead)
    → IfSome next (λ orders. AreOrders history orders (RoundLost history (standing_of machine) round))
    → IfSome next (λ orders. AreOrders history orders (OrdersLost history kept))
AreOrders-sorted history kept ahead round machine None same are sorted further = tt
AreOrders-sorted history kept ahead round machine (Some next) same are sorted further = record {
  shelved = further.shelved;
  covers = λ lost. are.covers (sorted (subst (λ (b : Standing). RoundLost history b round) same (further.covers lost)));
}

-- what is found of orders that are further than others is found of those
pub IsFurther-before : (history : History) (kept ahead : Orders) (bound until : ℕ) → AreOrders history ahead (OrdersLost history kept) → bound ≤ until
    → (found : Further) → IsFurther history ahead bound found → IsFurther history kept until found
IsFurther-before history kept ahead bound until are below (Lost place) is = are.covers is
IsFurther-before history kept ahead bound until are below (Kept orders place) is =
    let within = is.2 in (AreOrders-next history ahead orders (OrdersLost history kept) are is.0, is.1, omega (arith, within, below))
IsFurther-before history kept ahead bound until are below (Undecided place) is = tt
