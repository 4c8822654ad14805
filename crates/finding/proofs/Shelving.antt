-- Orders that are taken at hand and put down: what is held of them stays.
use Rattle.finding.proofs.Common.{◌++◌, ◌∙◌, ◌∷◌, ◌≡◌, History, IsBegun, LeadsNowhere, List, [], ap, arith, length, opening, state_of, subst, sym}
use Rattle.std.proofs.Common.{IsTrue, subst₂}
use Rattle.std.proofs.lemmas.List.{length-append, nil_from_length}
use Rattle.std.proofs.lemmas.List.Elements.{All-cons, All-head, All-nil}
use Rattle.rmm_spec.specs.State.{State}
unfoldable pub use Rattle.spec_machine.specs.Whole.{state_in}
use Rattle.spec_machine.specs.declared.machine.Machine.{Machine}
unfoldable pub use Rattle.undo_log.specs.Patches.{state_at}
use Rattle.undo_log.specs.Patches.{IsWhole, Standing, patched, standing_of}
use Rattle.finding.specs.Begun.{AllLost, AllShelved, AreOrders, HoldsOf, IsBegunAt, IsLost, IsLostAt, IsShelved, IsShelvedLost, OrdersLost, state_from}
use Rattle.finding.specs.Front.{IsFront}
use Rattle.finding.specs.declared.begun.Begun.{Begun}
use Rattle.finding.specs.declared.front.Front.{Front}
use Rattle.finding.specs.declared.shelved.Orders.{Orders}
use Rattle.finding.specs.declared.shelved.Shelved.{Shelved}
use Rattle.finding.proofs.BegunLaws.{Holds-nil}

-- the state of what a machine keeps is the machine's
pub state_at-standing : (machine : Machine) → state_at (standing_of machine) ≡ state_of machine
unfolding state_at state_in
state_at-standing machine = λ i. state_of machine

-- what a machine keeps is whole
pub standing-whole : (machine : Machine) → IsWhole (standing_of machine)
standing-whole machine = machine.shaped

module _ (base : Standing) (order : Shelved) (begun : Begun) (there : standing_of begun.machine ≡ patched order.patch base) where
  -- the state at hand is the one that the patch leads to
  pub state-there : state_of begun.machine ≡ state_from base order
  state-there = sym (state_at-standing begun.machine) ∙ ap state_at there

  module _ (history : History) (front : begun.front ≡ order.front) where
    -- what is held of the one is held of the other
    pub IsBegun-shelved : IsBegunAt history order.front (state_from base order) → IsBegun history begun
    IsBegun-shelved is = subst₂ (IsBegunAt history) (sym front) (sym state-there) is

    pub IsShelved-begun : IsBegun history begun → IsShelved history base order
    IsShelved-begun is = record {
      whole = subst IsWhole there (standing-whole begun.machine);
      begun = subst₂ (IsBegunAt history) front state-there is;
    }

    pub IsLost-shelved : IsShelvedLost history base order → IsLost history begun
    IsLost-shelved lost = subst₂ (λ (f : Front) (s : State). IsLostAt history f.counts s) (sym front) (sym state-there) lost

    pub IsShelvedLost-begun : IsLost history begun → IsShelvedLost history base order
    IsShelvedLost-begun lost = subst₂ (λ (f : Front) (s : State). IsLostAt history f.counts s) front state-there lost

-- an order that two patches lead to, each from its base
module _ (history : History) (base other : Standing) (one two : Shelved) (front : two.front ≡ one.front)
    (there : patched two.patch other ≡ patched one.patch base) where
  -- is one by both
  pub IsShelved-moved : IsShelved history base one → IsShelved history other two
  IsShelved-moved is = record {
    whole = subst IsWhole (sym there) is.whole;
    begun = subst₂ (IsBegunAt history) (sym front) (sym (ap state_at there)) is.begun;
  }

  -- and leads nowhere by both
  pub IsShelvedLost-moved : IsShelvedLost history base one → IsShelvedLost history other two
  IsShelvedLost-moved lost =
      subst₂ (λ (f : Front) (s : State). IsLostAt history f.counts s) (sym front) (sym (ap state_at there)) lost

-- where there is one order, the fact holds as soon as it leads nowhere
pub AreOrders-one : (history : History) (orders : Orders) (order : Shelved) (covered : Type 0) → orders.begun.items ≡ order ∷ []
    → IsShelved history (standing_of orders.machine) order → (IsShelvedLost history (standing_of orders.machine) order → covered)
    → AreOrders history orders covered
AreOrders-one history orders order covered one is covers = record {
  shelved = subst (AllShelved history (standing_of orders.machine)) (sym one)
      (All-cons (IsShelved history (standing_of orders.machine)) order [] is (All-nil (IsShelved history (standing_of orders.machine))));
  covers = λ lost.
      covers (All-head (IsShelvedLost history (standing_of orders.machine)) order []
      (subst (AllLost history (standing_of orders.machine)) one lost.begun));
}

-- the one order was taken at hand, and gone on with
module _ (history : History) (old new : Orders) (rest : List Shelved) (before : Shelved) (begun : Begun)
    (one : length old.begun.items ≡ 1) (are : old.begun.items ≡ rest ++ before ∷ []) (front : begun.front ≡ before.front)
    (there : standing_of begun.machine ≡ patched before.patch (standing_of old.machine)) where
  -- there was no other
  rest-none : rest ≡ []
  rest-none = nil_from_length rest (omega (arith, ap length are, length-append rest (before ∷ []), one))

  -- where it leads nowhere, all did
  OrdersLost-begun : IsTrue old.complete → IsLost history begun → OrdersLost history old
  OrdersLost-begun complete lost = record {
    complete = complete;
    begun = subst (AllLost history (standing_of old.machine)) (sym (are ∙ ap (λ (xs : List Shelved). xs ++ before ∷ []) rest-none))
        (All-cons (IsShelvedLost history (standing_of old.machine)) before []
        (IsShelvedLost-begun (standing_of old.machine) before begun there history front lost)
        (All-nil (IsShelvedLost history (standing_of old.machine))));
  }

  -- it is kept where the machine is
  pub AreOrders-advanced : (grown : Begun) (after : Shelved) → IsBegun history grown → (IsLost history grown → IsLost history begun)
      → new.begun.items ≡ rest ++ after ∷ [] → new.complete ≡ old.complete → grown.front ≡ after.front
      → standing_of grown.machine ≡ patched after.patch (standing_of new.machine)
      → AreOrders history new (OrdersLost history old)
  AreOrders-advanced grown after is lost items complete kept at =
      let base = standing_of new.machine in
      let alone = items ∙ ap (λ (xs : List Shelved). xs ++ after ∷ []) rest-none in
      record {
        shelved = subst (AllShelved history base) (sym alone)
            (All-cons (IsShelved history base) after [] (IsShelved-begun base after grown at history kept is) (All-nil (IsShelved history base)));
        covers = λ all. OrdersLost-begun (subst IsTrue complete all.complete)
            (lost (IsLost-shelved base after grown at history kept
            (All-head (IsShelvedLost history base) after [] (subst (AllLost history base) alone all.begun))));
      }

  -- none is left of it
  pub AreOrders-refused : IsLost history begun → new.begun.items ≡ rest → new.complete ≡ old.complete → AreOrders history new (OrdersLost history old)
  AreOrders-refused lost items complete = record {
    shelved = subst (AllShelved history (standing_of new.machine)) (sym (items ∙ rest-none)) (All-nil (IsShelved history (standing_of new.machine)));
    covers = λ all. OrdersLost-begun (subst IsTrue complete all.complete) lost;
  }

-- the machine is at the start, and the patch leads nowhere else
module _ (history : History) (machine : Machine) (order : Shelved) (front : IsFront history order.front)
    (counts : order.front.counts ≡ 0 ∷ 0 ∷ 0 ∷ 0 ∷ 0 ∷ 0 ∷ 0 ∷ 0 ∷ []) (opens : state_of machine ≡ opening history.config)
    (none : patched order.patch ≡ (λ s. s)) where
  -- no call stands in the order
  holds-nil : HoldsOf history order.front.counts (state_from (standing_of machine) order) []
  holds-nil =
      Holds-nil history order.front.counts (state_from (standing_of machine) order) counts
      (ap (λ (f : Standing → Standing). state_at (f (standing_of machine))) none ∙ state_at-standing machine ∙ opens)

  -- it is one
  pub IsShelved-nil : IsShelved history (standing_of machine) order
  IsShelved-nil = record {
    whole = subst (λ (f : Standing → Standing). IsWhole (f (standing_of machine))) (sym none) (standing-whole machine);
    begun = record { front = front; lines = []; holds = holds-nil };
  }

  -- where it leads nowhere, the empty order does
  pub nowhere-nil : IsShelvedLost history (standing_of machine) order → LeadsNowhere history []
  nowhere-nil lost = lost.nowhere [] holds-nil
