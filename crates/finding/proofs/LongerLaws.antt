-- Lines that are tried behind an order, and the orders that are longer by them.
use Rattle.finding.proofs.Common.{◌++◌, ◌∙◌, ◌∷◌, ◌≡◌, History, List, Some, State, [], ap, arith, length, state_of, subst, sym, ℕ}
use Rattle.std.proofs.Common.{Bool, OnOk, Result, Ok, Err, subst₂}
use Rattle.std.proofs.lemmas.List.Elements.{All-pop, All-push}
use Rattle.undo_log.specs.Patches.{Standing, patched, standing_of, state_at}
use Rattle.finding.specs.Begun.{MayStand, state_from}
use Rattle.finding.specs.Waiting.{AllLeadNowhere, AllMayCome, LeadsNowhereWith, MayCome}
use Rattle.finding.specs.declared.begun.Begun.{Begun}
use Rattle.finding.specs.declared.candidate.Candidate.{Candidate}
use Rattle.finding.specs.declared.front.Front.{Front}
use Rattle.finding.specs.declared.left.Left.{Left}
use Rattle.finding.specs.declared.shelved.Shelved.{Shelved}
use Rattle.finding.proofs.Shelving.{state-there, state_at-standing}

-- a line that may stand behind the order may come next
pub MayCome-stands : (history : History) (begun : Begun) (group : ℕ → Bool) (old new : Left) (next : Candidate)
    → MayStand history begun group old next.choice next.line new → MayCome history begun.front.counts (state_of begun.machine) next
MayCome-stands history begun group old new next stands =
    record { call = stands.next; of_cpu = stands.of_cpu; numbered = stands.numbered; kind = stands.kind; soon = stands.soon }

module _ (base : Standing) (order : Shelved) (begun : Begun) (there : standing_of begun.machine ≡ patched order.patch base)
    (front : begun.front ≡ order.front) (P : Front → State → Type 0) where
  -- what is so of an order at hand is so of the one that is kept
  pub so_kept : P begun.front (state_of begun.machine) → P order.front (state_from base order)
  so_kept is = subst₂ P front (state-there base order begun there) is

  pub so_at_hand : P order.front (state_from base order) → P begun.front (state_of begun.machine)
  so_at_hand is = subst₂ P (sym front) (sym (state-there base order begun there)) is

-- what is so of an order at hand is so of it where it was put down and is at hand again
pub so_again : (old new : Begun) → standing_of new.machine ≡ standing_of old.machine → new.front ≡ old.front → (P : Front → State → Type 0)
    → P old.front (state_of old.machine) → P new.front (state_of new.machine)
so_again old new there front P is =
    subst₂ P (sym front) (sym (sym (state_at-standing new.machine) ∙ ap state_at there ∙ state_at-standing old.machine)) is

module _ (history : History) (counts : List ℕ) (state : State) (old new : List Candidate) (last : Candidate) (are : old ≡ new ++ last ∷ []) where
  -- the last line may come, and the others may
  pub AllMayCome-pop : AllMayCome history counts state old → AllMayCome history counts state new × MayCome history counts state last
  AllMayCome-pop all = All-pop (MayCome history counts state) old new (Some last) are all

  -- all lead nowhere where the others do and the last one does
  pub AllLeadNowhere-push : AllLeadNowhere history counts state new → LeadsNowhereWith history counts state last
      → AllLeadNowhere history counts state old
  AllLeadNowhere-push others nowhere =
      subst (AllLeadNowhere history counts state) (sym are) (All-push (LeadsNowhereWith history counts state) new last others nowhere)

  -- there is no other
  pub AllLeadNowhere-only : length new ≡ 0 → LeadsNowhereWith history counts state last → AllLeadNowhere history counts state old
  AllLeadNowhere-only none nowhere = AllLeadNowhere-push (λ k d within. absurd (omega (arith, within, none))) nowhere

-- what follows from two facts where it is `Ok`
pub on_ok_both : {X E P Q R : Type 0} (r : Result X E) → (P → Q → R) → OnOk r P → OnOk r Q → OnOk r R
on_ok_both (Ok x) f p q = f p q
on_ok_both (Err e) f p q = tt
