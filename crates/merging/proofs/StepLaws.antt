-- One more moment: what a CPU's phase tells, what is refused, and where all CPUs stand then.
use Rattle.merging.proofs.Common.{◌++◌, ◌+◌, ◌<◌, ◌∙◌, ◌∷◌, ◌≡◌, Happened, List, Some, Stand, [], ap, arith, events_from, length, lines_from, refl, returns_in, slice_get, slice_get_within, stand_at, stand_seen, stands_in, stands_with, starts, subst, suc, sym, take, zero, ℕ}
use Rattle.std.proofs.Common.{drop, get_or, set, take-append-drop, drop-cons, add-one}
use Rattle.std.proofs.lemmas.Option.{get_or_from_slice_get}
use Rattle.std.proofs.lemmas.List.{get_or-map}
use Rattle.rmm_spec.specs.Cell.{put}
use Rattle.merging.specs.Run.{start, stand_after}
use Rattle.merging.specs.Merge.{Walked, IsWalkedTo}
use Rattle.merging.specs.Refusals.{Refuses, IsRefused}
use Rattle.merging.specs.declared.cpu.Cpu.{Cpu}
use Rattle.merging.specs.declared.fault.Refusal.{Refusal}
use Rattle.merging.proofs.RunLaws.{stands_in-set}

-- ---- refusals

-- the elements before a place, that one, and the rest
pub cut_at : {X : Type 0} (xs : List X) (place : ℕ) (x : X) → slice_get xs place ≡ Some x → xs ≡ take place xs ++ x ∷ drop (place + 1) xs
cut_at xs place x is =
    sym (take-append-drop place xs)
    ∙ ap (λ rest. take place xs ++ rest)
    (drop-cons xs place x (slice_get_within xs place x is) ∙ (λ i. get_or_from_slice_get xs place x x is i ∷ drop (sym (add-one place) i) xs))

-- a walk that is refused next
pub IsRefused-next : (events : List Happened) (stamp : ℕ) (slot : Happened) (cpus : ℕ) (walked : Walked) (line : ℕ) (refusal : Refusal)
    → IsWalkedTo stamp events cpus walked → slice_get events stamp ≡ Some slot → line ≡ slot.line
    → Refuses cpus walked.events walked.lines (stand_at walked.stands slot.cpu) slot refusal → IsRefused cpus events line refusal
IsRefused-next events stamp slot cpus walked line refusal to is is_line refused =
    let before = take stamp events in
    record {
      before = before;
      slot = slot;
      later = drop (stamp + 1) events;
      are_slots = cut_at events stamp slot is;
      is_run = to.is_run;
      is_line = is_line;
      refused =
          let P = λ (h : ℕ) (l : ℕ) (s : Stand). Refuses cpus h l s slot refusal in
          subst (λ (s : Stand). P (length (events_from starts before)) (length (lines_from (λ cpu. returns_in cpu events) starts before)) s)
          (λ i. to.stands i slot.cpu)
          (subst (λ (n : ℕ). P (length (events_from starts before)) n (stand_at walked.stands slot.cpu)) to.lines
          (subst (λ (n : ℕ). P n walked.lines (stand_at walked.stands slot.cpu)) to.events refused));
    }

-- ---- CPUs

pub stands_in-at : (cpus : List Cpu) (at : ℕ) (cpu : Cpu)
    → at < length cpus → cpu ≡ get_or cpus at cpu → stand_at (stands_in cpus) at ≡ stand_seen cpu
stands_in-at cpus at cpu within is = get_or-map stand_seen cpus at cpu start within ∙ ap stand_seen (sym is)

-- before their first moment
pub stands_in-start : (cpus : List Cpu) → ((at : ℕ) (other : Cpu) → at < length cpus → stand_seen (get_or cpus at other) ≡ start)
    → stand_at (stands_in cpus) ≡ starts
stands_in-start cpus each = λ i other. own other i
  where
    own : (at : ℕ) → stand_at (stands_in cpus) at ≡ start
    own at = by_length cpus at each
      where
        by_length : (cs : List Cpu) (n : ℕ)
            → ((k : ℕ) (other : Cpu) → k < length cs → stand_seen (get_or cs k other) ≡ start) → stand_at (stands_in cs) n ≡ start
        by_length [] n all = refl
        by_length (c ∷ cs) zero all = all 0 c (let some : 0 < length (c ∷ cs) = omega arith in some)
        by_length (c ∷ cs) (suc n) all =
            by_length cs n (λ k other below. all (suc k) other (let more : suc k < length (c ∷ cs) = omega (arith, below) in more))

-- a CPU that has taken a moment
pub stands_in-advanced : (cpus : List Cpu) (at : ℕ) (cpu next : Cpu) (slot : Happened) → at ≡ slot.cpu → at < length cpus → cpu ≡ get_or cpus at cpu
    → stand_seen next ≡ stand_after (stand_seen cpu) slot → stand_at (stands_in (set cpus at next)) ≡ stands_with (stand_at (stands_in cpus)) slot
stands_in-advanced cpus at cpu next slot at_is within is next_is =
    let stand-is : stand_at (stands_in cpus) slot.cpu ≡ stand_seen cpu =
    ap (stand_at (stands_in cpus)) (sym at_is) ∙ stands_in-at cpus at cpu within is in
    let after : stand_seen next ≡ stand_after (stand_at (stands_in cpus) slot.cpu) slot =
    next_is ∙ ap (λ (s : Stand). stand_after s slot) (sym stand-is) in
    stands_in-set cpus at next within ∙ (λ i. put (stand_at (stands_in cpus)) (at_is i) (after i))
