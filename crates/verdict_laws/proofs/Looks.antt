-- Open calls that may as well come behind the returning one needn't be put before it.
use Rattle.verdict_laws.proofs.Common.{◌≡◌, ℕ, zero, suc, ◌+◌, ◌<◌, ◌⊎◌, Bool, true, false, inl, inr, List, [], ◌∷◌, ◌++◌, length, Some, refl, sym, ◌∙◌, ap, subst, arith, append_assoc, slice_get, cases_Bool, Event, Line, History, IsHistory, State, IsLinearization, LeadsNowhere}
use Rattle.std.proofs.lemmas.List.{length-append}
use Rattle.rmm_laws.proofs.RunLaws.{run-append}
use Rattle.verdict_laws.proofs.Configurations.{nowhere_alike}
use Rattle.verdict_laws.proofs.Moves.{Each, Each-append, Each-at}
use Rattle.verdict_laws.proofs.Settled.{claimed-append, split_run}
use Rattle.verdict_laws.specs.Forward.{IsKept, AreOpen, Gives, IsMovable, IsLook, Passes}
use Rattle.verdict_laws.proofs.Counted.{count_of-append, count_of-behind, AreOpen-behind, AreOpen-front, AreOpen-swap}
use Rattle.verdict_laws.proofs.Growing.{IsKept-append}

-- what continues an order that leads nowhere leads nowhere
pub nowhere_further : (history : History) (lines more : List Line) → LeadsNowhere history lines → LeadsNowhere history (lines ++ more)
nowhere_further history lines more nowhere = record {
  none = λ rest valid. nowhere.none (more ++ rest) (subst (IsLinearization history) (append_assoc lines more rest) valid);
}

-- lines that are given in two parts, one after the other
pub record IsGivenBy (events : List Event) (old : State) (xs ys : List Line) (new : State) : Type 0 where
  pub middle : State
  pub first : Gives events old xs middle
  pub rest : Gives events middle ys new

pub Gives-split : (events : List Event) (old : State) (xs ys : List Line) (new : State) → Gives events old (xs ++ ys) new
    → IsGivenBy events old xs ys new
Gives-split events old xs ys new given =
    let parts = split_run events xs ys given.entries old new given.claimed given.run in
    record {
      middle = parts.middle;
      first = record { entries = parts.first; claimed = parts.claimed; run = parts.run };
      rest = record { entries = parts.rest; claimed = parts.later; run = parts.further };
    }

pub Gives-append : (events : List Event) (old : State) (xs ys : List Line) (middle new : State) → Gives events old xs middle
    → Gives events middle ys new → Gives events old (xs ++ ys) new
Gives-append events old xs ys middle new first rest = record {
  entries = first.entries ++ rest.entries;
  claimed = claimed-append events xs ys first.entries rest.entries first.claimed rest.claimed;
  run = run-append first.entries rest.entries old middle new first.run rest.run;
}

module _ (history : History) (is_history : IsHistory history) (place : ℕ)
    (lines : List Line) (state : State) (kept : IsKept history place lines state) where
  -- an order that puts a call in which may as well come last leads nowhere if the order without the call does
  pub nowhere_moved : (front ys : List Line) (x : Line) (new : State) → AreOpen history.events place lines (front ++ (x ∷ ys))
      → Gives history.events state (front ++ (x ∷ ys)) new → Gives history.events state (front ++ (ys ++ x ∷ [])) new
      → LeadsNowhere history (lines ++ (front ++ ys)) → LeadsNowhere history (lines ++ (front ++ (x ∷ ys)))
  nowhere_moved front ys x new are_open given moved nowhere =
      let behind = AreOpen-behind history.events place lines front ys x are_open in
      let one = IsKept-append history is_history place lines (front ++ (ys ++ x ∷ [])) state new kept behind moved in
      let other = IsKept-append history is_history place lines (front ++ (x ∷ ys)) state new kept are_open given in
      let whole : (lines ++ (front ++ ys)) ++ x ∷ [] ≡ lines ++ (front ++ (ys ++ x ∷ [])) =
      append_assoc lines (front ++ ys) (x ∷ []) ∙ ap (λ (ls : List Line). lines ++ ls) (append_assoc front ys (x ∷ [])) in
      nowhere_alike history is_history (lines ++ (front ++ (ys ++ x ∷ []))) (lines ++ (front ++ (x ∷ ys))) new one.reached other.reached
      (λ cpu.
      let here = count_of-append cpu lines (front ++ (ys ++ x ∷ [])) in
      let there = count_of-append cpu lines (front ++ (x ∷ ys)) in
      let same = count_of-behind cpu front ys x in
      omega (arith, here, there, same))
      (subst (λ (ls : List Line). LeadsNowhere history ls) whole (nowhere_further history (lines ++ (front ++ ys)) (x ∷ []) nowhere))

  -- of two open calls that exchange, the one behind the other leads nowhere where it does at once
  pub nowhere_either : (one other : Line) (new : State) → AreOpen history.events place lines (one ∷ other ∷ [])
      → Gives history.events state (one ∷ other ∷ []) new → Gives history.events state (other ∷ one ∷ []) new
      → LeadsNowhere history (lines ++ other ∷ []) → LeadsNowhere history ((lines ++ one ∷ []) ++ other ∷ [])
  nowhere_either one other new are_open given turned nowhere =
      subst (λ (ls : List Line). LeadsNowhere history ls) (sym (append_assoc lines (one ∷ []) (other ∷ [])))
      (nowhere_moved [] (other ∷ []) one new are_open given turned nowhere)

  -- a call that may as well come last needn't be put in, where shorter sequences lead nowhere
  fewer : (before : List Line) (last : Line) (new : State)
      → ((less : List Line) (middle : State) → length less < length before → AreOpen history.events place lines (less ++ last ∷ [])
      → Gives history.events state (less ++ last ∷ []) middle → LeadsNowhere history (lines ++ (less ++ last ∷ [])))
      → AreOpen history.events place lines (before ++ last ∷ []) → Gives history.events state (before ++ last ∷ []) new
      → IsMovable history.events state before last new → LeadsNowhere history (lines ++ (before ++ last ∷ []))
  fewer before last new shorter are_open given movable =
      let front = movable.front in
      let back = movable.back in
      let x = movable.line in
      let ys = back ++ last ∷ [] in
      let here : before ++ last ∷ [] ≡ front ++ (x ∷ ys) =
      ap (λ (ls : List Line). ls ++ last ∷ []) movable.whole ∙ append_assoc front (x ∷ back) (last ∷ []) in
      let there : front ++ (back ++ last ∷ x ∷ []) ≡ front ++ (ys ++ x ∷ []) =
      ap (λ (ls : List Line). front ++ ls) (sym (append_assoc back (last ∷ []) (x ∷ []))) in
      let without : front ++ ys ≡ (front ++ back) ++ last ∷ [] = sym (append_assoc front back (last ∷ [])) in
      let opened = subst (λ (ls : List Line). AreOpen history.events place lines ls) here are_open in
      let is_given = subst (λ (ls : List Line). Gives history.events state ls new) here given in
      let moved = subst (λ (ls : List Line). Gives history.events state ls new) there movable.moved in
      let aside = subst (λ (ls : List Line). AreOpen history.events place lines ls) (sym (append_assoc front ys (x ∷ [])))
      (AreOpen-behind history.events place lines front ys x opened) in
      let parts = Gives-split history.events state (front ++ ys) (x ∷ []) new
      (subst (λ (ls : List Line). Gives history.events state ls new) (sym (append_assoc front ys (x ∷ []))) moved) in
      let longer : length before ≡ length (front ++ (x ∷ back)) = ap (λ (ls : List Line). length ls) movable.whole in
      let counted : length (front ++ (x ∷ back)) ≡ length front + length (x ∷ back) = length-append front (x ∷ back) in
      let fewer_lines : length (front ++ back) ≡ length front + length back = length-append front back in
      let nowhere = shorter (front ++ back) parts.middle (omega (arith, longer, counted, fewer_lines))
      (subst (λ (ls : List Line). AreOpen history.events place lines ls) without
      (AreOpen-front history.events place lines (front ++ ys) (x ∷ []) aside))
      (subst (λ (ls : List Line). Gives history.events state ls parts.middle) without parts.first) in
      subst (λ (ls : List Line). LeadsNowhere history (lines ++ ls)) (sym here)
      (nowhere_moved front ys x new opened is_given moved
      (subst (λ (ls : List Line). LeadsNowhere history (lines ++ ls)) (sym without) nowhere))

  module _ (last : Line) (looks : (before : List Line) (new : State)
      → IsLook history place lines state before last new → LeadsNowhere history (lines ++ (before ++ last ∷ []))) where
    -- at most so many calls are put in
    few : (most : ℕ) (before : List Line) (new : State) → length before < most → AreOpen history.events place lines (before ++ last ∷ [])
        → Gives history.events state (before ++ last ∷ []) new → LeadsNowhere history (lines ++ (before ++ last ∷ []))
    few zero before new short are_open given = absurd (omega (arith, short))
    few (suc most) before new short are_open given = record {
      none = λ more valid.
          (looks before new (record {
            are_open = are_open;
            given = given;
            settled = λ movable.
                (fewer before last new (λ less middle is_less. few most less middle (omega (arith, short, is_less))) are_open given movable).none
                more valid;
          })).none more valid;
    }

    -- sequences with no call that may as well come last are enough
    pub nowhere_unless_looked : (before : List Line) (new : State) → AreOpen history.events place lines (before ++ last ∷ [])
        → Gives history.events state (before ++ last ∷ []) new → LeadsNowhere history (lines ++ (before ++ last ∷ []))
    nowhere_unless_looked before new = few (length before + 1) before new (omega arith)

  -- a call may come behind all that it passes
  passed : (front ys : List Line) (x : Line) (middle new : State) → AreOpen history.events place lines (front ++ (x ∷ ys))
      → Gives history.events state front middle → Gives history.events middle (x ∷ ys) new
      → ((i : ℕ) (y : Line) → slice_get ys i ≡ Some y → Passes history place lines state x y)
      → Gives history.events middle (ys ++ x ∷ []) new
  passed front [] x middle new are_open first rest passes = rest
  passed front (y ∷ ys) x middle new are_open first rest passes =
      let two = AreOpen-front history.events place lines (front ++ x ∷ y ∷ []) ys
      (subst (λ (ls : List Line). AreOpen history.events place lines ls) (sym (append_assoc front (x ∷ y ∷ []) ys)) are_open) in
      let parts = Gives-split history.events middle (x ∷ y ∷ []) ys new rest in
      let other = passes 0 y refl front middle parts.middle two first parts.first in
      let turned = Gives-split history.events middle (y ∷ []) (x ∷ []) parts.middle other in
      let whole : front ++ (y ∷ x ∷ ys) ≡ (front ++ y ∷ []) ++ (x ∷ ys) = sym (append_assoc front (y ∷ []) (x ∷ ys)) in
      Gives-append history.events middle (y ∷ []) (ys ++ x ∷ []) turned.middle new turned.first
      (passed (front ++ y ∷ []) ys x turned.middle new
      (subst (λ (ls : List Line). AreOpen history.events place lines ls) whole (AreOpen-swap history.events place lines front ys x y are_open))
      (Gives-append history.events state front (y ∷ []) middle turned.middle first turned.first)
      (Gives-append history.events turned.middle (x ∷ []) ys parts.middle new turned.rest parts.rest)
      (λ i z is. passes (suc i) z is))

  pub IsMovable-from_passes : (front back : List Line) (x last : Line) (new : State)
      → AreOpen history.events place lines ((front ++ x ∷ back) ++ last ∷ [])
      → Gives history.events state ((front ++ x ∷ back) ++ last ∷ []) new
      → ((i : ℕ) (y : Line) → slice_get (back ++ last ∷ []) i ≡ Some y → Passes history place lines state x y)
      → IsMovable history.events state (front ++ x ∷ back) last new
  IsMovable-from_passes front back x last new are_open given passes =
      let ys = back ++ last ∷ [] in
      let here : (front ++ x ∷ back) ++ last ∷ [] ≡ front ++ (x ∷ ys) = append_assoc front (x ∷ back) (last ∷ []) in
      let there : front ++ (ys ++ x ∷ []) ≡ front ++ (back ++ last ∷ x ∷ []) =
      ap (λ (ls : List Line). front ++ ls) (append_assoc back (last ∷ []) (x ∷ [])) in
      let parts = Gives-split history.events state front (x ∷ ys) new (subst (λ (ls : List Line). Gives history.events state ls new) here given) in
      let opened = subst (λ (ls : List Line). AreOpen history.events place lines ls) here are_open in
      record {
        front = front;
        line = x;
        back = back;
        whole = refl;
        moved = subst (λ (ls : List Line). Gives history.events state ls new) there
            (Gives-append history.events state front (ys ++ x ∷ []) parts.middle new parts.first
            (passed front ys x parts.middle new opened parts.first parts.rest passes));
      }

-- the last of some lines that is outside of a group
record LastOutside (inside : Line → Bool) (xs : List Line) : Type 0 where
  front : List Line
  line : Line
  back : List Line
  whole : xs ≡ front ++ line ∷ back
  is_outside : inside line ≡ false
  others : Each (λ other. inside other ≡ true) back

-- all are inside, or there is one
last_outside : (inside : Line → Bool) (xs : List Line) → Each (λ line. inside line ≡ true) xs ⊎ LastOutside inside xs
last_outside inside [] = inl tt
last_outside inside (x ∷ xs) = elim (last_outside inside xs) [
  | inr there ↦ inr (record {
    front = x ∷ there.front;
    line = there.line;
    back = there.back;
    whole = ap (λ (ls : List Line). x ∷ ls) there.whole;
    is_outside = there.is_outside;
    others = there.others;
  })
  | inl all ↦ elim (cases_Bool (inside x)) [
    | inl is_inside ↦ inl (is_inside, all)
    | inr is_outside ↦ inr (record { front = []; line = x; back = xs; whole = refl; is_outside = is_outside; others = all })
  ]
]

-- no call outside of a group is put in before one inside, where those outside pass those inside
pub stay_inside : (history : History) → IsHistory history → (place : ℕ) (lines : List Line) (state : State) → IsKept history place lines state
    → (inside : Line → Bool) (before : List Line) (last : Line) (new : State) → inside last ≡ true
    → ((line other : Line) → inside line ≡ false → inside other ≡ true → Passes history place lines state line other)
    → IsLook history place lines state before last new → Each (λ line. inside line ≡ true) before
stay_inside history is_history place lines state kept inside before last new is_inside passes look = elim (last_outside inside before) [
  | inl all ↦ all
  | inr there ↦
      let opened = subst (λ (ls : List Line). AreOpen history.events place lines (ls ++ last ∷ [])) there.whole look.are_open in
      let given = subst (λ (ls : List Line). Gives history.events state (ls ++ last ∷ []) new) there.whole look.given in
      let each = Each-append (λ line. inside line ≡ true) there.back (last ∷ []) there.others (is_inside, tt) in
      let movable = IsMovable-from_passes history is_history place lines state kept there.front there.back there.line last new opened given
      (λ i other is.
      passes there.line other there.is_outside (Each-at (λ line. inside line ≡ true) (there.back ++ last ∷ []) i other each is)) in
      absurd (look.settled (subst (λ (ls : List Line). IsMovable history.events state ls last new) (sym there.whole) movable))
]
