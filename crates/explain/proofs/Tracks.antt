-- One more state that was seen.
use Rattle.explain.proofs.Common.{◌+◌, ◌<◌, ◌∙◌, ◌≡◌, ◌≤◌, Bool, History, Line, List, Passes, State, arith, cases_lt, false, inl, inr, is_so, subst, sym, take, true, ℕ}
use Rattle.std.proofs.Common.{◌≢◌}
use Rattle.explain.specs.declared.track.Kept.{Kept}
use Rattle.explain.specs.declared.track.Turn.{Turn}
use Rattle.explain.specs.declared.watch.Watch.{Watch}
use Rattle.explain.specs.Track.{IsKept, IsTurn}
use Rattle.explain.specs.Watch.{At, is_there, showing, shown}

module _ (history : History) (lines : List Line) (w : Watch) (seen : ℕ) (s : State) (passes : Passes history (take seen lines) s) where
  -- said of the states so far and of this one
  At-next : (first : ℕ) (Says : State → Type 0) → ((count : ℕ) → first ≤ count → count < seen → At history lines count Says) → Says s
      → (count : ℕ) → first ≤ count → count < seen + 1 → At history lines count Says
  At-next first Says before here count from below = elim (cases_lt count seen) [
    | inl old ↦ before count from old
    | inr new ↦
        let same : seen ≡ count = omega (arith, new, below) in
        subst (λ (n : ℕ). At history lines n Says) same (s, passes, here)
  ]

  -- it is so there too
  pub IsTurn-so : (turn : Turn) → is_so s w ≡ true → IsTurn history lines w seen turn → IsTurn history lines w (seen + 1) turn
  IsTurn-so turn so is = record {
    so = At-next turn.since (λ (x : State). is_so x w ≡ true) is.so so;
    turned = is.turned;
    within = omega (arith, is.within);
  }

  -- it isn't
  pub IsTurn-not : (there : Bool) → is_so s w ≡ false → is_there s w ≡ there
      → IsTurn history lines w (seen + 1) (record { since = seen + 1; was_there = there })
  IsTurn-not there not_so is_there_so = record {
    so = λ count from below. absurd (let bad : ⊥ = omega (arith, from, below) in bad);
    turned = λ before is.
        let same : seen ≡ before = omega (arith, is) in
        subst (λ (n : ℕ). At history lines n (λ x. (is_so x w ≡ false) × (is_there x w ≡ there))) same (s, passes, (not_so, is_there_so));
    within = omega arith;
  }

  -- the same is seen
  pub IsKept-same : (kept : Kept) → shown s w ≡ showing kept.there kept.read.items
      → IsKept history lines w seen kept → IsKept history lines w (seen + 1) kept
  IsKept-same kept same is = record {
    read = At-next kept.set (λ (x : State). shown x w ≡ showing kept.there kept.read.items) is.read same;
    changed = is.changed;
    within = omega (arith, is.within);
  }

  -- something else
  pub IsKept-other : (old new : Kept)
      → shown s w ≡ showing new.there new.read.items → new.set ≡ seen → showing new.there new.read.items ≢ showing old.there old.read.items
      → IsKept history lines w seen old → IsKept history lines w (seen + 1) new
  IsKept-other old new here at other is = record {
    read = At-next new.set (λ (x : State). shown x w ≡ showing new.there new.read.items)
        (λ count from below. absurd (let bad : ⊥ = omega (arith, at, from, below) in bad)) here;
    changed = λ before next.
        let last = is.read before (omega (arith, is.within, at, next)) (omega (arith, at, next)) in
        (last.0, last.1, λ same. other (sym same ∙ last.2));
    within = omega (arith, at);
  }
