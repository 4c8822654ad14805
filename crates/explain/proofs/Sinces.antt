-- What was kept says since when it is so.
use Rattle.explain.proofs.Common.{◌+◌, ◌<◌, ◌∙◌, ◌≡◌, ◌≤◌, Bool, History, IsHistory, Line, List, None, Option, Passes, Some, State, ap, arith, cases_lt, false, inl, inr, is_so, refl, subst, sym, take, true, ℕ}
use Rattle.std.proofs.Common.{◌≢◌, not, ◌||◌}
use Rattle.std.specs.Prelude.{IfNone, IfSome}
use Rattle.std.proofs.lemmas.Bool.{and_parts, both_ways}
use Rattle.reasons.specs.Tests.{stands}
use Rattle.reasons.specs.declared.named_call.EarlierStep.{EarlierStep}
use Rattle.explain.specs.declared.track.Track.{Track}
use Rattle.explain.specs.declared.watch.Watch.{Watch}
use Rattle.explain.specs.declared.watch.Watch.TheVariants as watch
use Rattle.explain.specs.Track.{IsTrack, since_told}
use Rattle.explain.specs.Watch.{IsEarlier, IsFrom, IsOfLife, IsSince, Throughout, is_there, showing, shown}
use Rattle.explain.proofs.Replaying.{same_state}

-- the step after which so many lines were taken, where there is one
pub record IsStepOf (history : History) (lines : List Line) (index count : ℕ) (told : Option EarlierStep) : Type 0 where
  pub some : IfSome told (λ earlier. (earlier.step ≡ count) × IsEarlier history lines (index + 1) earlier)
  pub none : IfNone told (count ≡ 0)

-- what is so somewhere and not elsewhere is there
there-so : (s other : State) (w : Watch) → is_so s w ≡ true → is_so other w ≡ false → is_there s w ≡ true
unfolding is_so is_there
there-so s other (watch.Condition test standing) so not_so = (and_parts (stands s test || not standing) _ so).0
there-so s other (watch.Accepted cpu command) so not_so = refl
there-so s other (watch.Read source) so not_so = absurd cc

module _ (history : History) (is_history : IsHistory history) (lines : List Line) (index : ℕ) (w : Watch) (last : State)
    (passes : Passes history (take index lines) last) (so : is_so last w ≡ true)
    (track : Track) (is : IsTrack history lines w (index + 1) track) where
  -- it is so at the end
  pub since-within : track.turn.since ≤ index
  since-within = elim (cases_lt index track.turn.since) [
    | inl late ↦
        let at = is.turn.turned index (omega (arith, late, is.turn.within)) in
        let same = same_state history is_history (take index lines) last at.0 passes at.1 in
        absurd (both_ways (is_so last w) (subst (λ (s : State). is_so s w ≡ false) (sym same) at.2.0) so)
    | inr within ↦ within
  ]

  from_turn : (earlier : EarlierStep) → earlier.step ≡ track.turn.since
      → IsEarlier history lines (index + 1) earlier → (there : Bool) → track.turn.was_there ≡ there
      → IsFrom history lines index (Some earlier) (λ s. (is_so s w ≡ false) × (is_there s w ≡ there)) (λ s. is_so s w ≡ true)
  from_turn earlier at is_earlier there was =
      let before = is_earlier.0.0 in
      let next : track.turn.since ≡ before + 1 = sym at ∙ is_earlier.0.1 in
      let turned = is.turn.turned before next in (
        is_earlier,
        λ count from upto. is.turn.so count (omega (arith, at, from)) (omega (arith, upto)),
        before,
        is_earlier.0.1,
        (turned.0, turned.1, (turned.2.0, turned.2.1 ∙ was)),
      )

  from_start : (count : ℕ) → count ≡ 0 → count ≡ track.turn.since → Throughout history lines 0 index (λ s. is_so s w ≡ true)
  from_start count none at other from upto = is.turn.so other (omega (arith, none, at)) (omega (arith, upto))

  from_set : (set : Option EarlierStep) → IsStepOf history lines index track.kept.set set
      → IsFrom history lines index set (λ s. shown s w ≢ showing track.kept.there track.kept.read.items)
      (λ s. shown s w ≡ showing track.kept.there track.kept.read.items)
  from_set None told = λ count from upto. is.kept.read count (omega (arith, told.none)) (omega (arith, upto))
  from_set (Some earlier) told =
      let is_earlier = told.some.1 in
      let before = is_earlier.0.0 in
      let next : track.kept.set ≡ before + 1 = sym told.some.0 ∙ is_earlier.0.1 in (
        is_earlier,
        λ count from upto. is.kept.read count (omega (arith, told.some.0, from)) (omega (arith, upto)),
        before,
        is_earlier.0.1,
        is.kept.changed before next,
      )

  -- where it wasn't there right before the step that made it, what is kept of it was set no earlier
  set_after : (before : ℕ) → track.turn.since ≡ before + 1 → track.turn.was_there ≡ false → before < track.kept.set
  set_after before next was = elim (cases_lt before track.kept.set) [
    | inl after ↦ after
    | inr within ↦
        let turned = is.turn.turned before next in
        let then = is.kept.read before within (omega (arith, next, since-within)) in
        let now = is.kept.read index (omega (arith, within, next, since-within)) (omega arith) in
        let same_then = same_state history is_history (take before lines) turned.0 then.0 turned.1 then.1 in
        let same_now = same_state history is_history (take index lines) last now.0 passes now.1 in
        let was_kept : is_there turned.0 w ≡ track.kept.there = ap (λ (s : State). is_there s w) same_then ∙ ap (λ p. p.0) then.2 in
        let is_kept : is_there last w ≡ track.kept.there = ap (λ (s : State). is_there s w) same_now ∙ ap (λ p. p.0) now.2 in
        absurd (both_ways (is_there last w) (is_kept ∙ sym was_kept ∙ turned.2.1 ∙ was) (there-so last turned.0 w so turned.2.0))
  ]

  of_life : (made : EarlierStep) → made.step ≡ track.turn.since → IsEarlier history lines (index + 1) made → track.turn.was_there ≡ false
      → (set : Option EarlierStep) → IsStepOf history lines index track.kept.set set → IsOfLife (Some made) set
  of_life made at is_earlier was None told =
      let after = set_after is_earlier.0.0 (sym at ∙ is_earlier.0.1) was in let bad : ⊥ = omega (arith, after, told.none) in bad
  of_life made at is_earlier was (Some last) told =
      let after = set_after is_earlier.0.0 (sym at ∙ is_earlier.0.1) was in omega (arith, after, is_earlier.0.1, told.some.0)

  by_there : (made : EarlierStep) (set : Option EarlierStep) (there : Bool) → track.turn.was_there ≡ there
      → (made.step ≡ track.turn.since) × IsEarlier history lines (index + 1) made → IsStepOf history lines index track.kept.set set
      → IsSince history lines index w (since_told (Some made) set there)
  by_there made set true was told also = from_turn made told.0 told.1 true was
  by_there made set false was told also = (
    from_turn made told.0 told.1 false was,
    showing track.kept.there track.kept.read.items,
    from_set set also,
    of_life made told.0 told.1 was set also,
  )

  -- so it is told
  pub IsSince-told : (made set : Option EarlierStep)
      → IsStepOf history lines index track.turn.since made → IsStepOf history lines index track.kept.set set
      → IsSince history lines index w (since_told made set track.turn.was_there)
  IsSince-told None set told also =
      (from_start track.turn.since told.none refl, showing track.kept.there track.kept.read.items, from_set set also, tt)
  IsSince-told (Some made) set told also = by_there made set track.turn.was_there refl told.some also
