-- What a turn makes is one value.
use Rattle.world.proofs.Common.{◌++◌, ◌∙◌, ◌∷◌, ◌≡◌, Bool, Command, Decided, Deciding, Did, IsDeciding, IsGoing, List, None, Option, Ready, Reply, Some, Take, Turns, Will, World, [], ap, call_of, false, held_cells, if◌then◌else◌, inl, inr, put, refl, subst, sym, true, ℕ}
use Rattle.rmm_spec.specs.declared.turn.Will.TheVariants as told
use Rattle.rmm_spec.specs.World.{Phase, Between, GivenUp, Stopped, Move, mover, Moves, MayLearn}
use Rattle.rmm_spec.specs.World as move
use Rattle.rmm_spec.specs.Waits.{Report, Blocked, Idle, IsWilled, IsIdle, MayFree}
use Rattle.rmm_spec.specs.Waits as turn
use Rattle.command_core.specs.Next as plan
use Rattle.command_core.specs.declared.next.Next.{Next}
use Rattle.command_core.specs.declared.next.Next.TheVariants.{Free}
use Rattle.world.specs.Next.{DoesNext, DoesPlanned, is_taken, next_report, go_report, with_freed, with_taken, call_report, return_report, report_in, IsNoMove}
use Rattle.world.specs.TurnedWorld.{with_called, with_next, last_lock, with_returned, gone_in, given_up_in, stopped_in, turned_world}
use Rattle.world.proofs.Goes.{next-report}

-- ---- a go

-- what comes next is done
next-world : (old : World) (cpu : ℕ) (n : Next) (report : Report) (new : World) → report ≡ next_report old n → DoesNext old cpu n report new
    → new ≡ with_next old cpu n
next-world old cpu (Take granule) (Did kind) new exact does = by (is_taken old granule) exact
  where
    by : (b : Bool) → Did kind ≡ (if b then Blocked granule else Did turn.Take) → new ≡ (if b then old else with_taken old cpu granule)
    by true is = absurd (let bad : Did kind ≡ Blocked granule = is in cc)
    by false is = does.1
next-world old cpu (Take granule) (Blocked other) new exact does = by (is_taken old granule) exact
  where
    by : (b : Bool) → Blocked other ≡ (if b then Blocked granule else Did turn.Take) → new ≡ (if b then old else with_taken old cpu granule)
    by true is = does.1
    by false is = absurd (let bad : Blocked other ≡ Did turn.Take = is in cc)
next-world old cpu (Take granule) Idle new exact does = absurd does
next-world old cpu (Free granule learnt) (Did kind) new exact does = does.1
next-world old cpu (Free granule learnt) (Blocked other) new exact does = absurd does
next-world old cpu (Free granule learnt) Idle new exact does = absurd does
next-world old cpu Ready (Did kind) new exact does = does.1
next-world old cpu Ready (Blocked other) new exact does = absurd does
next-world old cpu Ready Idle new exact does = absurd does

-- the last of a list is what was taken last
last_lock-append : (lock : ℕ) (earlier : List ℕ) (last : ℕ) → last_lock lock (earlier ++ last ∷ []) ≡ last
last_lock-append lock [] last = refl
last_lock-append lock (first ∷ earlier) last = last_lock-append first earlier last

freed-last : (w : World) (cpu number : ℕ) (given : Reply) (locks earlier : List ℕ) (last : ℕ) → locks ≡ earlier ++ last ∷ []
    → with_freed w cpu last None ≡ with_returned w cpu number given locks
freed-last w cpu number given [] [] last is = absurd (let bad : [] ≡ last ∷ [] = is in cc)
freed-last w cpu number given [] (first ∷ earlier) last is = absurd (let bad : [] ≡ first ∷ (earlier ++ last ∷ []) = is in cc)
freed-last w cpu number given (lock ∷ others) earlier last is =
    ap (λ granule. with_freed w cpu granule None) (sym (last_lock-append 0 earlier last) ∙ ap (last_lock 0) (sym is))

module _ (old new : World) where
  -- a go makes what its move does, where what an open call makes is known
  gone-move : (m : Move) → IsWilled old told.Go m → Moves old m new
      → (IsDeciding old (mover m) → new ≡ gone_in old (mover m) (old.phase (mover m))) → new ≡ gone_in old (mover m) (old.phase (mover m))
  gone-move (move.Call cpu) willed m planned =
      m.is_new ∙ sym (ap (gone_in old cpu) m.is_between ∙ ap (with_called old cpu m.number) m.is_next)
  gone-move (move.Take cpu granule) willed m planned = planned m.deciding
  gone-move (move.Free cpu granule learnt) willed m planned = by (old.phase cpu) refl willed m.may_learn
    where
      unlearnt : (learnt : Option ℕ) (number : ℕ) (command : Command) (given : Reply)
          → MayLearn old (Decided number command given) granule learnt → learnt ≡ None
      unlearnt None number command given may = refl
      unlearnt (Some rd) number command given may = absurd may

      by : (p : Phase) → old.phase cpu ≡ p → MayFree old cpu granule p → MayLearn old p granule learnt → new ≡ gone_in old cpu (old.phase cpu)
      by (Between number) at may learns = absurd may
      by (Deciding number command earlier) at may learns =
          planned (record { number = number; command = command; learnt = earlier; is_deciding = at })
      by (Decided number command given) at may learns =
          m.is_new ∙ ap (with_freed old cpu granule) (unlearnt learnt number command given learns)
          ∙ freed-last old cpu number given (old.taken cpu) may.earlier granule may.is_last ∙ sym (ap (gone_in old cpu) at)
      by GivenUp at may learns = absurd may
      by Stopped at may learns = absurd may
  gone-move (move.Commit cpu given held) willed m planned = planned m.deciding
  gone-move (move.GiveUp cpu) willed m planned = absurd willed
  gone-move (move.Return cpu) willed m planned =
      m.is_new ∙ sym (ap (gone_in old cpu) m.is_decided ∙ ap (with_returned old cpu m.number m.given) willed)
  gone-move (move.Stop cpu) willed m planned = absurd willed

  module _ (cpu : ℕ) where
    -- who has nothing to do changes nothing
    gone-idle : IsIdle old cpu told.Go → old ≡ gone_in old cpu (old.phase cpu)
    gone-idle (inl ended) = by (old.phase cpu) ended
      where
        by : (p : Phase) → (IsGoing p → ⊥) → old ≡ gone_in old cpu p
        by (Between number) none = absurd (none tt)
        by (Deciding number command learnt) none = absurd (none tt)
        by (Decided number command given) none = absurd (none tt)
        by GivenUp none = refl
        by Stopped none = refl
    gone-idle (inr all) = sym (ap (gone_in old cpu) all.is_between ∙ ap (with_called old cpu all.number) all.none_left)

    gone : (report : Report) → Turns old cpu told.Go report new → report ≡ go_report old cpu
        → (IsDeciding old cpu → DoesPlanned old cpu report new) → new ≡ gone_in old cpu (old.phase cpu)
    gone report turned exact does = by report turned planned
      where
        planned : IsDeciding old cpu → new ≡ gone_in old cpu (old.phase cpu)
        planned deciding =
            let d = does deciding in
            next-world old cpu d.next report new (exact ∙ sym (next-report old cpu d.next d.is_next)) d.does
            ∙ ap (with_next old cpu) d.is_next.is_next ∙ sym (ap (gone_in old cpu) d.is_next.deciding.is_deciding)

        by : (r : Report) → Turns old cpu told.Go r new → (IsDeciding old cpu → new ≡ gone_in old cpu (old.phase cpu))
            → new ≡ gone_in old cpu (old.phase cpu)
        by (Did kind) made planned =
            subst (λ c. (IsDeciding old c → new ≡ gone_in old c (old.phase c)) → new ≡ gone_in old c (old.phase c)) made.is_mover
            (gone-move made.move made.is_willed made.happens.moves) planned
        by (Blocked granule) blocked planned = planned blocked.0.waits.rising.deciding
        by Idle idle planned = idle.1 ∙ gone-idle idle.0

    -- ---- the other wills

    given_up : (report : Report) → Turns old cpu told.GiveUp report new → new ≡ given_up_in old cpu (old.phase cpu)
    given_up (Did kind) made =
        subst (λ c. new ≡ given_up_in old c (old.phase c)) made.is_mover (by made.move made.is_willed made.happens.moves)
      where
        by : (m : Move) → IsWilled old told.GiveUp m → Moves old m new → new ≡ given_up_in old (mover m) (old.phase (mover m))
        by (move.GiveUp cpu) willed m = m.is_new ∙ sym (ap (given_up_in old cpu) m.deciding.is_deciding)
        by (move.Call cpu) willed m = absurd willed
        by (move.Take cpu granule) willed m = absurd willed
        by (move.Free cpu granule learnt) willed m = absurd willed
        by (move.Commit cpu given held) willed m = absurd willed
        by (move.Return cpu) willed m = absurd willed
        by (move.Stop cpu) willed m = absurd willed
    given_up (Blocked granule) none = absurd none
    given_up Idle idle = idle.1 ∙ by (old.phase cpu) refl
      where
        by : (p : Phase) → old.phase cpu ≡ p → old ≡ given_up_in old cpu p
        by (Between number) at = refl
        by (Deciding number command learnt) at =
            absurd (idle.0 (record { number = number; command = command; learnt = learnt; is_deciding = at }))
        by (Decided number command given) at = refl
        by GivenUp at = refl
        by Stopped at = refl

    stopped : (report : Report) → Turns old cpu told.Stop report new → new ≡ stopped_in old cpu (old.phase cpu)
    stopped (Did kind) made =
        subst (λ c. new ≡ stopped_in old c (old.phase c)) made.is_mover (by made.move made.is_willed made.happens.moves)
      where
        going : (cpu : ℕ) (p : Phase) → IsGoing p → record old { phase = put old.phase cpu Stopped } ≡ stopped_in old cpu p
        going cpu (Between number) is = refl
        going cpu (Deciding number command learnt) is = refl
        going cpu (Decided number command given) is = refl
        going cpu GivenUp is = absurd is
        going cpu Stopped is = absurd is

        by : (m : Move) → IsWilled old told.Stop m → Moves old m new → new ≡ stopped_in old (mover m) (old.phase (mover m))
        by (move.Stop cpu) willed m = m.is_new ∙ going cpu (old.phase cpu) m.is_going
        by (move.Call cpu) willed m = absurd willed
        by (move.Take cpu granule) willed m = absurd willed
        by (move.Free cpu granule learnt) willed m = absurd willed
        by (move.Commit cpu given held) willed m = absurd willed
        by (move.GiveUp cpu) willed m = absurd willed
        by (move.Return cpu) willed m = absurd willed
    stopped (Blocked granule) none = absurd none
    stopped Idle idle = idle.1 ∙ by (old.phase cpu) idle.0
      where
        by : (p : Phase) → (IsGoing p → ⊥) → old ≡ stopped_in old cpu p
        by (Between number) none = absurd (none tt)
        by (Deciding number command learnt) none = absurd (none tt)
        by (Decided number command given) none = absurd (none tt)
        by GivenUp none = refl
        by Stopped none = refl

-- what each turn makes
pub turned-world : (old : World) (cpu : ℕ) (will : Will) (report : Report) (new : World) → Turns old cpu will report new
    → (will ≡ told.Go → report ≡ go_report old cpu) → (will ≡ told.Go → IsDeciding old cpu → DoesPlanned old cpu report new)
    → new ≡ turned_world old cpu will
unfolding turned_world
turned-world old cpu told.Go report new turned exact planned = gone old new cpu report turned (exact refl) (planned refl)
turned-world old cpu told.GiveUp report new turned exact planned = given_up old new cpu report turned
turned-world old cpu told.Stop report new turned exact planned = stopped old new cpu report turned

-- ---- no move

next-still : (w : World) (cpu : ℕ) (n : Next) → IsNoMove (next_report w n) → with_next w cpu n ≡ w
next-still w cpu (Take granule) none = by (is_taken w granule) none
  where
    by : (b : Bool) → IsNoMove (if b then Blocked granule else Did turn.Take) → (if b then w else with_taken w cpu granule) ≡ w
    by true none = refl
    by false none = absurd none
next-still w cpu (Free granule learnt) none = absurd none
next-still w cpu Ready none = absurd none

call-still : (w : World) (cpu number : ℕ) (program : List Command) → IsNoMove (call_report program) → with_called w cpu number program ≡ w
call-still w cpu number [] none = refl
call-still w cpu number (command ∷ rest) none = absurd none

no_return : (locks : List ℕ) → IsNoMove (return_report locks) → ⊥
no_return [] none = none
no_return (lock ∷ others) none = none

-- a go that makes no move leaves the world as it is
pub still-gone : (w : World) (cpu : ℕ) → IsNoMove (go_report w cpu) → turned_world w cpu told.Go ≡ w
unfolding go_report turned_world
still-gone w cpu none = by (w.phase cpu) none
  where
    by : (p : Phase) → IsNoMove (report_in w cpu p) → gone_in w cpu p ≡ w
    by (Between number) none = call-still w cpu number (w.program cpu) none
    by (Deciding number command learnt) none =
        next-still w cpu (plan.next w.config (call_of command) (w.place cpu) learnt (held_cells w cpu)) none
    by (Decided number command given) none = absurd (no_return (w.taken cpu) none)
    by GivenUp none = refl
    by Stopped none = refl
