-- What turns keep and moves don't: a CPU without an open call, or that gave one up, holds no lock.
use Rattle.std.proofs.Common.{◌≡◌, ℕ, ◌+◌, Bool, true, false, ◌==◌, if◌then◌else◌, List, [], ◌∷◌, ◌++◌, Option, None, refl, sym, ap, ◌∙◌, subst}
use Rattle.rmm_spec.specs.declared.command.Command.{Command}
use Rattle.rmm_spec.specs.HistoryText.{Config}
use Rattle.rmm_spec.specs.Cell.{put}
use Rattle.rmm_spec.specs.World.{World, Phase, Between, Deciding, Decided, GivenUp, Stopped, Move, Moves, phase_learnt, without_granule, opening_world}
use Rattle.rmm_spec.specs.World as move
use Rattle.rmm_spec.specs.declared.turn.Will.{Will}
use Rattle.rmm_spec.specs.declared.turn.Will.TheVariants as told
use Rattle.rmm_spec.specs.Waits.{Report, IsWilled, MayFree, Turns, Turn, TurnAll}
use Rattle.rmm_spec.specs.Waits as turn
use Rattle.spec_lemmas.proofs.Maps.{put_elim}

-- what a phase says of the locks that its CPU holds
abbrev pub HoldsIn : Phase → List ℕ → Type 0
HoldsIn (Between number) taken = taken ≡ []
HoldsIn GivenUp taken = taken ≡ []
HoldsIn _ taken = Unit {0}

-- each CPU holds what its phase says
pub record HoldByPhase (w : World) : Type 0 where
  pub each : (cpu : ℕ) → HoldsIn (w.phase cpu) (w.taken cpu)

-- one CPU is in another phase
each-phase : (taken : ℕ → List ℕ) (phase : ℕ → Phase) (cpu : ℕ) (p : Phase) → HoldsIn p (taken cpu) → ((c : ℕ) → HoldsIn (phase c) (taken c))
    → (c : ℕ) → HoldsIn (put phase cpu p c) (taken c)
each-phase taken phase cpu p here each c =
    put_elim (λ q. HoldsIn q (taken c)) phase cpu p c (λ same. subst (λ k. HoldsIn p (taken k)) (sym same) here) (λ apart. each c)

-- and holds others
each-both : (taken : ℕ → List ℕ) (phase : ℕ → Phase) (cpu : ℕ) (p : Phase) (held : List ℕ) → HoldsIn p held → ((c : ℕ) → HoldsIn (phase c) (taken c))
    → (c : ℕ) → HoldsIn (put phase cpu p c) (put taken cpu held c)
each-both taken phase cpu p held here each c = by (c == cpu)
  where
    by : (b : Bool) → HoldsIn (if b then p else phase c) (if b then held else taken c)
    by true = here
    by false = each c

-- it holds others, and decides a call
each-deciding : (taken : ℕ → List ℕ) (phase : ℕ → Phase) (cpu number : ℕ) (command : Command) (learnt : Option ℕ) (held : List ℕ)
    → phase cpu ≡ Deciding number command learnt → ((c : ℕ) → HoldsIn (phase c) (taken c)) → (c : ℕ) → HoldsIn (phase c) (put taken cpu held c)
each-deciding taken phase cpu number command learnt held deciding each c =
    put_elim (λ has. HoldsIn (phase c) has) taken cpu held c
    (λ same. subst (λ p. HoldsIn p held) (sym deciding ∙ ap phase (sym same)) tt) (λ apart. each c)

-- a go frees in an open call alone
freed-in : (w : World) (cpu granule : ℕ) (learnt : Option ℕ) (taken : List ℕ) (p : Phase)
    → MayFree w cpu granule p → HoldsIn (phase_learnt learnt p) taken
freed-in w cpu granule learnt taken (Deciding number command earlier) may = tt
freed-in w cpu granule learnt taken (Decided number command given) may = tt
freed-in w cpu granule learnt taken _ may = absurd may

willed-freed : (w : World) (will : Will) (cpu granule : ℕ) (learnt : Option ℕ)
    → IsWilled w will (move.Free cpu granule learnt) → MayFree w cpu granule (w.phase cpu)
willed-freed w told.Go cpu granule learnt willed = willed
willed-freed w _ cpu granule learnt willed = absurd willed

-- and returns once nothing is held
willed-returned : (w : World) (will : Will) (cpu : ℕ) → IsWilled w will (move.Return cpu) → w.taken cpu ≡ []
willed-returned w told.Go cpu willed = willed
willed-returned w _ cpu willed = absurd willed

HoldByPhase-Moves : (old : World) (will : Will) (m : Move) (new : World) → IsWilled old will m → Moves old m new → HoldByPhase old → HoldByPhase new
HoldByPhase-Moves old will (move.Call cpu) new willed moves was = subst HoldByPhase (sym moves.is_new) (record {
  each = each-phase old.taken old.phase cpu (Deciding moves.number moves.command None) tt was.each;
})
HoldByPhase-Moves old will (move.Take cpu granule) new willed moves was = subst HoldByPhase (sym moves.is_new) (record {
  each = each-deciding old.taken old.phase cpu moves.deciding.number moves.deciding.command moves.deciding.learnt (old.taken cpu ++ granule ∷ [])
      moves.deciding.is_deciding was.each;
})
HoldByPhase-Moves old will (move.Free cpu granule learnt) new willed moves was = subst HoldByPhase (sym moves.is_new) (record {
  each = each-both old.taken old.phase cpu (phase_learnt learnt (old.phase cpu)) (without_granule granule (old.taken cpu))
      (freed-in old cpu granule learnt (without_granule granule (old.taken cpu))
      (old.phase cpu) (willed-freed old will cpu granule learnt willed)) was.each;
})
HoldByPhase-Moves old will (move.Commit cpu given held) new willed moves was = subst HoldByPhase (sym moves.is_new) (record {
  each = each-phase old.taken old.phase cpu (Decided moves.deciding.number moves.deciding.command given) tt was.each;
})
HoldByPhase-Moves old will (move.GiveUp cpu) new willed moves was = subst HoldByPhase (sym moves.is_new) (record {
  each = each-both old.taken old.phase cpu GivenUp [] refl was.each;
})
HoldByPhase-Moves old will (move.Return cpu) new willed moves was = subst HoldByPhase (sym moves.is_new) (record {
  each = each-phase old.taken old.phase cpu (Between (moves.number + 1)) (willed-returned old will cpu willed) was.each;
})
HoldByPhase-Moves old will (move.Stop cpu) new willed moves was = subst HoldByPhase (sym moves.is_new) (record {
  each = each-phase old.taken old.phase cpu Stopped tt was.each;
})

HoldByPhase-Turns : (old : World) (cpu : ℕ) (will : Will) (report : Report) (new : World)
    → Turns old cpu will report new → HoldByPhase old → HoldByPhase new
HoldByPhase-Turns old cpu will (turn.Did kind) new turned was = HoldByPhase-Moves old will turned.move new turned.is_willed turned.happens.moves was
HoldByPhase-Turns old cpu will turn.Idle new turned was = subst HoldByPhase (sym turned.1) was
HoldByPhase-Turns old cpu told.Go (turn.Blocked wanted) new turned was = subst HoldByPhase (sym turned.1) was
HoldByPhase-Turns old cpu told.GiveUp (turn.Blocked wanted) new turned was = absurd turned
HoldByPhase-Turns old cpu told.Stop (turn.Blocked wanted) new turned was = absurd turned

pub HoldByPhase-TurnAll : (old : World) (turns : List Turn) (last : World) → HoldByPhase old → TurnAll old turns last → HoldByPhase last
HoldByPhase-TurnAll old [] last was turned = subst HoldByPhase (sym turned) was
HoldByPhase-TurnAll old (t ∷ turns) last was turned =
    HoldByPhase-TurnAll turned.0 turns last (HoldByPhase-Turns old t.cpu t.will t.report turned.0 turned.1 was) turned.2

pub HoldByPhase-opening : (config : Config) (programs : ℕ → List Command) → HoldByPhase (opening_world config programs)
unfolding opening_world
HoldByPhase-opening config programs = record { each = λ c. refl }
