-- What turns leave as it was: a CPU whose last turn was blocked is still at that rising take.
use Rattle.std.proofs.Common.{◌≡◌, ℕ, ◌+◌, List, [], ◌∷◌, ◌++◌, Option, Some, None, refl, sym, ap, ◌∙◌, subst}
use Rattle.std.specs.Prelude.{Contains}
use Rattle.std.proofs.lemmas.Option.{none-some, same_Some}
use Rattle.rmm_spec.specs.HistoryText.{Config}
use Rattle.rmm_spec.specs.Call.{call_of}
use Rattle.rmm_spec.specs.Cell.{put}
use Rattle.rmm_spec.specs.Local.{put_all}
use Rattle.rmm_spec.specs.World.{World, Move, mover, Moves, HappenAll, HasOneHolder, held_cells, phase_learnt, without_granule, Between, Deciding, Decided, GivenUp, Stopped}
use Rattle.rmm_spec.specs.World as move
use Rattle.rmm_spec.specs.Locks.{needs, IsRisingTake}
use Rattle.rmm_spec.specs.declared.turn.Will.{Will}
use Rattle.rmm_spec.specs.declared.turn.Will.TheVariants as told
use Rattle.rmm_spec.specs.Waits.{IsRising, Report, Turns, Turn, TurnAll, awaited, waits_after, KeepsWaiting}
use Rattle.rmm_spec.specs.Waits as turn
use Rattle.spec_lemmas.proofs.Maps.{put_elim, put-other}
use Rattle.spec_lemmas.proofs.Members.{cells_at, put_all-other, granules_held-cells_at, cells_at-same}
use Rattle.world_laws.proofs.Locked.{IsLocked, IsLocked-Happens}
use Rattle.lemmas.proofs.Tests.{keys_apart}

-- a move leaves a CPU's phase, place and held cells as they were
pub record LeavesAlone (old new : World) (cpu : ℕ) : Type 0 where
  pub config : new.config ≡ old.config
  pub phase : new.phase cpu ≡ old.phase cpu
  pub place : new.place cpu ≡ old.place cpu
  pub held : held_cells new cpu ≡ held_cells old cpu

pub LeavesAlone-Moves : (old : World) (m : Move) (new : World) (cpu : ℕ)
    → HasOneHolder old → (cpu ≡ mover m → ⊥) → Moves old m new → LeavesAlone old new cpu
LeavesAlone-Moves old (move.Call key) new cpu one apart moves = subst (λ w. LeavesAlone old w cpu) (sym moves.is_new) (record {
  config = refl;
  phase = put-other old.phase key (Deciding moves.number moves.command None) cpu apart;
  place = refl;
  held = refl;
})
LeavesAlone-Moves old (move.Take key granule) new cpu one apart moves = subst (λ w. LeavesAlone old w cpu) (sym moves.is_new) (record {
  config = refl;
  phase = refl;
  place = refl;
  held = ap (cells_at old.cells) (put-other old.taken key (old.taken key ++ granule ∷ []) cpu apart);
})
LeavesAlone-Moves old (move.Free key granule learnt) new cpu one apart moves = subst (λ w. LeavesAlone old w cpu) (sym moves.is_new) (record {
  config = refl;
  phase = put-other old.phase key (phase_learnt learnt (old.phase key)) cpu apart;
  place = refl;
  held = ap (cells_at old.cells) (put-other old.taken key (without_granule granule (old.taken key)) cpu apart);
})
LeavesAlone-Moves old (move.Commit key given held) new cpu one apart moves = subst (λ w. LeavesAlone old w cpu) (sym moves.is_new) (record {
  config = refl;
  phase = put-other old.phase key (Decided moves.deciding.number moves.deciding.command given) cpu apart;
  place = put-other old.place key held.place cpu apart;
  held = cells_at-same old.cells (put_all old.cells held.cells) (old.taken cpu) (λ granule has.
      put_all-other held.cells old.cells granule (λ changed.
      apart (one cpu key granule has
      (subst (λ granules. Contains granules granule) (moves.step.same ∙ granules_held-cells_at old.cells (old.taken key)) changed))));
})
LeavesAlone-Moves old (move.GiveUp key) new cpu one apart moves = subst (λ w. LeavesAlone old w cpu) (sym moves.is_new) (record {
  config = refl;
  phase = put-other old.phase key GivenUp cpu apart;
  place = refl;
  held = ap (cells_at old.cells) (put-other old.taken key [] cpu apart);
})
LeavesAlone-Moves old (move.Return key) new cpu one apart moves = subst (λ w. LeavesAlone old w cpu) (sym moves.is_new) (record {
  config = refl;
  phase = put-other old.phase key (Between (moves.number + 1)) cpu apart;
  place = refl;
  held = refl;
})
LeavesAlone-Moves old (move.Stop key) new cpu one apart moves = subst (λ w. LeavesAlone old w cpu) (sym moves.is_new) (record {
  config = refl;
  phase = put-other old.phase key Stopped cpu apart;
  place = refl;
  held = refl;
})

-- what a CPU waits at stays a rising take
IsRising-alone : (old new : World) (cpu granule : ℕ) → LeavesAlone old new cpu → IsRising old cpu granule → IsRising new cpu granule
IsRising-alone old new cpu granule alone was =
    let learnt = was.deciding.learnt in
    let command = was.deciding.command in
    let of_held = subst (λ held. IsRisingTake old.config (needs (old.place cpu) learnt (call_of command)) held granule) (sym alone.held) was.rising in
    let of_place =
    subst (λ place. IsRisingTake old.config (needs place learnt (call_of command)) (held_cells new cpu) granule) (sym alone.place) of_held in
    record {
      deciding = record { number = was.deciding.number; command = command; learnt = learnt; is_deciding = alone.phase ∙ was.deciding.is_deciding };
      rising = subst (λ (config : Config). IsRisingTake config (needs (new.place cpu) learnt (call_of command)) (held_cells new cpu) granule)
          (sym alone.config) of_place;
    }

-- each CPU that waits is at a rising take
pub record AreAtRisingTakes (w : World) (waits : ℕ → Option ℕ) : Type 0 where
  pub each : (cpu granule : ℕ) → waits cpu ≡ Some granule → IsRising w cpu granule

-- a CPU that waits for nothing more
AreAtRisingTakes-none : (w : World) (waits : ℕ → Option ℕ) (cpu : ℕ) → AreAtRisingTakes w waits → AreAtRisingTakes w (put waits cpu None)
AreAtRisingTakes-none w waits cpu was = record {
  each = λ other granule. put_elim (λ a. a ≡ Some granule → IsRising w other granule) waits cpu None other
      (λ same is. absurd (none-some granule is)) (λ apart is. was.each other granule is);
}

AreAtRisingTakes-Turns : (old : World) (cpu : ℕ) (will : Will) (report : Report) (new : World) (waits : ℕ → Option ℕ) → IsLocked old
    → Turns old cpu will report new → AreAtRisingTakes old waits → AreAtRisingTakes new (put waits cpu (awaited report))
AreAtRisingTakes-Turns old cpu will (turn.Did kind) new waits locked turned was = record {
  each = λ other granule. put_elim (λ a. a ≡ Some granule → IsRising new other granule) waits cpu None other
      (λ same is. absurd (none-some granule is))
      (λ apart is. IsRising-alone old new other granule
      (LeavesAlone-Moves old turned.move new other locked.one (λ same. keys_apart other cpu apart (same ∙ turned.is_mover)) turned.happens.moves)
      (was.each other granule is));
}
AreAtRisingTakes-Turns old cpu will turn.Idle new waits locked turned was =
    subst (λ w. AreAtRisingTakes w (put waits cpu None)) (sym turned.1) (AreAtRisingTakes-none old waits cpu was)
AreAtRisingTakes-Turns old cpu told.Go (turn.Blocked wanted) new waits locked turned was =
    subst (λ w. AreAtRisingTakes w (put waits cpu (Some wanted))) (sym turned.1) (record {
      each = λ other granule. put_elim (λ a. a ≡ Some granule → IsRising old other granule) waits cpu (Some wanted) other
          (λ same is. subst (λ c. IsRising old c granule) (sym same) (subst (IsRising old cpu) (same_Some wanted granule is) turned.0.waits.rising))
          (λ apart is. was.each other granule is);
    })
AreAtRisingTakes-Turns old cpu told.GiveUp (turn.Blocked wanted) new waits locked turned was = absurd turned
AreAtRisingTakes-Turns old cpu told.Stop (turn.Blocked wanted) new waits locked turned was = absurd turned

IsLocked-Turns : (old : World) (cpu : ℕ) (will : Will) (report : Report) (new : World) → IsLocked old → Turns old cpu will report new → IsLocked new
IsLocked-Turns old cpu will (turn.Did kind) new locked turned = IsLocked-Happens old turned.move new locked turned.happens
IsLocked-Turns old cpu will turn.Idle new locked turned = subst IsLocked (sym turned.1) locked
IsLocked-Turns old cpu told.Go (turn.Blocked wanted) new locked turned = subst IsLocked (sym turned.1) locked
IsLocked-Turns old cpu told.GiveUp (turn.Blocked wanted) new locked turned = absurd turned
IsLocked-Turns old cpu told.Stop (turn.Blocked wanted) new locked turned = absurd turned

AreAtRisingTakes-TurnAll : (old : World) (turns : List Turn) (last : World) (waits : ℕ → Option ℕ) → IsLocked old → TurnAll old turns last
    → AreAtRisingTakes old waits → AreAtRisingTakes last (waits_after waits turns)
AreAtRisingTakes-TurnAll old [] last waits locked turned was = subst (λ w. AreAtRisingTakes w waits) (sym turned) was
AreAtRisingTakes-TurnAll old (t ∷ turns) last waits locked turned was =
    AreAtRisingTakes-TurnAll turned.0 turns last (put waits t.cpu (awaited t.report))
    (IsLocked-Turns old t.cpu t.will t.report turned.0 locked turned.1) turned.2
    (AreAtRisingTakes-Turns old t.cpu t.will t.report turned.0 waits locked turned.1 was)

-- who was blocked last still waits there
pub KeepsWaiting-TurnAll : (old : World) (turns : List Turn) (last : World) → IsLocked old → TurnAll old turns last → KeepsWaiting turns last
KeepsWaiting-TurnAll old turns last locked turned = λ cpu granule other is holds. record {
  rising = (AreAtRisingTakes-TurnAll old turns last (λ _. None) locked turned
      (record { each = λ c g none. absurd (none-some g none) })).each cpu granule is;
  is_held = holds;
}

-- a turn is a move or none
moves_of_turn : (old : World) (cpu : ℕ) (will : Will) (report : Report) (new last : World) → Turns old cpu will report new
    → (moves : List Move) × HappenAll new moves last → (moves : List Move) × HappenAll old moves last
moves_of_turn old cpu will (turn.Did kind) new last turned rest = (turned.move ∷ rest.0, (new, turned.happens, rest.1))
moves_of_turn old cpu will turn.Idle new last turned rest = subst (λ w. (moves : List Move) × HappenAll w moves last) turned.1 rest
moves_of_turn old cpu told.Go (turn.Blocked wanted) new last turned rest = subst (λ w. (moves : List Move) × HappenAll w moves last) turned.1 rest
moves_of_turn old cpu told.GiveUp (turn.Blocked wanted) new last turned rest = absurd turned
moves_of_turn old cpu told.Stop (turn.Blocked wanted) new last turned rest = absurd turned

-- turns are moves
pub moves_of_turns : (old : World) (turns : List Turn) (last : World) → TurnAll old turns last → (moves : List Move) × HappenAll old moves last
moves_of_turns old [] last turned = ([], turned)
moves_of_turns old (t ∷ turns) last turned =
    moves_of_turn old t.cpu t.will t.report turned.0 last turned.1 (moves_of_turns turned.0 turns last turned.2)
