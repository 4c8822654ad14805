-- A CPU that is ready to commit its open call, and a commit that is refused memory.
use Rattle.world.proofs.Common.{◌≡◌, Command, Config, IsNext, IsReached, List, Option, Ready, Views, World, false, false≢true, opening_world, refl, subst, sym, world_with, ℕ}
use Rattle.std.proofs.Common.{Result, Ok, Err}
use Rattle.std.proofs.Math.Logic.{∥∥₁_elim}
use Rattle.std.proofs.Props.{props}
use Rattle.rmm_spec.specs.declared.accepted.Accepted.{Accepted}
use Rattle.rmm_spec.specs.declared.accepted.Accepted.TheVariants.{Done, Reaches}
use Rattle.rmm_spec.specs.declared.refusal.Refusal.{Refusal}
use Rattle.rmm_spec.specs.HistoryText.{History}
use Rattle.rmm_spec.specs.Local.{Hold}
use Rattle.rmm_spec.specs.Ownership.{is_accepted}
use Rattle.rmm_spec.specs.Cell.{Cell}
use Rattle.rmm_spec.specs.Shape.{Side}
use Rattle.rmm_spec.specs.World.{Commitment, hold_of}
use Rattle.world_laws.proofs.Recorded.{IsAccounted-opening, IsAccounted-HappenAll}
use Rattle.world_laws.proofs.Turned.{moves_of_turns}
use Rattle.world_laws.proofs.Accepted.{local-accepts}
use Rattle.rmm_laws.specs.Whole.{side_changed}
use Rattle.command_core.specs.Changed.{hold_changed, given_of, new_cells, new_place}
use Rattle.command_core.specs.Foreseen.{change_of}
use Rattle.world.specs.Kept.{IsKept}
use Rattle.world.specs.Recorded.{Records, RecordsIn, MakesTable, AcceptsTable}

-- a commit records something
pub records-commit : (w : World) (cpu : ℕ) → IsNext w cpu Ready → Records w cpu
records-commit w cpu ready = subst (RecordsIn w cpu) (sym ready.deciding.is_deciding) ready.settled

-- an answer that refuses changes nothing
pub refused-unchanged : (hold : Hold) (answer : Result Accepted Refusal)
    → is_accepted (given_of answer) ≡ false → hold_changed hold (change_of answer) ≡ hold
unfolding new_cells new_place side_changed
refused-unchanged hold (Ok (Done words change)) refused = absurd (false≢true (sym refused))
refused-unchanged hold (Ok (Reaches stretch)) refused = refl
refused-unchanged hold (Err refusal) refused = refl

-- where nothing changed, all is kept
pub unchanged-kept : (cells new_cells : ℕ → Cell) (side new_side : Side) (old new : Views) (journal entries : List Commitment) (history : History)
    (holder : ℕ → Option ℕ) → new_cells ≡ cells → new_side ≡ side → new ≡ old → entries ≡ journal
    → IsKept (world_with cells side old journal history) holder old.waits
    → IsKept (world_with new_cells new_side new entries history) holder new.waits
unchanged-kept cells new_cells side new_side old new journal entries history holder same_cells same_side same_views same_entries kept =
    rw (same_cells, same_side, same_views, same_entries) kept

-- what is decided as accepted the machine accepts, in the state that the cells stand for
pub accepts-reached : (config : Config) (w : World) (waits : ℕ → Option ℕ) (cpu : ℕ) (command : Command) → ∥ IsReached config w waits ∥₁
    → MakesTable w.config cpu command (hold_of w cpu) → AcceptsTable w cpu command
accepts-reached config w waits cpu command reached makes = record {
  accepts = ∥∥₁_elim reached (hlevel props) (λ (r : IsReached config w waits).
      let start = opening_world config r.programs in
      let moves = moves_of_turns start r.turns w r.run in
      local-accepts w cpu command makes.given (hold_changed (hold_of w cpu) makes.change)
      (IsAccounted-HappenAll start moves.0 w (IsAccounted-opening config r.programs) moves.1).shaped makes.accepts makes.decides);
  makes = makes;
}
