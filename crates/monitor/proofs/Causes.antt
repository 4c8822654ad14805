-- What a commit on cells that were taken leaves.
use Rattle.monitor.proofs.Common.{◌≡◌, ℕ, true, List, sym, ap, ◌∙◌, subst, Result, Ok, Err, IfOk, IfErr, OnErr, Command, Config, place_of, hold_cells, AreGranules, Done, CommitFault, JournalView, TokenView, CpuView, Refused, Unrecorded, returned, unreturned, WereHeld, LeavesHeld, WereTaken}
use Rattle.std.proofs.Common.{Option}
use Rattle.std.specs.Prelude.{IsTrue, All}
use Rattle.rmm_spec.specs.Call.{call_of}
use Rattle.rmm_spec.specs.Local.{HeldCell}
use Rattle.rmm_spec.specs.Lookup.{is_granule}
use Rattle.rmm_spec.specs.Shape.{CpuPlace}
use Rattle.command_core.specs.Settled.{is_settled}
use Rattle.command_core.specs.Sides.{side_of}
use Rattle.granule_lock.specs.declared.hold.Hold.{Hold}
use Rattle.granule_lock.specs.Locked.{IsReached, locking}
use Rattle.commit_tickets.specs.declared.fault.CommitFault.TheVariants.{NoMemory, Disagrees}
use Rattle.commit_tickets.specs.Commits.{IsCommit}
use Rattle.monitor.specs.Causes.{HadCause}
use Rattle.monitor.specs.Executed.{refused_for}

-- ---- a commit on cells that were taken, on this machine

-- what the locks were taken for is what is committed
pub were-taken : (config inside : Config) (granules : ℕ) (command : Command) (token : TokenView) (place : CpuPlace) (cells : List HeldCell)
    → inside ≡ config → granules ≡ inside.granules → place ≡ place_of token.place → AreGranules granules cells
    → IsTrue (is_settled inside (call_of command) place cells)
    → ((learnt : Option ℕ) × IsReached inside (call_of command) place (locking cells learnt)) → WereTaken config command token cells
were-taken config inside granules command token place cells is is_granules is_place are settled planned = record {
  granules = subst (λ n. AreGranules n cells) (is_granules ∙ ap (λ (c : Config). c.granules) is) are;
  settled = subst (λ (p : Config × CpuPlace). IsTrue (is_settled p.0 (call_of command) p.1 cells)) (λ i. (is i, is_place i)) settled;
  learnt = planned.0;
  reached = subst (λ (p : Config × CpuPlace). IsReached p.0 (call_of command) p.1 (locking cells planned.0)) (λ i. (is i, is_place i)) planned.1;
}

module _ (config site : Config) (is_site : config ≡ site) (command : Command) (before after : JournalView) (token new : TokenView)
    (hold new_hold : Hold) (taken : WereTaken config command token (hold_cells hold)) where
  here : (result : Result Done CommitFault) → IsCommit site command before after token new hold new_hold result
      → IsCommit config command before after token new hold new_hold result
  here result commit = subst (λ c. IsCommit c command before after token new hold new_hold result) (sym is_site) commit

  -- it makes a step of them, or leaves them
  pub were-held : (result : Result Done CommitFault) → IsCommit site command before after token new hold new_hold result
      → WereHeld config command token (place_of new.place) (hold_cells new_hold) result
  were-held (Ok done) commit = record {
    cells = hold_cells hold;
    taken = taken;
    makes = record { side = side_of before.side; new_side = side_of after.side; step = (here (Ok done) commit).step };
  }
  were-held (Err fault) commit = record { cells = hold_cells hold; taken = taken; makes = ap hold_cells commit.kept_hold }

  -- so the same granules are held
  pub granules-kept : (result : Result Done CommitFault) → IsCommit site command before after token new hold new_hold result
      → AreGranules config.granules (hold_cells new_hold)
  granules-kept (Ok done) commit = subst (All (λ g. IsTrue (is_granule config.granules g))) (sym commit.step.same) taken.granules
  granules-kept (Err fault) commit = subst (λ (h : Hold). AreGranules config.granules (hold_cells h)) (sym commit.kept_hold) taken.granules

  -- and a fault had its cause in them
  pub fault-had_cause : (result : Result Done CommitFault) → IsCommit site command before after token new hold new_hold result
      → IfErr result (λ fault. HadCause config fault command token)
  fault-had_cause (Ok done) commit = tt
  fault-had_cause (Err fault) commit =
      let of = here (Err fault) commit in record { journal = before; cells = hold_cells hold; of_run = of.of_run; taken = taken; cause = of.cause }

-- ---- an execution

module _ (config : Config) (command : Command) (token : TokenView) (cells : List HeldCell) where
  -- whatever comes of the return, a commit made its step
  pub held-recorded : (result : Result Done Refused) (done : Done) (committed new : TokenView) (open_pass new_pass : CpuView)
      → WereHeld config command token (place_of committed.place) cells (Ok done)
      → IfOk result (λ told. (told ≡ done) × (new ≡ committed) × (new_pass ≡ returned open_pass done.reply))
      → OnErr result ((result ≡ Err (Unrecorded done)) × (new ≡ record committed { is_stopped = true }) × (new_pass ≡ unreturned open_pass))
      → LeavesHeld config command token (place_of new.place) result
  held-recorded (Ok told) done committed new open_pass new_pass held ok err = (
    cells,
    subst (λ (p : Done × TokenView). WereHeld config command token (place_of p.1.place) cells (Ok p.0)) (λ i. (sym ok.0 i, sym ok.1 i)) held,
  )
  held-recorded (Err refused) done committed new open_pass new_pass held ok err =
      subst (λ answer. LeavesHeld config command token (place_of new.place) answer) (sym err.0)
      (cells, subst (λ (t : TokenView). WereHeld config command token (place_of t.place) cells (Ok done)) (sym err.1) held)

  -- and after a fault the cells are as they were taken
  pub held-failed : (fault : CommitFault) (failed new : TokenView) → WereHeld config command token (place_of failed.place) cells (Err fault)
      → new ≡ record failed { is_stopped = true } → LeavesHeld config command token (place_of new.place) (Err (refused_for fault))
  held-failed NoMemory failed new held is_new =
      (cells, subst (λ (t : TokenView). WereHeld config command token (place_of t.place) cells (Err NoMemory)) (sym is_new) held)
  held-failed Disagrees failed new held is_new =
      (cells, subst (λ (t : TokenView). WereHeld config command token (place_of t.place) cells (Err Disagrees)) (sym is_new) held)
