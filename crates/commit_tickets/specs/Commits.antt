-- What is promised of a commit, and of the part of it that needs the journal, wherever that is.
use Rattle.std.specs.Prelude.{◌≡◌, ℕ, ◌<◌, ◌≤◌, Result, Err, IfOk, IfErr, OnOk, OnErr, List, length, None}
use Rattle.rmm_spec.specs.declared.command.Command.{Command}
use Rattle.rmm_spec.specs.HistoryText.{Config}
use Rattle.rmm_spec.specs.Local.{HeldCell, LocalStep}
use Rattle.rmm_spec.specs.Run.{IsRun}
use Rattle.rmm_spec.specs.State.{State, opening}
use Rattle.rmm_laws.specs.Whole.{side_changed}
use Rattle.command_core.specs.Changed.{given_of}
use Rattle.command_core.specs.Foreseen.{change_of}
use Rattle.command_core.specs.Seen.{known_cell}
use Rattle.command_core.specs.Sides.{side_of}
use Rattle.granule_lock.specs.declared.hold.Hold.{Hold}
use Rattle.granule_lock.specs.HeldCells.{hold_cells}
use Rattle.commit_tickets.specs.declared.committing.Done.{Done}
use Rattle.commit_tickets.specs.declared.draft.Draft.{Draft}
use Rattle.commit_tickets.specs.declared.fault.CommitFault.{CommitFault}
use Rattle.commit_tickets.specs.declared.fault.CommitFault.TheVariants.{Disagrees}
use Rattle.commit_tickets.specs.Drafts.{IsDecided, IsEnteredOn}
use Rattle.commit_tickets.specs.Faults.{HasCause}
use Rattle.commit_tickets.specs.Left.{HasGained, HasGainedNone, HasListed, HasCommitted, HasFailed}
use Rattle.commit_tickets.specs.View.{JournalView, TokenView, hold_with}

-- It holds of a journal as it was and as it is, of which this is shown.
pub record HasJournals (shows is : JournalView → JournalView → Type 0) : Type 0 where
  pub before : JournalView
  pub after : JournalView
  pub shown : shows before after
  pub holds : is before after

-- the journal is of this machine, of which its entries are a run
pub record IsOfRun (config : Config) (journal : JournalView) : Type 0 where
  pub size : journal.config ≡ config
  pub last : State
  pub run : IsRun (opening config) journal.entries last

-- What the entry of a draft leaves of the journal, the token and the draft, on cells that are held.
pub record IsEntry (config : Config) (command : Command) (before after : JournalView) (old new : TokenView) (cells : List HeldCell) (draft : Draft)
    (result : Result ℕ CommitFault) : Type 0 where
  pub of_run : IsOfRun config before
  pub ticket : IfOk result (λ ticket. ticket ≡ length before.entries)
  pub journal : OnOk result (HasGained old.cpu command (given_of draft.answer) before after)
  pub side : OnOk result (side_of after.side ≡ side_changed (known_cell cells) (side_of before.side) (change_of draft.answer))
  pub token : IfOk result (λ ticket. HasListed old command (record { ticket = ticket; reply = given_of draft.answer }) new)
  pub owed : OnOk result (IsDecided config old.cpu command (hold_with before old cells) draft)
  pub entered : OnOk result (IsEnteredOn draft old.cpu cells)
  pub told : IfOk result (λ ticket. old.seen ≤ ticket)
  pub short : length before.entries < old.seen → result ≡ Err Disagrees
  pub cause : IfErr result (λ fault. HasCause fault config command before old cells)
  pub kept_journal : OnErr result (HasGainedNone before after)
  pub kept_token : IfErr result (λ fault. HasFailed old fault new)
  pub kept_draft : OnErr result (draft.entered ≡ None)

-- What a commit leaves of the journal, the token and what is held.
pub record IsCommit (config : Config) (command : Command) (before after : JournalView) (old new : TokenView) (hold new_hold : Hold)
    (result : Result Done CommitFault) : Type 0 where
  pub of_run : IsOfRun config before
  pub ticket : IfOk result (λ done. done.ticket ≡ length before.entries)
  pub journal : IfOk result (λ done. HasGained old.cpu command done.reply before after)
  pub token : IfOk result (λ done. HasCommitted old command done new)
  pub told : IfOk result (λ done. old.seen ≤ done.ticket)
  pub short : length before.entries < old.seen → result ≡ Err Disagrees
  pub step : IfOk result (λ done. LocalStep config old.cpu command done.reply
      (hold_with before old (hold_cells hold)) (hold_with after new (hold_cells new_hold)))
  pub cause : IfErr result (λ fault. HasCause fault config command before old (hold_cells hold))
  pub kept_journal : OnErr result (HasGainedNone before after)
  pub kept_token : IfErr result (λ fault. HasFailed old fault new)
  pub kept_hold : OnErr result (new_hold ≡ hold)
