-- A reply that the held cells give and the books don't.
use Rattle.commit_tickets.proofs.Common.{◌≡◌, List, subst, Config, Command, Reply, HeldCell, IsRun, State, opening, Step, JournalView, TokenView, hold_with}
use Rattle.rmm_spec.specs.declared.change.Change.{Change}
use Rattle.command_core.specs.Changed.{hold_changed, Decides}
use Rattle.commit_tickets.specs.Faults.{Disagree}
use Rattle.commit_tickets.proofs.Runs.{refused-at_end}

-- what is decided on the cells, and not given at the end of the journal's run, disagrees
pub refused-disagree : (config : Config) (command : Command) (inside journal : JournalView) (within token : TokenView) (cells : List HeldCell)
    (given : Reply) (change : Change) (books : State) → inside ≡ journal → within ≡ token → inside.config ≡ config
    → Decides config within.cpu command (hold_with journal within cells) given change
    → IsRun (opening inside.config) inside.entries books → ((next : State) → Step books within.cpu command given next → ⊥)
    → Disagree config token.cpu command (hold_with journal token cells) journal.entries
refused-disagree config command inside journal within token cells given change books is_journal is_token is_config decides run none =
    let disagree : Disagree config within.cpu command (hold_with journal within cells) inside.entries = record {
      given = given;
      new = hold_changed (hold_with journal within cells) change;
      step = decides;
      refused = refused-at_end (opening config) inside.entries books within.cpu command given
          (subst (λ (x : Config). IsRun (opening x) inside.entries books) is_config run) none;
    } in
    subst (λ (p : JournalView × TokenView). Disagree config p.1.cpu command (hold_with journal p.1 cells) p.0.entries)
    (λ i. (is_journal i, is_token i)) disagree
