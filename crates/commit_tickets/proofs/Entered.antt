-- A draft is entered and settled.
use Rattle.commit_tickets.proofs.Common.{◌≡◌, ℕ, ◌+◌, ◌≤◌, List, [], ◌∷◌, ◌++◌, None, inl, refl, sym, ap, ◌∙◌, subst, arith, Ok, Err, Command, Reply, Config, HeldCell, LocalStep, given_of, change_of, place_of, hold_cells, IsCommit, JournalView, TokenView, hold_with}
use Rattle.std.proofs.Common.{inr}
use Rattle.std.specs.Prelude.{Result, IfErr}
use Rattle.rmm_spec.specs.Local.{Hold}
use Rattle.world_laws.specs.Replaced.{replaced_all}
use Rattle.command_core.specs.Changed.{new_cells, new_place}
use Rattle.granule_lock.specs.declared.hold.Hold as lock
use Rattle.commit_tickets.specs.Commits.{IsEntry}
use Rattle.commit_tickets.specs.declared.draft.Draft.{Draft}
use Rattle.commit_tickets.specs.declared.fault.CommitFault.{CommitFault}
use Rattle.commit_tickets.specs.declared.fault.CommitFault.TheVariants.{NoMemory, Disagrees}
use Rattle.commit_tickets.specs.Faults.{HasCause}
use Rattle.commit_tickets.specs.Left.{HasGained}

-- a fault of a token whose list has more room had its cause with less
cause-less : (fault : CommitFault) (config : Config) (command : Command)
    (journal : JournalView) (token : TokenView) (cells : List HeldCell) (room : ℕ)
    → token.room ≤ room → HasCause fault config command journal (record token { room = room }) cells
    → HasCause fault config command journal token cells
cause-less NoMemory config command journal token cells room more (inl full) = inl full
cause-less NoMemory config command journal token cells room more (inr (inl full)) = inr (inl (omega (arith, more, full)))
cause-less NoMemory config command journal token cells room more (inr (inr table)) = inr (inr table)
cause-less Disagrees config command journal token cells room more cause = cause

causes-less : (result : Result ℕ CommitFault) (config : Config) (command : Command)
    (journal : JournalView) (token : TokenView) (cells : List HeldCell)
    (room : ℕ) → token.room ≤ room → IfErr result (λ fault. HasCause fault config command journal (record token { room = room }) cells)
    → IfErr result (λ fault. HasCause fault config command journal token cells)
causes-less (Ok ticket) config command journal token cells room more cause = tt
causes-less (Err fault) config command journal token cells room more cause = cause-less fault config command journal token cells room more cause

-- what is left of a token whose list has more room is left of it with less
pub IsEntry-less : (config : Config) (command : Command) (before after : JournalView) (token drafted new : TokenView) (cells : List HeldCell)
    (draft : Draft) (result : Result ℕ CommitFault) → drafted ≡ record token { room = drafted.room } → token.room ≤ drafted.room
    → IsEntry config command before after drafted new cells draft result → IsEntry config command before after token new cells draft result
IsEntry-less config command before after token drafted new cells draft result is more had =
    let entry : IsEntry config command before after (record token { room = drafted.room }) new cells draft result =
    subst (λ t. IsEntry config command before after t new cells draft result) is had in record {
      of_run = entry.of_run;
      ticket = entry.ticket;
      journal = entry.journal;
      side = entry.side;
      token = entry.token;
      owed = entry.owed;
      entered = entry.entered;
      told = entry.told;
      short = entry.short;
      cause = causes-less result config command before token cells drafted.room more entry.cause;
      kept_journal = entry.kept_journal;
      kept_token = entry.kept_token;
      kept_draft = entry.kept_draft;
    }

module _ (config : Config) (command : Command) (before after : JournalView)
    (token entered new : TokenView) (hold new_hold : lock.Hold) (draft : Draft) where
  -- a draft that was entered and settled is committed
  pub committed : (ticket : ℕ) (reply : Reply) → IsEntry config command before after token entered (hold_cells hold) draft (Ok ticket)
      → reply ≡ given_of draft.answer
      → hold_cells new_hold ≡ replaced_all (hold_cells hold) (new_cells (hold_cells hold) (change_of draft.answer))
      → place_of new.place ≡ new_place (hold_cells hold) (place_of entered.place) (change_of draft.answer)
      → new ≡ record entered { place = new.place }
      → IsCommit config command before after token new hold new_hold (Ok (record { ticket = ticket; reply = reply }))
  committed ticket reply entry is_reply cells place is_new =
      let there : place_of new.place ≡ new_place (hold_cells hold) (place_of token.place) (change_of draft.answer) =
      place ∙ ap (λ (t : TokenView). new_place (hold_cells hold) (place_of t.place) (change_of draft.answer)) entry.token in
      record {
        of_run = entry.of_run;
        ticket = entry.ticket;
        journal = subst (λ given. HasGained token.cpu command given before after) (sym is_reply) entry.journal;
        token = is_new ∙ ap (λ (t : TokenView). record t { place = new.place }) entry.token
            ∙ (λ i. record token {
              place = new.place;
              mine = token.mine ++ record { ticket = ticket; command = command; reply = sym is_reply i } ∷ [];
              room = ap (λ (t : TokenView). t.room) (sym is_new) i;
              fault = None;
              seen = ticket + 1;
            });
        told = entry.told;
        short = λ few. absurd (let other : Ok ticket ≡ Err Disagrees = entry.short few in cc);
        step = subst (λ (p : Reply × Hold). LocalStep config token.cpu command p.0 (hold_with before token (hold_cells hold)) p.1)
            (λ i. (sym is_reply i, record { cells = sym cells i; side = sym entry.side i; place = sym there i })) entry.owed.decision.decides;
        cause = tt;
        kept_journal = tt;
        kept_token = tt;
        kept_hold = tt;
      }

  -- and one that was refused isn't
  pub refused : (fault : CommitFault) → IsEntry config command before after token new (hold_cells hold) draft (Err fault)
      → IsCommit config command before after token new hold hold (Err fault)
  refused fault entry = record {
    of_run = entry.of_run;
    ticket = tt;
    journal = tt;
    token = tt;
    told = tt;
    short = λ few. let told = entry.short few in let is : fault ≡ Disagrees = cc in ap Err is;
    step = tt;
    cause = entry.cause;
    kept_journal = entry.kept_journal;
    kept_token = entry.kept_token;
    kept_hold = refl;
  }
