-- What a commit leaves of the journal and of its CPU's token.
use Rattle.std.specs.Prelude.{◌≡◌, ℕ, ◌+◌, [], ◌∷◌, ◌++◌, Some, None}
use Rattle.rmm_spec.specs.declared.command.Command.{Command}
use Rattle.rmm_spec.specs.declared.reply.Reply.{Reply}
use Rattle.commit_tickets.specs.declared.committing.Done.{Done}
use Rattle.commit_tickets.specs.declared.fault.CommitFault.{CommitFault}
use Rattle.commit_tickets.specs.View.{JournalView, TokenView, entry}

-- the journal has one entry more, and the side table to which that has led
abbrev pub HasGained : ℕ → Command → Reply → JournalView → JournalView → Type 0
HasGained cpu command given old new = new ≡ record old {
  entries = old.entries ++ entry cpu command given ∷ [];
  side = new.side;
  room = new.room;
}

-- the journal is as before, perhaps with more room
abbrev pub HasGainedNone : JournalView → JournalView → Type 0
HasGainedNone old new = new ≡ record old { room = new.room }

-- the token lists one commit more, and was told of all up to it
abbrev pub HasListed : TokenView → Command → Done → TokenView → Type 0
HasListed old command done new = new ≡ record old {
  mine = old.mine ++ record { ticket = done.ticket; command = command; reply = done.reply } ∷ [];
  room = new.room;
  fault = None;
  seen = done.ticket + 1;
}

-- and the CPU may be elsewhere
abbrev pub HasCommitted : TokenView → Command → Done → TokenView → Type 0
HasCommitted old command done new = HasListed (record old { place = new.place }) command done new

-- nothing was committed, for which the token keeps the fault
abbrev pub HasFailed : TokenView → CommitFault → TokenView → Type 0
HasFailed old fault new = new ≡ record old { room = new.room; fault = Some fault }
