-- The journal, and what its CPUs' tokens list.
use Rattle.std.specs.Prelude.{◌≡◌, ℕ, zero, suc, ◌==◌, if◌then◌else◌, List, [], ◌∷◌, get_or, map}
use Rattle.rmm_spec.specs.Run.{JournalEntry}
use Rattle.commit_tickets.specs.declared.numbers.Numbers.{Numbers}
use Rattle.commit_tickets.specs.declared.unlisted.Unlisted.{Unlisted}
use Rattle.commit_tickets.specs.Entries.{Committed, entry_of}
use Rattle.commit_tickets.specs.View.{TokenView}

-- an entry as the token of its CPU lists it
abbrev pub commit_at : ℕ → JournalEntry → Committed
commit_at ticket entry = record { ticket = ticket; command = entry.command; reply = entry.given }

-- the commits of one CPU among entries of which the first has this ticket
abbrev pub listed_from : ℕ → ℕ → List JournalEntry → List Committed
listed_from ticket cpu [] = []
listed_from ticket cpu (entry ∷ entries) =
    if entry.cpu == cpu then commit_at ticket entry ∷ listed_from (suc ticket) cpu entries else listed_from (suc ticket) cpu entries

-- what the token at a CPU's place lists, and nothing where there is no token
abbrev pub mine_of : List TokenView → ℕ → List Committed
mine_of [] cpu = []
mine_of (token ∷ tokens) zero = token.mine
mine_of (token ∷ tokens) (suc cpu) = mine_of tokens cpu

-- The tokens list the entries: each CPU's are its token's list, each once, at its ticket and in order.
abbrev pub AreListed : List TokenView → List JournalEntry → Type 0
AreListed tokens entries = (cpu : ℕ) → listed_from 0 cpu entries ≡ mine_of tokens cpu

-- the journal's entries that were compared, and that aren't listed
abbrev pub unlisted_entries : Unlisted → List JournalEntry
unlisted_entries unlisted = map entry_of unlisted.entries.value.logged

-- ---- numbers

-- the number of each CPU's next commit
abbrev pub numbers_of : Numbers → ℕ → ℕ
numbers_of numbers cpu = get_or numbers.next cpu 0
