-- What the lines and the words of a list stand for.
use Rattle.std.specs.Prelude.{ℕ, ◌+◌, ◌-◌, ◌/◌, ◌≤◌, min, List, [], length, map, take, drop, Option, IfSome, Vec, vec_len, vec_capacity}
use Rattle.arrayvec.specs.ArrayVec.{ArrayVec}
use Rattle.rmm_spec.specs.declared.command.Command.{Command}
use Rattle.rmm_spec.specs.declared.reply.Reply.{Reply}
use Rattle.rmm_spec.specs.declared.reply.Reply.TheVariants as reply
use Rattle.rmi_view.specs.Seen.{HasFewWords, command_seen, reply_seen}
use Rattle.command_log.specs.declared.line.Given.{Given}
use Rattle.command_log.specs.declared.line.Given.TheVariants as given
use Rattle.command_log.specs.declared.line.Line.{Line}
use Rattle.command_log.specs.declared.line.Logged.{Logged}

-- A command, what it was answered, and its caller's mark.
pub record Entry (T : Type 0) : Type 0 where
  pub mark : T
  pub command : Command
  pub given : Reply

-- All entries in their order, and for how many more there is room.
pub record LogView (T : Type 0) : Type 0 where
  pub logged : List (Entry T)
  pub room : ℕ

abbrev pub logged_seen : {T : Type 0} → Logged T → Entry T
logged_seen entry = record { mark = entry.mark; command = command_seen entry.command; given = reply_seen entry.reply }

-- command and reply have at most ten words
abbrev pub AreFew : {T : Type 0} → Option (Logged T) → Type 0
AreFew found = IfSome found (λ entry. (length entry.command.words.now ≤ 10) × HasFewWords (reply_seen entry.reply))

-- ---- lines and words

abbrev pub spare : {X Z : Type 0} → Vec X Z → ℕ
spare v = vec_capacity v - vec_len v

-- room by the lines and the words that still fit
abbrev pub room_of : ℕ → ℕ → ℕ
room_of lines words = min lines (words / 20)

abbrev pub words_at : List ℕ → ℕ → ℕ → ArrayVec ℕ
words_at words first count = record { items = take count (drop first words) }

abbrev pub count_of : Given → ℕ
count_of (given.Ok count) = count
count_of (given.Err status index) = 0
count_of given.Misplaced = 0

abbrev pub given_at : List ℕ → ℕ → Given → Reply
given_at words first (given.Ok count) = reply.Ok (words_at words first count)
given_at words first (given.Err status index) = reply.Err status index
given_at words first given.Misplaced = reply.Misplaced

abbrev pub command_at : {T : Type 0} → List ℕ → Line T → Command
command_at words line = record { function = line.function; words = words_at words line.first line.count }

abbrev pub reply_at : {T : Type 0} → List ℕ → Line T → Reply
reply_at words line = given_at words (line.first + line.count) line.given

abbrev pub logged_in : {T : Type 0} → List ℕ → List (Line T) → List (Entry T)
logged_in words lines = map (λ line. record { mark = line.mark; command = command_at words line; given = reply_at words line }) lines

-- of so many words, the line has at most ten for its command and ten for its reply
pub record HasWords {T : Type 0} (size : ℕ) (line : Line T) : Type 0 where
  pub within : line.first + line.count + count_of line.given ≤ size
  pub few : line.count ≤ 10
  pub few_given : count_of line.given ≤ 10

-- ---- a reply that is put in

abbrev pub words_of : Reply → List ℕ
words_of (reply.Ok words) = words.items
words_of (reply.Err status index) = []
words_of reply.Misplaced = []

abbrev pub given_of : Reply → Given
given_of (reply.Ok words) = given.Ok (length words.items)
given_of (reply.Err status index) = given.Err status index
given_of reply.Misplaced = given.Misplaced
