-- What the slots of a table and its words stand for.
use Rattle.std.specs.Prelude.{◌≡◌, ℕ, ◌+◌, ◌*◌, ◌≤◌, List, [], ◌++◌, length, map, take, drop, Option, Some, None, option_map}
use Rattle.std.specs.List.{AllByRecursion}
use Rattle.arrayvec.specs.ArrayVec.{ArrayVec}
use Rattle.rmm_spec.specs.declared.reply.Reply.{Reply}
use Rattle.rmm_spec.specs.declared.reply.Reply.TheVariants as reply
use Rattle.merging.specs.Events.{Moment, Call, Commit, Return}
use Rattle.merging.specs.Table.{Happened, IsHappened, slot_at}
use Rattle.merging.specs.declared.slot.What.{What}
use Rattle.merging.specs.declared.slot.What.TheVariants as what
use Rattle.merging.specs.declared.slot.Slot.{Slot}

abbrev pub words_at : List ℕ → ℕ → ℕ → ArrayVec ℕ
words_at words first count = record { items = take count (drop first words) }

abbrev pub moment_at : List ℕ → ℕ → What → Option Moment
moment_at words first what.Nothing = None
moment_at words first (what.Call function count) = Some (Call (record { function = function; words = words_at words first count }))
moment_at words first (what.CommitOk count) = Some (Commit (reply.Ok (words_at words first count)))
moment_at words first (what.CommitErr status index) = Some (Commit (reply.Err status index))
moment_at words first what.CommitMisplaced = Some (Commit reply.Misplaced)
moment_at words first (what.ReturnOk count) = Some (Return (reply.Ok (words_at words first count)))
moment_at words first (what.ReturnErr status index) = Some (Return (reply.Err status index))
moment_at words first what.ReturnMisplaced = Some (Return reply.Misplaced)

-- of a slot with this line and CPU
abbrev pub happened_by : ℕ → ℕ → Option Moment → Option Happened
happened_by line cpu moment = option_map (λ (m : Moment). record { line = line; cpu = cpu; moment = m }) moment

abbrev pub happened_in : List ℕ → Slot → Option Happened
happened_in words slot = happened_by slot.line slot.cpu (moment_at words slot.first slot.what)

abbrev pub slots_in : List ℕ → List Slot → List (Option Happened)
slots_in words slots = map (happened_in words) slots

-- the slot of a stamp that no event has
abbrev pub vacant : Slot
vacant = record { line = 0; first = 0; cpu = 0; what = what.Nothing }

-- how many words a moment has
abbrev pub word_count_of : What → ℕ
word_count_of what.Nothing = 0
word_count_of (what.Call function count) = count
word_count_of (what.CommitOk count) = count
word_count_of (what.CommitErr status index) = 0
word_count_of what.CommitMisplaced = 0
word_count_of (what.ReturnOk count) = count
word_count_of (what.ReturnErr status index) = 0
word_count_of what.ReturnMisplaced = 0

-- of so many words, the slot has at most ten
pub record HasWords (size : ℕ) (slot : Slot) : Type 0 where
  pub within : slot.first + word_count_of slot.what ≤ size
  pub few : word_count_of slot.what ≤ 10

-- The fields of a table: each slot has its words, and stands for what may happen.
pub record IsHeld (count : ℕ) (words : List ℕ) (slots : List Slot) : Type 0 where
  pub each : AllByRecursion (HasWords (length words)) slots
  pub happened : (stamp : ℕ) (slot : Happened) → slot_at (slots_in words slots) stamp ≡ Some slot → IsHappened slot
  pub few_words : length words ≤ 10 * count
  pub few : count ≤ 2000000
  pub few_slots : length slots ≤ 2000000

-- ---- what is kept of a moment

abbrev pub reply_words : Reply → List ℕ
reply_words (reply.Ok words) = words.items
reply_words (reply.Err status index) = []
reply_words reply.Misplaced = []

abbrev pub moment_words : Moment → List ℕ
moment_words (Call command) = command.words.items
moment_words (Commit given) = reply_words given
moment_words (Return given) = reply_words given

abbrev pub commit_what : Reply → What
commit_what (reply.Ok words) = what.CommitOk (length words.items)
commit_what (reply.Err status index) = what.CommitErr status index
commit_what reply.Misplaced = what.CommitMisplaced

abbrev pub return_what : Reply → What
return_what (reply.Ok words) = what.ReturnOk (length words.items)
return_what (reply.Err status index) = what.ReturnErr status index
return_what reply.Misplaced = what.ReturnMisplaced

abbrev pub what_of : Moment → What
what_of (Call command) = what.Call command.function (length command.words.items)
what_of (Commit given) = commit_what given
what_of (Return given) = return_what given

-- words of its own stand at a place
pub record AreAt (words own : List ℕ) (first : ℕ) : Type 0 where
  pub found : take (length own) (drop first words) ≡ own
  pub within : first + length own ≤ length words

-- they stand there behind or among the old ones, which stay
pub record IsPlaced (old new own : List ℕ) (first : ℕ) : Type 0 where
  pub more : List ℕ
  pub grown : new ≡ old ++ more
  pub few : length more ≤ 10
  pub are_at : AreAt new own first
