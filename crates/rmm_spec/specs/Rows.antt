-- A command's rows as data: what must hold, and why it is refused where that doesn't.
-- Statuses and their order are those of DEN0137 (RMI_ERROR_INPUT, RMI_ERROR_REALM, RMI_ERROR_REC, RMI_ERROR_RTT).
use Rattle.std.specs.Prelude.{ℕ, Bool, List, [], ◌∷◌, Option, Some, None, Result, Ok, Err, if◌then◌else◌}
use Rattle.std.specs.List.{list_all}
use Rattle.rmm_spec.specs.declared.accepted.Accepted.{Accepted}
use Rattle.rmm_spec.specs.declared.accepted.Accepted.TheVariants.{Done}
use Rattle.rmm_spec.specs.declared.change.Change.{Change}
use Rattle.rmm_spec.specs.declared.condition.Condition.{Condition}
use Rattle.rmm_spec.specs.declared.condition.Condition.TheVariants.{GranState}
use Rattle.rmm_spec.specs.declared.refusal.Refusal.{Refusal}
use Rattle.rmm_spec.specs.declared.refusal.Refusal.TheVariants.{Misplaced, Input, Realm, Rec, Rtt}
use Rattle.rmm_spec.specs.declared.reply.Reply.{Reply}
use Rattle.rmm_spec.specs.declared.reply.Reply.TheVariants as reply
use Rattle.rmm_spec.specs.declared.tag.Tag.{Tag}
use Rattle.rmm_spec.specs.State.{State}
use Rattle.rmm_spec.specs.Lookup.{has_tag}

pub record Row : Type 0 where
  pub holds : Bool
  pub otherwise : Refusal

-- the refusal of the first row that doesn't hold, or what is done where all hold
abbrev pub decided : List Row → Accepted → Result Accepted Refusal
decided [] accepted = Ok accepted
decided (row ∷ rows) accepted = if row.holds then decided rows accepted else Err row.otherwise

-- what is answered: a status, and its index
abbrev pub reply_of : Refusal → Reply
reply_of (Misplaced condition) = reply.Misplaced
reply_of (Input condition) = reply.Err 1 0
reply_of (Realm condition index) = reply.Err 2 index
reply_of (Rec condition) = reply.Err 3 0
reply_of (Rtt condition level) = reply.Err 4 level

-- the reply of a status and its index, or of none
abbrev pub replied : Option (ℕ × ℕ) → Reply
replied None = reply.Misplaced
replied (Some (status, index)) = reply.Err status index

abbrev pub row : Refusal → Bool → Row
row otherwise holds = record { holds = holds; otherwise = otherwise }

abbrev pub ok : List ℕ → Reply
ok words = reply.Ok (record { items = words })

-- the reply has these words, and this is changed
abbrev pub done : List ℕ → Change → Accepted
done words change = Done (record { items = words }) change

-- what is answered where the words, or what they name, are refused
abbrev pub input_error : Reply
input_error = reply.Err 1 0

-- ---- rows

-- what the words say, and what they name
abbrev pub input : Condition → Bool → Row
input condition = row (Input condition)

-- how far the realm has come
abbrev pub realm_row : Condition → Bool → Row
realm_row condition = row (Realm condition 0)

-- what the REC is about
abbrev pub rec_row : Condition → Bool → Row
rec_row condition = row (Rec condition)

-- the level of the table or entry that is in the way
abbrev pub rtt_row : Condition → ℕ → Bool → Row
rtt_row condition level = row (Rtt condition level)

-- ---- the rows in front

-- a condition on a command's words alone
pub record Word : Type 0 where
  pub condition : Condition
  pub allowed : Bool

abbrev pub word : Condition → Bool → Word
word condition allowed = record { condition = condition; allowed = allowed }

abbrev pub all_allowed : List Word → Bool
all_allowed words = list_all (λ (w : Word). w.allowed) words

-- each is allowed, before the rows behind
abbrev pub inputs : List Word → List Row → List Row
inputs [] rows = rows
inputs (first ∷ others) rows = input first.condition first.allowed ∷ inputs others rows

-- a granule that a command names, and the tag that it needs there
pub record Needed : Type 0 where
  pub granule : ℕ
  pub tag : Tag

-- each granule has its tag, else ERROR_INPUT, before the rows behind
abbrev pub tagged : State → List Needed → List Row → List Row
tagged s [] rows = rows
tagged s (needed ∷ others) rows = input GranState (has_tag s needed.granule needed.tag) ∷ tagged s others rows
