-- What is called by a name stays a word, and a moment that is renamed stays one.
use Rattle.std.proofs.Common.{◌≡◌, ℕ, suc, ◌+◌, ◌*◌, ◌^◌, ◌<◌, ◌≤◌, List, [], ◌∷◌, length, Option, Some, None, refl, ap, ◌∙◌, arith}
use Rattle.std.specs.Prelude.{option_map, unwrap_or}
use Rattle.rmm_spec.specs.declared.version.Version.TheVariants.{Large}
use Rattle.rmm_spec.specs.HistoryText.{granule_limit}
use Rattle.rmm_spec.specs.declared.function_id.FunctionId.{FunctionId}
use Rattle.rmm_spec.specs.declared.reply.Reply.{Reply}
use Rattle.rmm_spec.specs.declared.reply.Reply.TheVariants as reply
use Rattle.rmm_spec.specs.CommandText.{AreWords, IsReply}
use Rattle.merging.specs.Events.{Moment, Call, Commit, Return, IsMoment}
use Rattle.merging.specs.Names.{number_in, called, called_words}
use Rattle.merging.specs.Roles.{command_roles, answer_roles, role_at}
use Rattle.merging.specs.Renamed.{renamed_reply, renamed_moment}
use Rattle.merging.specs.declared.roles.Role.{Role}
use Rattle.merging.specs.declared.roles.Role.TheVariants.{Granule, Page, Other}
use Rattle.merging.proofs.NameLaws.{small_number}

granule-word : (names : List ℕ) (granules word : ℕ) (o : Option ℕ)
    → number_in names word ≡ o → length names ≤ granule_limit Large → granules ≤ granule_limit Large
    → 4096 * unwrap_or o granules < 2 ^ 64
granule-word names granules word None is few size = omega (arith, size)
granule-word names granules word (Some n) is few size = omega (arith, small_number names word n few is)

page-word : (names : List ℕ) (word : ℕ) (o : Option ℕ) → number_in names word ≡ o → length names ≤ granule_limit Large → word < 2 ^ 64
    → unwrap_or (option_map (λ n. 4096 * n) o) word < 2 ^ 64
page-word names word None is few below = below
page-word names word (Some n) is few below = omega (arith, small_number names word n few is)

called-word : (names : List ℕ) (granules : ℕ) (role : Role) (word : ℕ)
    → length names ≤ granule_limit Large → granules ≤ granule_limit Large → word < 2 ^ 64
    → called names granules role word < 2 ^ 64
called-word names granules Granule word few size below = granule-word names granules word (number_in names word) refl few size
called-word names granules Page word few size below = page-word names word (number_in names word) refl few below
called-word names granules Other word few size below = below

length-called_words : (names : List ℕ) (granules : ℕ) (roles : List Role) (place : ℕ) (words : List ℕ)
    → length (called_words names granules roles place words) ≡ length words
length-called_words names granules roles place [] = refl
length-called_words names granules roles place (word ∷ words) = ap suc (length-called_words names granules roles (place + 1) words)

AreWords-called : (names : List ℕ) (granules : ℕ) (roles : List Role) (place : ℕ) (words : List ℕ)
    → length names ≤ granule_limit Large → granules ≤ granule_limit Large
    → AreWords words → AreWords (called_words names granules roles place words)
AreWords-called names granules roles place [] few size are = tt
AreWords-called names granules roles place (word ∷ words) few size are =
    (called-word names granules (role_at roles place) word few size are.0, AreWords-called names granules roles (place + 1) words few size are.1)

IsReply-renamed : (names : List ℕ) (granules : ℕ) (last : Option FunctionId) (given : Reply)
    → length names ≤ granule_limit Large → granules ≤ granule_limit Large
    → IsReply given → IsReply (renamed_reply names granules last given)
IsReply-renamed names granules last (reply.Ok words) few size is = (
  omega (arith, is.0, length-called_words names granules (answer_roles last words.items) 0 words.items),
  AreWords-called names granules (answer_roles last words.items) 0 words.items few size is.1,
)
IsReply-renamed names granules last (reply.Err status index) few size is = is
IsReply-renamed names granules last reply.Misplaced few size is = is

pub IsMoment-renamed : (names : List ℕ) (granules : ℕ) (last : Option FunctionId) (moment : Moment)
    → length names ≤ granule_limit Large → granules ≤ granule_limit Large
    → IsMoment moment → IsMoment (renamed_moment names granules last moment)
IsMoment-renamed names granules last (Call command) few size is = record {
  counted = length-called_words names granules (command_roles command.function) 0 command.words.items ∙ is.counted;
  words = AreWords-called names granules (command_roles command.function) 0 command.words.items few size is.words;
}
IsMoment-renamed names granules last (Commit given) few size is = IsReply-renamed names granules last given few size is
IsMoment-renamed names granules last (Return given) few size is = IsReply-renamed names granules last given few size is
