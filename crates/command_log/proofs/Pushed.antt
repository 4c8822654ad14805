-- What one more entry leaves of the list.
use Rattle.std.proofs.Common.{◌≡◌, ℕ, ◌+◌, ◌-◌, ◌/◌, ◌≤◌, List, [], ◌∷◌, ◌++◌, length, take, drop, refl, sym, ap, ◌∙◌, subst, arith, length-append, append_assoc}
use Rattle.std.proofs.Math.Nat.{min-le_left, min-le_right, le-min}
use Rattle.std.proofs.Math.Seq.{drop-append_seam, take-append_seam, take-length}
use Rattle.std.proofs.lemmas.List.{take-append-le, drop-append-le, length-drop, map-append}
use Rattle.std.specs.List.{AllByRecursion}
use Rattle.rmm_spec.specs.declared.function_id.FunctionId.{FunctionId}
use Rattle.rmm_spec.specs.declared.reply.Reply.{Reply}
use Rattle.rmm_spec.specs.declared.reply.Reply.TheVariants as reply
use Rattle.spec_lemmas.proofs.Lines.{each-weaker}
use Rattle.spec_lemmas.proofs.Texts.{AllByRecursion-append}
use Rattle.rmi_view.specs.Seen.{HasFewWords}
use Rattle.command_log.specs.Log.{words_at, count_of, given_at, given_of, words_of, logged_in, room_of, HasWords}
use Rattle.command_log.specs.declared.line.Given.{Given}
use Rattle.command_log.specs.declared.line.Given.TheVariants as given
use Rattle.command_log.specs.declared.line.Line.{Line}

-- ---- words at the end leave those before them

words_at-append : (words more : List ℕ) (first count : ℕ)
    → first + count ≤ length words → words_at (words ++ more) first count ≡ words_at words first count
words_at-append words more first count within =
    let before : first ≤ length words = omega (arith, within) in
    let enough : count ≤ length (drop first words) = omega (arith, within, length-drop first words) in
    ap (λ (ws : List ℕ). record { items = ws })
    (ap (take count) (drop-append-le first words more before) ∙ take-append-le count (drop first words) more enough)

given_at-append : (words more : List ℕ) (first : ℕ) (g : Given)
    → first + count_of g ≤ length words → given_at (words ++ more) first g ≡ given_at words first g
given_at-append words more first (given.Ok count) within = ap reply.Ok (words_at-append words more first count within)
given_at-append words more first (given.Err status index) within = refl
given_at-append words more first given.Misplaced within = refl

logged_in-append : {T : Type 0} (words more : List ℕ) (lines : List (Line T)) → AllByRecursion (HasWords (length words)) lines
    → logged_in (words ++ more) lines ≡ logged_in words lines
logged_in-append words more [] each = refl
logged_in-append words more (line ∷ lines) each =
    let own : line.first + line.count ≤ length words = omega (arith, each.0.within) in
    let command = words_at-append words more line.first line.count own in
    let reply_is = given_at-append words more (line.first + line.count) line.given each.0.within in
    λ i. record { mark = line.mark; command = record { function = line.function; words = command i }; given = reply_is i }
    ∷ logged_in-append words more lines each.1 i

HasWords-more : {T : Type 0} (size more : ℕ) (line : Line T) → HasWords size line → HasWords (size + more) line
HasWords-more size more line has = record { within = omega (arith, has.within); few = has.few; few_given = has.few_given }

-- ---- the words of the last entry

words_at-seam : (words own : List ℕ) (rest : List ℕ) → words_at ((words ++ own) ++ rest) (length words) (length own) ≡ record { items = own }
words_at-seam words own rest = ap (λ (ws : List ℕ). record { items = ws })
    (ap (λ ws. take (length own) (drop (length words) ws)) (append_assoc words own rest)
    ∙ ap (take (length own)) (drop-append_seam words (own ++ rest)) ∙ take-append_seam own rest)

given_at-seam : (words : List ℕ) (r : Reply) → given_at (words ++ words_of r) (length words) (given_of r) ≡ r
given_at-seam words (reply.Ok ws) =
    ap (λ (items : List ℕ). reply.Ok (record { items = items }))
    (ap (take (length ws.items)) (drop-append_seam words ws.items) ∙ take-length ws.items)
given_at-seam words (reply.Err status index) = refl
given_at-seam words reply.Misplaced = refl

count_of-given_of : (r : Reply) → count_of (given_of r) ≡ length (words_of r)
count_of-given_of (reply.Ok ws) = refl
count_of-given_of (reply.Err status index) = refl
count_of-given_of reply.Misplaced = refl

pub words_of-few : (r : Reply) → HasFewWords r → length (words_of r) ≤ 10
words_of-few (reply.Ok ws) few = few
words_of-few (reply.Err status index) few = omega arith
words_of-few reply.Misplaced few = omega arith

-- ---- one more entry

-- an entry takes room for one at most
pub room_of-pushed : (lines words new_lines new_words : ℕ) → lines ≤ new_lines + 1 → words ≤ new_words + 20
    → room_of lines words ≤ room_of new_lines new_words + 1
room_of-pushed lines words new_lines new_words left left_words =
    let by_lines : room_of lines words - 1 ≤ new_lines = omega (arith, left, min-le_left lines (words / 20)) in
    let by_words : room_of lines words - 1 ≤ new_words / 20 = omega (arith, left_words, min-le_right lines (words / 20)) in
    omega (arith, le-min by_lines by_words)

-- An entry was pushed: its words stand behind all others, the command's before the reply's, and its line tells where.
pub record IsPushed {T : Type 0} (mark : T) (function : FunctionId) (own : List ℕ)
    (r : Reply) (words new_words : List ℕ) (lines new_lines : List (Line T)) : Type 0 where
  pub first : ℕ
  pub kept : Given
  pub is_words : new_words ≡ (words ++ own) ++ words_of r
  pub is_lines : new_lines ≡ lines ++ record { mark = mark; function = function; count = length own; given = kept; first = first } ∷ []
  pub is_first : first ≡ length words
  pub is_kept : kept ≡ given_of r

module _ {T : Type 0} (mark : T) (function : FunctionId) (own : List ℕ) (r : Reply) (words new_words : List ℕ) (lines new_lines : List (Line T))
    (pushed : IsPushed mark function own r words new_words lines new_lines) (each : AllByRecursion (HasWords (length words)) lines) where
  last : Line T
  last = record { mark = mark; function = function; count = length own; given = pushed.kept; first = pushed.first }

  pub length-lines : length new_lines ≡ length lines + 1
  unfolding last
  length-lines = ap length pushed.is_lines ∙ length-append lines (last ∷ [])

  pub length-words : length new_words ≡ length words + (length own + length (words_of r))
  length-words = omega (arith, ap length pushed.is_words, length-append (words ++ own) (words_of r), length-append words own)

  pub HasWords-pushed : length own ≤ 10 → HasFewWords r → AllByRecursion (HasWords (length new_words)) new_lines
  unfolding last
  HasWords-pushed few few_given =
      let more = length own + length (words_of r) in
      let count = ap count_of pushed.is_kept ∙ count_of-given_of r in
      subst (AllByRecursion (HasWords (length new_words))) (sym pushed.is_lines)
      (AllByRecursion-append (HasWords (length new_words)) lines (last ∷ [])
      (subst (λ size. AllByRecursion (HasWords size) lines) (sym length-words)
      (each-weaker (HasWords (length words)) (HasWords (length words + more)) (HasWords-more (length words) more) lines each)) (
        record {
          within = omega (arith, length-words, count, pushed.is_first);
          few = few;
          few_given = omega (arith, count, words_of-few r few_given);
        },
        tt,
      ))

  pub logged_in-pushed : logged_in new_words new_lines
      ≡ logged_in words lines ++ record { mark = mark; command = record { function = function; words = record { items = own } }; given = r } ∷ []
  logged_in-pushed =
      let before = ap (λ ws. logged_in ws lines) (append_assoc words own (words_of r)) ∙ logged_in-append words (own ++ words_of r) lines each in
      let command = words_at-seam words own (words_of r) in
      let behind : length words + length own ≡ length (words ++ own) = sym (length-append words own) in
      let is : given_at ((words ++ own) ++ words_of r) (length words + length own) (given_of r) ≡ r =
      ap (λ n. given_at ((words ++ own) ++ words_of r) n (given_of r)) behind ∙ given_at-seam (words ++ own) r in
      (λ i. logged_in (pushed.is_words i) (pushed.is_lines i))
      ∙ (λ i. logged_in ((words ++ own) ++ words_of r)
      (lines ++ record { mark = mark; function = function; count = length own; given = pushed.is_kept i; first = pushed.is_first i } ∷ []))
      ∙ map-append _ lines _
      ∙ (λ i. before i ++ record { mark = mark; command = record { function = function; words = command i }; given = is i } ∷ [])
