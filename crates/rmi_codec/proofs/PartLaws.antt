-- Lines read part by part: the first space, words, and the three forms of a reply.
use Rattle.std.proofs.Common.{◌≡◌, ◌≢◌, ℕ, ◌+◌, ◌^◌, ◌<◌, ◌≤◌, Bool, true, false, if◌then◌else◌, ◌==◌, cond, ltb, List, [], ◌∷◌, ◌++◌, map, length, get_or, take, drop, codes, Some, None, Option, position, refl, sym, ap, nat_lt, inl, inr, ◌∙◌, arith, lit≤}
use Rattle.std.specs.List.{AllByRecursion, position_or_len, slice_split}
use Rattle.std.specs.Option.{unwrap_or}
use Rattle.std.proofs.lemmas.Bool.{cases_eq}
use Rattle.std.proofs.lemmas.Bool.Decides.{nat_tests}
use Rattle.std.proofs.lemmas.List.{drop-drop, length-drop, take_all}
use Rattle.std.proofs.lemmas.List.Elements.{All-from_get_or}
use Rattle.std.proofs.lemmas.List.Quantifiers.{position-Some}
use Rattle.std.proofs.lemmas.List.Splits.{join_with_byte-slice_split, slice_split_none, slice_split_first, length-slice_split}
use Rattle.std.proofs.lemmas.List.Sums.{position_or_len_is, fails_before_first}
use Rattle.arrayvec.specs.ArrayVec.{ArrayVec}
use Rattle.rmm_spec.specs.declared.function_id.FunctionId.{FunctionId}
use Rattle.rmm_spec.specs.declared.function_id.FunctionId.TheVariants.{GranuleDelegate}
use Rattle.rmm_spec.specs.declared.reply.Reply.{Reply}
use Rattle.rmm_spec.specs.declared.reply.Reply.TheVariants as reply
use Rattle.rmm_spec.specs.CommandText.{AreWords, IsReply, reply_parts}
use Rattle.rmm_spec.specs.Function.{word_count}
use Rattle.rmm_spec.specs.Text.{decimal, word, line_text, parts_of}
use Rattle.spec_lemmas.proofs.Texts.{IsPart, decimal-injective}
use Rattle.rmi_codec.specs.Spaced.{parts_behind, parts_from}
use Rattle.lemmas.proofs.Tests.{keys_apart}

abbrev is_space : ℕ → Bool
is_space byte = byte == 32

-- where a line has a space, its first part ends at the first one
parts_of-Some : (line : List ℕ) (end : ℕ)
    → position (λ byte. byte == 32) line ≡ Some end → (end < length line) × (parts_of line ≡ take end line ∷ parts_of (drop 1 (drop end line)))
parts_of-Some line end e =
    let h = position-Some is_space line end 0 e in
    let inside : end < length line = h.0 in
    let place : position_or_len is_space line ≡ end = position_or_len_is is_space line end 0 (omega arith) h.2 (λ _. h.1) in
    let before : position_or_len is_space line < length line = omega arith in
    let cut = slice_split_first is_space line 0 before in (
      inside,
      cut ∙ ap (λ k. take k line ∷ slice_split is_space (drop (k + 1) line)) place
          ∙ ap (λ rest. take end line ∷ slice_split is_space rest) (sym (drop-drop 1 end line)),
    )

none_from_test : (b : Bool) (n : ℕ) → cond b (Some n) None ≡ None → b ≡ false
none_from_test true n e = absurd (cc)
none_from_test false n e = refl

-- without a space the line is the one part
parts_of-None : (line : List ℕ) → position (λ byte. byte == 32) line ≡ None → parts_of line ≡ line ∷ []
parts_of-None line e =
    let test : ltb (position_or_len is_space line) (length line) ≡ false = none_from_test _ (position_or_len is_space line) e in
    let past : length line ≤ position_or_len is_space line = grind (arith, nat_tests) in
    slice_split_none is_space line
    (All-from_get_or (λ byte. is_space byte ≡ false) line 0 (λ k h. fails_before_first is_space line k 0 (omega arith)))

-- nothing stands behind the end of a line
pub parts_behind-end : (line : List ℕ) (end : ℕ) → end ≡ length line → parts_behind end line ≡ []
parts_behind-end line end last = let test : (end == length line) ≡ true = grind (arith, nat_tests) in rw test

-- behind a space stand the parts of the rest
pub parts_behind-space : (line : List ℕ) (end : ℕ) → end ≢ length line → parts_behind end line ≡ parts_of (drop 1 (drop end line))
parts_behind-space line end goes_on = let test : (end == length line) ≡ false = grind (arith, nat_tests) in rw test

-- the first part ends at the first space, where there is one
cut_first : (line : List ℕ) (o : Option ℕ)
    → position is_space line ≡ o → parts_of line ≡ take (unwrap_or o (length line)) line ∷ parts_behind (unwrap_or o (length line)) line
cut_first line None e =
    parts_of-None line e ∙ ap (λ part. part ∷ []) (sym (take_all (length line) line (omega arith)))
    ∙ ap (λ rest. take (length line) line ∷ rest) (sym (parts_behind-end line (length line) refl))
cut_first line (Some end) e =
    let cut = parts_of-Some line end e in
    cut.1 ∙ ap (λ rest. take end line ∷ rest) (sym (parts_behind-space line end (λ last. omega (arith, cut.0, last))))

-- the first part ends at the first space, or with the line
pub parts_of-first : (line : List ℕ) → parts_of line
    ≡ take (unwrap_or (position is_space line) (length line)) line ∷ parts_behind (unwrap_or (position is_space line) (length line)) line
parts_of-first line = cut_first line (position is_space line) refl

-- a line has a part
pub parts_of-some : (line : List ℕ) → parts_of line ≢ []
parts_of-some line e = omega (arith, ap length e, length-slice_split is_space line)

-- from a place within a line on there are the parts of the rest
pub parts_from-within : (line : List ℕ) (at : ℕ) → at ≤ length line → parts_from at line ≡ parts_of (drop at line)
parts_from-within line at within = let test : nat_lt (length line) at ≡ false = grind (arith, nat_tests) in rw test

-- past a line's end there is none
pub parts_from-past : (line : List ℕ) (at : ℕ) → length line < at → parts_from at line ≡ []
parts_from-past line at past = let test : nat_lt (length line) at ≡ true = grind (arith, nat_tests) in rw test

-- the parts behind one are those from the place behind its space
pub parts_from-behind : (line : List ℕ) (at count next : ℕ)
    → at + count ≤ length line → next ≡ at + count + 1 → parts_from next line ≡ parts_behind count (drop at line)
parts_from-behind line at count next within is_next =
    elim (cases_eq count (length (drop at line))) [
      | inl last ↦ parts_from-past line next (omega (arith, length-drop at line, last, is_next)) ∙ sym (parts_behind-end (drop at line) count last)
      | inr other ↦
          let inside : next ≤ length line = omega (arith, length-drop at line, other) in
          let same : drop next line ≡ drop 1 (drop count (drop at line)) =
          rw is_next (sym (ap (drop 1) (drop-drop count at line) ∙ drop-drop 1 (at + count) line)) in
          parts_from-within line next inside ∙ ap parts_of same ∙ sym (parts_behind-space (drop at line) count other)
    ]

over_cases : (is_over : Bool) (ps parts : List (List ℕ))
    → ps ≢ [] → (if is_over then [] else ps) ≡ parts → (is_over ≡ true → parts ≡ []) × (parts ≡ [] → is_over ≡ true)
over_cases true ps parts some view = ((λ _. sym view), (λ _. refl))
over_cases false ps parts some view = ((λ bad. absurd (cc)), (λ none. absurd (some (view ∙ none))))

-- what is left is nothing past the line's end, and nowhere else
pub over_only : (line : List ℕ) (at : ℕ) (parts : List (List ℕ))
    → parts_from at line ≡ parts → (nat_lt (length line) at ≡ true → parts ≡ []) × (parts ≡ [] → nat_lt (length line) at ≡ true)
over_only line at parts view = over_cases (nat_lt (length line) at) (parts_of (drop at line)) parts (parts_of-some (drop at line)) view

-- a text is the line of its parts
pub line_text-from_parts : (text : List ℕ) (parts : List (List ℕ)) → parts_of text ≡ parts → text ≡ line_text parts
line_text-from_parts text parts e = sym (join_with_byte-slice_split 32 text) ∙ ap (λ ps. line_text ps) e

-- no part is empty
pub no_empty_part : (bytes part : List ℕ) (rest others parts : List (List ℕ))
    → (length bytes == 0) ≡ true → parts ≡ bytes ∷ rest → parts ≡ part ∷ others → IsPart part → ⊥
no_empty_part bytes part rest others parts test next e is_part =
    let same : bytes ≡ part = cc in
    let none : length bytes ≡ 0 = grind (arith, nat_tests) in
    let some = is_part.some in
    omega (arith, ap length same)

pub no_empty_first_part : (bytes : List ℕ) (rest parts ps : List (List ℕ))
    → (length bytes == 0) ≡ true → parts ≡ bytes ∷ rest → parts ≡ ps → AllByRecursion IsPart ps → ⊥
no_empty_first_part bytes rest parts [] test next e are_parts = let bad : [] ≡ bytes ∷ rest = sym e ∙ next in cc
no_empty_first_part bytes rest parts (part ∷ ps) test next e are_parts = no_empty_part bytes part rest ps parts test next e are_parts.0

-- parts begin with one number
pub same_first : (parts rest others : List (List ℕ)) (m n : ℕ) → parts ≡ decimal m ∷ rest → parts ≡ decimal n ∷ others → m ≡ n
same_first parts rest others m n next e = decimal-injective m n (ap (λ ps. get_or ps 0 []) (sym next ∙ e))

-- ---- words

word-at : (ws : List ℕ) (front rest : List (List ℕ)) (part : List ℕ) → AreWords ws
    → map word ws ≡ front ++ part ∷ rest → (w : ℕ) × (w < 2 ^ 64) × (part ≡ word w)
word-at [] [] rest part h e = absurd (cc)
word-at [] (first ∷ front) rest part h e = absurd (cc)
word-at (w ∷ ws) [] rest part h e = let same : word w ≡ part = cc in (w, h.0, sym same)
word-at (w ∷ ws) (first ∷ front) rest part h e =
    let tails : map word ws ≡ front ++ part ∷ rest = cc in
    word-at ws front rest part h.1 tails

-- among words each part is one
pub word_among : (xs ws : List ℕ) (entry parts rest : List (List ℕ)) (part : List ℕ) → entry ≡ map word xs ++ parts
    → parts ≡ part ∷ rest → AreWords ws → entry ≡ map word ws → (w : ℕ) × (w < 2 ^ 64) × (part ≡ word w)
word_among xs ws entry parts rest part read next are_words e =
    word-at ws (map word xs) rest part are_words (sym e ∙ read ∙ ap (λ ps. map word xs ++ ps) next)

-- where a part is left, it is a word
pub words_go_on : (xs ws : List ℕ) (entry parts : List (List ℕ)) → entry ≡ map word xs ++ parts → parts ≢ []
    → ((w : ℕ) (rest : List (List ℕ)) → w < 2 ^ 64 → parts ≢ word w ∷ rest) → AreWords ws → entry ≡ map word ws → ⊥
words_go_on xs ws entry [] read some none are_words e = some refl
words_go_on xs ws entry (part ∷ rest) read some none are_words e =
    let among = word_among xs ws entry (part ∷ rest) rest part read refl are_words e in
    none among.0 rest among.1 (ap (λ p. p ∷ rest) among.2)

-- ---- replies

pub reply_parts-ok : (r : Reply) (rest : List (List ℕ)) → IsReply r → codes "ok" ∷ rest ≡ reply_parts r
    → (ws : ArrayVec ℕ) × (r ≡ reply.Ok ws) × (rest ≡ map word ws.items) × (length ws.items ≤ 10) × AreWords ws.items
unfolding reply_parts
reply_parts-ok (reply.Ok ws) rest h e = (ws, refl, ap (λ ps. drop 1 ps) e, h.0, h.1)
reply_parts-ok (reply.Err status index) rest h e = absurd (keys_apart 111 101 refl (ap (λ ps. get_or (get_or ps 0 []) 0 0) e))
reply_parts-ok reply.Misplaced rest h e = absurd (keys_apart 111 109 refl (ap (λ ps. get_or (get_or ps 0 []) 0 0) e))

pub reply_parts-err : (r : Reply) (rest : List (List ℕ)) → IsReply r → codes "err" ∷ rest ≡ reply_parts r
    → (status index : ℕ) × (r ≡ reply.Err status index) × (rest ≡ decimal status ∷ decimal index ∷ []) × (status < 256) × (index < 256)
unfolding reply_parts
reply_parts-err (reply.Ok ws) rest h e = absurd (keys_apart 101 111 refl (ap (λ ps. get_or (get_or ps 0 []) 0 0) e))
reply_parts-err (reply.Err status index) rest h e = (status, index, refl, ap (λ ps. drop 1 ps) e, h.0, h.1)
reply_parts-err reply.Misplaced rest h e = absurd (keys_apart 101 109 refl (ap (λ ps. get_or (get_or ps 0 []) 0 0) e))

pub reply_parts-misplaced : (r : Reply) (rest : List (List ℕ)) → codes "misplaced" ∷ rest ≡ reply_parts r → (r ≡ reply.Misplaced) × (rest ≡ [])
unfolding reply_parts
reply_parts-misplaced (reply.Ok ws) rest e = absurd (keys_apart 109 111 refl (ap (λ ps. get_or (get_or ps 0 []) 0 0) e))
reply_parts-misplaced (reply.Err status index) rest e = absurd (keys_apart 109 101 refl (ap (λ ps. get_or (get_or ps 0 []) 0 0) e))
reply_parts-misplaced reply.Misplaced rest e = (refl, ap (λ ps. drop 1 ps) e)

-- a reply has one of three forms
pub no_other_form : (r : Reply) (form : List ℕ) (rest parts : List (List ℕ))
    → parts ≡ form ∷ rest → parts ≡ reply_parts r → form ≢ codes "ok" → form ≢ codes "err" → form ≢ codes "misplaced" → ⊥
unfolding reply_parts
no_other_form (reply.Ok ws) form rest parts next e ok err misplaced = ok (ap (λ ps. get_or ps 0 []) (sym next ∙ e))
no_other_form (reply.Err status index) form rest parts next e ok err misplaced = err (ap (λ ps. get_or ps 0 []) (sym next ∙ e))
no_other_form reply.Misplaced form rest parts next e ok err misplaced = misplaced (ap (λ ps. get_or ps 0 []) (sym next ∙ e))

-- no function takes more words than there is room for
pub word_count-le : (f : FunctionId) → word_count f ≤ 10
unfolding word_count
word_count-le GranuleDelegate = lit≤ tt
word_count-le _ = lit≤ tt
