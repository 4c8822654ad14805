-- What a reader's faults say of a whole line, from what they say of its rest.
use Rattle.std.proofs.Common.{◌≡◌, ◌≢◌, ℕ, ◌+◌, ◌^◌, ◌<◌, ◌≤◌, true, ◌==◌, List, [], ◌∷◌, ◌++◌, map, length, get_or, drop, codes, inl, inr, refl, sym, ap, subst, ◌∙◌, arith, add-one}
use Rattle.std.specs.List.{Any, Contains}
use Rattle.std.proofs.lemmas.Bool.Decides.{nat_tests}
use Rattle.std.proofs.lemmas.List.{get_or_at, length-append}
use Rattle.rmm_spec.specs.declared.function_id.FunctionId.{FunctionId}
use Rattle.rmm_spec.specs.Function.{number_of, word_count}
use Rattle.rmm_spec.specs.Text.{decimal, word, fixed_hex}
use Rattle.rmi_codec.specs.declared.fault.CodecFault.{CodecFault}
use Rattle.rmi_codec.specs.declared.fault.CodecFault.TheVariants.{UnknownNumber, WordCount, BadWord, BadSpacing, BadForm}
use Rattle.rmi_codec.specs.Faults.{IsNoWord, IsNoByte, IsCommandFault, IsReplyFault, IsPartFault, IsWordsFault, IsSmallFault, IsEndFault}
use Rattle.rmi_codec.proofs.PartLaws.{word_count-le}
use Rattle.lemmas.proofs.Tests.{keys_apart}
use Rattle.lemmas.proofs.Members.{Contains-tail}

-- a part that stands behind others is one of them all
pub Any-among : {X : Type 0} (P : X → Type 0) (front : List X) (x : X) (rest : List X) → P x → Any P (front ++ x ∷ rest)
Any-among P front x rest h = (length front, x, omega (arith, length-append front (x ∷ rest)), get_or_at front x rest x (length front) refl, h)

Contains-among : {X : Type 0} (front : List X) (x : X) (rest : List X) → Contains (front ++ x ∷ rest) x
Contains-among front x rest = (length front, omega (arith, length-append front (x ∷ rest)), get_or_at front x rest x (length front) refl)

nil_from_test : (bytes : List ℕ) → (length bytes == 0) ≡ true → [] ≡ bytes
nil_from_test [] test = refl
nil_from_test (byte ∷ bytes) test = absurd (grind (arith, nat_tests))

-- an empty part that stands behind others
pub Contains-nil_among : (entry front parts rest : List (List ℕ)) (part : List ℕ)
    → entry ≡ front ++ parts → parts ≡ part ∷ rest → (length part == 0) ≡ true → Contains entry []
Contains-nil_among entry front parts rest part read next test =
    let P : List (List ℕ) → Type 0 = λ ps. Contains ps [] in
    let whole : entry ≡ front ++ [] ∷ rest = read ∙ ap (λ ps. front ++ ps) (next ∙ ap (λ p. p ∷ rest) (sym (nil_from_test part test))) in
    subst P (sym whole) (Contains-among front [] rest)

pub Any-read : (P : List ℕ → Type 0) (entry front parts rest : List (List ℕ)) (part : List ℕ)
    → entry ≡ front ++ parts → parts ≡ part ∷ rest → P part → Any P entry
Any-read P entry front parts rest part read next h =
    let Q : List (List ℕ) → Type 0 = λ ps. Any P ps in
    subst Q (sym (read ∙ ap (λ ps. front ++ ps) next)) (Any-among P front part rest h)

-- a fault of a part that is to be a word is one of the words
pub IsWordsFault-from_part : (excess told : CodecFault) (xs : List ℕ) (entry parts : List (List ℕ)) → entry ≡ map word xs ++ parts → parts ≢ []
    → ((w : ℕ) (rest : List (List ℕ)) → w < 2 ^ 64 → parts ≢ word w ∷ rest) → IsPartFault told parts → IsWordsFault excess told entry
IsWordsFault-from_part excess UnknownNumber xs entry parts read some none h = absurd h
IsWordsFault-from_part excess WordCount xs entry parts read some none h = absurd h
IsWordsFault-from_part excess BadWord xs entry [] read some none h = absurd (some refl)
IsWordsFault-from_part excess BadWord xs entry (part ∷ rest) read some none h =
    inl (refl, Any-read IsNoWord entry (map word xs) (part ∷ rest) rest part read refl (λ w small same. none w rest small (ap (λ p. p ∷ rest) same)))
IsWordsFault-from_part excess BadSpacing xs entry parts read some none h =
    inr (inl (refl, Contains-nil_among entry (map word xs) parts h.0 [] read h.1 refl))
IsWordsFault-from_part excess BadForm xs entry parts read some none h = absurd (some h)

-- and one of a part that is to be a status is one of the status
pub IsSmallFault-from_part : (told : CodecFault) (parts : List (List ℕ))
    → ((n : ℕ) (rest : List (List ℕ)) → n ≤ 255 → parts ≢ decimal n ∷ rest) → IsPartFault told parts → IsSmallFault told parts
IsSmallFault-from_part UnknownNumber parts none h = h
IsSmallFault-from_part WordCount parts none h = h
IsSmallFault-from_part BadWord [] none h = absurd (h refl)
IsSmallFault-from_part BadWord (part ∷ rest) none h =
    Any-read IsNoByte (part ∷ rest) [] (part ∷ rest) rest part refl refl (λ n small same. none n rest (omega arith) (ap (λ p. p ∷ rest) same))
IsSmallFault-from_part BadSpacing parts none h = Contains-nil_among parts [] parts h.0 [] refl h.1 refl
IsSmallFault-from_part BadForm parts none h = h

Any-cons : {X : Type 0} (P : X → Type 0) (x : X) (xs : List X) → Any P xs → Any P (x ∷ xs)
Any-cons P x xs h = (h.0 + 1, h.1, omega (arith, h.2), rw (add-one h.0) h.3, h.4)

-- a command's function takes another count of words
pub WordCount-from : (f : FunctionId) (p : List ℕ) (rest parts : List (List ℕ))
    → parts ≡ p ∷ rest → p ≡ fixed_hex 8 (number_of f) → length rest ≢ word_count f → IsCommandFault WordCount parts
WordCount-from f p rest parts next is count = (f, rest, next ∙ ap (λ q. q ∷ rest) is, count)

-- a fault of a command's words is one of the command
pub IsCommandFault-from_words : (f : FunctionId) (p : List ℕ) (rest parts : List (List ℕ)) (told : CodecFault)
    → parts ≡ p ∷ rest → p ≡ fixed_hex 8 (number_of f) → IsWordsFault WordCount told rest → IsCommandFault told parts
IsCommandFault-from_words f p rest parts told next is (inl h) =
    let P : CodecFault → Type 0 = λ e. IsCommandFault e parts in
    let Q : List (List ℕ) → Type 0 = λ ps. Any IsNoWord (drop 1 ps) in
    subst P (sym h.0) (subst Q (sym next) h.1)
IsCommandFault-from_words f p rest parts told next is (inr (inl h)) =
    let P : CodecFault → Type 0 = λ e. IsCommandFault e parts in
    let Q : List (List ℕ) → Type 0 = λ ps. Contains ps [] in
    subst P (sym h.0) (subst Q (sym next) (Contains-tail p rest [] h.1))
IsCommandFault-from_words f p rest parts told next is (inr (inr h)) =
    let P : CodecFault → Type 0 = λ e. IsCommandFault e parts in
    let many = h.1 in
    let le = word_count-le f in
    subst P (sym h.0) (WordCount-from f p rest parts next is (λ counted. omega arith))

-- a fault of a reply's words is one of the reply
pub IsReplyFault-from_words : (rest : List (List ℕ)) (told : CodecFault) → IsWordsFault BadForm told rest → IsReplyFault told (codes "ok" ∷ rest)
IsReplyFault-from_words rest told (inl h) =
    let P : CodecFault → Type 0 = λ e. IsReplyFault e (codes "ok" ∷ rest) in
    subst P (sym h.0) (rest, inl (refl, h.1))
IsReplyFault-from_words rest told (inr (inl h)) =
    let P : CodecFault → Type 0 = λ e. IsReplyFault e (codes "ok" ∷ rest) in
    subst P (sym h.0) (Contains-tail (codes "ok") rest [] h.1)
IsReplyFault-from_words rest told (inr (inr h)) =
    let P : CodecFault → Type 0 = λ e. IsReplyFault e (codes "ok" ∷ rest) in
    let many = h.1 in
    subst P (sym h.0) (λ form others e.
    let tails : rest ≡ others = ap (λ ps. drop 1 ps) e in
    let form-is = ap (λ ps. get_or (get_or ps 0 []) 0 0) e in (
      (λ _. omega (arith, ap length tails)),
      (λ err. absurd (keys_apart 111 101 refl (form-is ∙ ap (λ bytes. get_or bytes 0 0) err))),
      (λ misplaced. absurd (keys_apart 111 109 refl (form-is ∙ ap (λ bytes. get_or bytes 0 0) misplaced))),
    ))

-- a refusal has another count of parts than a status and an index
err_form : (rest : List (List ℕ)) → length rest ≢ 2 → IsReplyFault BadForm (codes "err" ∷ rest)
err_form rest count = λ form others e.
    let tails : rest ≡ others = ap (λ ps. drop 1 ps) e in
    let form-is = ap (λ ps. get_or (get_or ps 0 []) 0 0) e in (
      (λ ok. absurd (keys_apart 101 111 refl (form-is ∙ ap (λ bytes. get_or bytes 0 0) ok))),
      (λ _ two. count (ap length tails ∙ two)),
      (λ misplaced. absurd (keys_apart 101 109 refl (form-is ∙ ap (λ bytes. get_or bytes 0 0) misplaced))),
    )

-- a fault of a status is one of the reply
pub IsReplyFault-from_status : (told : CodecFault) (rest : List (List ℕ)) → IsSmallFault told rest → IsReplyFault told (codes "err" ∷ rest)
IsReplyFault-from_status UnknownNumber rest h = h
IsReplyFault-from_status WordCount rest h = h
IsReplyFault-from_status BadWord rest h = (rest, inr (refl, h))
IsReplyFault-from_status BadSpacing rest h = Contains-tail (codes "err") rest [] h
IsReplyFault-from_status BadForm rest h = err_form rest (λ two. omega (arith, ap length h))

-- and so is one of an index behind it
pub IsReplyFault-from_index : (told : CodecFault) (status : List ℕ) (parts rest : List (List ℕ))
    → parts ≡ status ∷ rest → IsSmallFault told rest → IsReplyFault told (codes "err" ∷ parts)
IsReplyFault-from_index UnknownNumber status parts rest next h = h
IsReplyFault-from_index WordCount status parts rest next h = h
IsReplyFault-from_index BadWord status parts rest next h =
    let Q : List (List ℕ) → Type 0 = λ ps. Any IsNoByte ps in
    (parts, inr (refl, subst Q (sym next) (Any-cons IsNoByte status rest h)))
IsReplyFault-from_index BadSpacing status parts rest next h =
    let Q : List (List ℕ) → Type 0 = λ ps. Contains ps [] in
    Contains-tail (codes "err") parts [] (subst Q (sym next) (Contains-tail status rest [] h))
IsReplyFault-from_index BadForm status parts rest next h = err_form parts (λ two. omega (arith, ap length next, ap length h))

some_from : (rest : List (List ℕ)) → rest ≢ [] → 0 < length rest
some_from [] h = absurd (h refl)
some_from (part ∷ rest) h = omega arith

-- and one of the end behind both
pub IsReplyFault-from_err_end : (told : CodecFault) (status index : List ℕ) (parts mid rest : List (List ℕ))
    → parts ≡ status ∷ mid → mid ≡ index ∷ rest → IsEndFault told rest → IsReplyFault told (codes "err" ∷ parts)
IsReplyFault-from_err_end UnknownNumber status index parts mid rest first second h = h
IsReplyFault-from_err_end WordCount status index parts mid rest first second h = h
IsReplyFault-from_err_end BadWord status index parts mid rest first second h = absurd h
IsReplyFault-from_err_end BadSpacing status index parts mid rest first second h =
    let Q : List (List ℕ) → Type 0 = λ ps. Contains ps [] in
    Contains-tail (codes "err") parts [] (subst Q (sym first) (Contains-tail status mid [] (subst Q (sym second) (Contains-tail index rest [] h))))
IsReplyFault-from_err_end BadForm status index parts mid rest first second h =
    err_form parts (λ two. omega (arith, ap length first, ap length second, some_from rest h))

-- a fault of the end behind `misplaced` is one of the reply
pub IsReplyFault-from_end : (told : CodecFault) (rest : List (List ℕ)) → IsEndFault told rest → IsReplyFault told (codes "misplaced" ∷ rest)
IsReplyFault-from_end UnknownNumber rest h = h
IsReplyFault-from_end WordCount rest h = h
IsReplyFault-from_end BadWord rest h = absurd h
IsReplyFault-from_end BadSpacing rest h = Contains-tail (codes "misplaced") rest [] h
IsReplyFault-from_end BadForm rest h = λ form others e.
    let tails : rest ≡ others = ap (λ ps. drop 1 ps) e in
    let form-is = ap (λ ps. get_or (get_or ps 0 []) 0 0) e in (
      (λ ok. absurd (keys_apart 109 111 refl (form-is ∙ ap (λ bytes. get_or bytes 0 0) ok))),
      (λ err. absurd (keys_apart 109 101 refl (form-is ∙ ap (λ bytes. get_or bytes 0 0) err))),
      (λ _ over. h (tails ∙ over)),
    )
