-- Words as bytes, one more at a time, and bytes as words.
use Rattle.std.proofs.Common.{◌≡◌, ℕ, zero, suc, ◌+◌, ◌*◌, ◌<◌, ◌≤◌, List, [], ◌∷◌, ◌++◌, length, take, drop, get_or, refl, sym, ap, ◌∙◌, arith, length-drop}
use Rattle.std.proofs.lemmas.List.{drop-drop, flat_map_more, get_or-drop, length-take-le, take-append-drop, take_more}
use Rattle.std.proofs.lemmas.Nat.{le_bytes_8}
use Rattle.std.specs.Int.{w64, from_le_bytes, to_le_bytes}
use Rattle.byteorder.specs.Endian.{IsRead, little_number}
use Rattle.byteorder.specs.Numbers.{little_from-take}
use Rattle.rmm_spec.specs.Measure.{first_words, words_bytes}

-- the bytes of one more word stand after those of the words before it
pub words_bytes-take_more : (before words : List ℕ) (i : ℕ) → i < length words
    → before ++ words_bytes (take (i + 1) words) ≡ (before ++ words_bytes (take i words)) ++ to_le_bytes w64 (get_or words i 0)
unfolding words_bytes
words_bytes-take_more before words i below =
    rw (take_more words i 0 below) (sym (flat_map_more (to_le_bytes w64) before (take i words) (get_or words i 0)))

-- eight bytes make one number, whether their worths are added up or taken in turn
little_number-8 : (bytes : List ℕ) → little_number 8 bytes ≡ from_le_bytes w64 bytes
little_number-8 bytes = omega arith

-- words that were read in turn are the first words of the bytes
pub first_words_from_read : (count : ℕ) (words bytes : List ℕ) → length words ≡ count → IsRead little_number 8 bytes words
    → words ≡ first_words count bytes
unfolding first_words
first_words_from_read zero [] bytes long read = refl
first_words_from_read zero (word ∷ words) bytes long read = absurd (omega arith)
first_words_from_read (suc count) [] bytes long read = absurd (omega arith)
first_words_from_read (suc count) (word ∷ words) bytes long read =
    let front : word ≡ from_le_bytes w64 bytes = read 0 (omega arith) ∙ little_number-8 bytes in
    let later : IsRead little_number 8 (drop 8 bytes) words = λ k below.
    let place : 8 * suc k ≡ 8 + 8 * k = omega arith in
    rw (drop-drop (8 * k) 8 bytes, ← place) (read (suc k) (omega arith)) in
    let rest = first_words_from_read count words (drop 8 bytes) (omega arith) later in
    λ i. front i ∷ rest i

-- what stands in front of a list of bytes are bytes, and past its end the default 0 is one too
get_or-take-lt : (count : ℕ) (bytes : List ℕ) (i : ℕ) → ((k : ℕ) → get_or bytes k 0 < 256) → get_or (take count bytes) i 0 < 256
get_or-take-lt zero bytes i small = omega arith
get_or-take-lt (suc count) [] i small = omega arith
get_or-take-lt (suc count) (byte ∷ bytes) zero small = small 0
get_or-take-lt (suc count) (byte ∷ bytes) (suc i) small = get_or-take-lt count bytes i (λ k. small (suc k))

-- a word of the first eight bytes gives them back
to_le_bytes-from_le_bytes : (bytes : List ℕ) → 8 ≤ length bytes → ((i : ℕ) → get_or bytes i 0 < 256)
    → to_le_bytes w64 (from_le_bytes w64 bytes) ≡ take 8 bytes
to_le_bytes-from_le_bytes bytes long small =
    let same : from_le_bytes w64 bytes ≡ from_le_bytes w64 (take 8 bytes) =
    sym (little_number-8 bytes) ∙ sym (little_from-take 0 8 8 bytes (omega arith)) ∙ little_number-8 (take 8 bytes) in
    le_bytes_8 (take 8 bytes) (from_le_bytes w64 bytes) (length-take-le 8 bytes long) (λ i. get_or-take-lt 8 bytes i small) same

-- the first words of so many bytes give the bytes back
pub words_bytes-first_words : (count : ℕ) (bytes : List ℕ) → length bytes ≡ 8 * count → ((i : ℕ) → get_or bytes i 0 < 256)
    → words_bytes (first_words count bytes) ≡ bytes
unfolding first_words words_bytes
words_bytes-first_words zero [] long small = refl
words_bytes-first_words zero (byte ∷ bytes) long small = absurd (omega arith)
words_bytes-first_words (suc count) bytes long small =
    let long_rest : length (drop 8 bytes) ≡ 8 * count = omega (arith, length-drop 8 bytes) in
    let small_rest : (i : ℕ) → get_or (drop 8 bytes) i 0 < 256 = λ i. rw (get_or-drop 8 bytes i 0) (small (8 + i)) in
    let rest = words_bytes-first_words count (drop 8 bytes) long_rest small_rest in
    ap (λ front. front ++ words_bytes (first_words count (drop 8 bytes))) (to_le_bytes-from_le_bytes bytes (omega arith) small)
    ∙ ap (λ later. take 8 bytes ++ later) rest ∙ take-append-drop 8 bytes
