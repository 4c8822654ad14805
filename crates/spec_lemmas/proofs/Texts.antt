-- Laws of the texts: which bytes a part has, and that a part, a line, a command and a reply have one spelling each.
use Rattle.std.proofs.Common.{◌≡◌, ◌≢◌, ℕ, zero, suc, ◌*◌, ◌/◌, ◌%◌, ◌^◌, ◌<◌, ◌≤◌, Bool, true, false, not, ◌&&◌, ◌==◌, List, [], ◌∷◌, ◌++◌, map, length, get_or, drop, if◌then◌else◌, refl, sym, ap, ◌∙◌, arith, lit<, lit≤}
use Rattle.std.specs.List.{AllByRecursion, All}
use Rattle.std.specs.Int.Digits.{digits_of}
use Rattle.std.proofs.lemmas.Bool.Decides.{nat_tests}
use Rattle.std.proofs.lemmas.Int.Digits.{length-digits_of_step, first_digits_of, same_from_digits_of}
use Rattle.std.proofs.lemmas.List.{length-append, length-map}
use Rattle.std.proofs.lemmas.List.Elements.{All-weaker, All-from_recursion}
use Rattle.std.proofs.lemmas.List.Splits.{slice_split_none, slice_split_at}
use Rattle.std.proofs.Math.Nat.{pow-suc}
use Rattle.rmm_spec.specs.declared.command.Command.{Command}
use Rattle.rmm_spec.specs.declared.event.Event.{Event}
use Rattle.rmm_spec.specs.declared.event.Event.TheVariants.{Called, Returned}
use Rattle.rmm_spec.specs.declared.function_id.FunctionId.{FunctionId}
use Rattle.rmm_spec.specs.declared.function_id.FunctionId.TheVariants.{GranuleDelegate, Exit}
use Rattle.rmm_spec.specs.declared.line.Line.{Line}
use Rattle.rmm_spec.specs.declared.line.Line.TheVariants.{Keep, Unfinished}
use Rattle.rmm_spec.specs.declared.reply.Reply.{Reply}
use Rattle.rmm_spec.specs.declared.reply.Reply.TheVariants as reply
use Rattle.rmm_spec.specs.CertificateText.{line_parts}
use Rattle.rmm_spec.specs.CommandText.{command_parts, reply_parts, IsCommand}
use Rattle.rmm_spec.specs.Function.{functions, number_of}
use Rattle.rmm_spec.specs.declared.version.Version.{Version}
use Rattle.rmm_spec.specs.declared.version.Version.TheVariants.{One, Two, Large}
use Rattle.rmm_spec.specs.HistoryText.{Config, mark, config_parts, event_parts}
use Rattle.rmm_spec.specs.Text.{glyph, numeral, decimal, word, fixed_hex, line_text, parts_of}
use Rattle.lemmas.proofs.Tests.{keys_apart}

-- a byte that ends neither a part nor a line
abbrev pub IsPlain : ℕ → Type 0
IsPlain byte = (byte ≢ 32) × (byte ≢ 10)

-- what may stand between two spaces of a line: some bytes, without a space and a newline
pub record IsPart (part : List ℕ) : Type 0 where
  pub some : 0 < length part
  pub plain : AllByRecursion IsPlain part

-- what holds of each element of two lists holds of each of both together
pub AllByRecursion-append : {X : Type 0} (P : X → Type 0) (xs ys : List X) → AllByRecursion P xs → AllByRecursion P ys → AllByRecursion P (xs ++ ys)
AllByRecursion-append P [] ys hx hy = hy
AllByRecursion-append P (x ∷ xs) ys hx hy = (hx.0, AllByRecursion-append P xs ys hx.1 hy)

-- a digit's byte is neither a space nor a newline
pub glyph-IsPlain : (d : ℕ) → IsPlain (glyph d)
glyph-IsPlain d = (grind (arith, nat_tests), grind (arith, nat_tests))

-- each digit has a byte of its own
pub glyph-injective : (a b : ℕ) → glyph a ≡ glyph b → a ≡ b
glyph-injective a b e = grind (arith, nat_tests)

pub map-glyph-injective : (xs ys : List ℕ) → map glyph xs ≡ map glyph ys → xs ≡ ys
map-glyph-injective [] [] e = refl
map-glyph-injective [] (y ∷ ys) e = absurd (cc)
map-glyph-injective (x ∷ xs) [] e = absurd (cc)
map-glyph-injective (x ∷ xs) (y ∷ ys) e =
    let heads : glyph x ≡ glyph y = cc in
    let tails : map glyph xs ≡ map glyph ys = cc in
    let x-is : x ≡ y = glyph-injective x y heads in
    let xs-is : xs ≡ ys = map-glyph-injective xs ys tails in
    cc

-- digits are plain bytes
pub map-glyph-plain : (ds : List ℕ) → AllByRecursion IsPlain (map glyph ds)
map-glyph-plain [] = tt
map-glyph-plain (d ∷ ds) = (glyph-IsPlain d, map-glyph-plain ds)

-- of a number that isn't 0
pub numeral_some : (b n : ℕ) → 0 < n → numeral b n ≡ map glyph (digits_of b n)
unfolding numeral
numeral_some b n h = let test : (n == 0) ≡ false = grind (arith, nat_tests) in rw test

pub numeral-zero : (b : ℕ) → numeral b 0 ≡ 48 ∷ []
unfolding numeral
numeral-zero b = refl

-- a number's digits are a part
pub numeral-IsPart : (b n : ℕ) → 2 ≤ b → IsPart (numeral b n)
numeral-IsPart b zero h =
    rw (numeral-zero b) (record { some = lit< tt; plain = ((λ e. absurd (omega arith), λ e. absurd (omega arith)), tt) })
numeral-IsPart b (suc n) h =
    let positive : 0 < suc n = omega arith in
    rw (numeral_some b (suc n) positive) (record {
      some = omega (arith, length-map (digits_of b (suc n)) glyph, length-digits_of_step b (suc n) h positive);
      plain = map-glyph-plain (digits_of b (suc n));
    })

-- digits that don't begin with 0 are not the digit 0
digits_apart : (ds : List ℕ) → 0 < get_or ds 0 0 → map glyph ds ≡ 48 ∷ [] → ⊥
digits_apart [] h e = omega arith
digits_apart (d ∷ ds) h e =
    let head : glyph d ≡ glyph 0 = cc in
    let d-is : d ≡ 0 = glyph-injective d 0 head in
    omega arith

numeral_apart : (b n : ℕ) → 2 ≤ b → 0 < n → numeral b n ≡ numeral b 0 → ⊥
numeral_apart b n h positive e =
    digits_apart (digits_of b n) (first_digits_of b n h positive) (sym (numeral_some b n positive) ∙ e ∙ numeral-zero b)

-- a number has one spelling in a base, and no other number has it
pub numeral-injective : (b m n : ℕ) → 2 ≤ b → numeral b m ≡ numeral b n → m ≡ n
numeral-injective b zero zero h e = refl
numeral-injective b zero (suc n) h e = absurd (numeral_apart b (suc n) h (omega arith) (sym e))
numeral-injective b (suc m) zero h e = absurd (numeral_apart b (suc m) h (omega arith) e)
numeral-injective b (suc m) (suc n) h e =
    let m-is = numeral_some b (suc m) (omega arith) in
    let n-is = numeral_some b (suc n) (omega arith) in
    same_from_digits_of b (suc m) (suc n) h (map-glyph-injective (digits_of b (suc m)) (digits_of b (suc n)) (sym m-is ∙ e ∙ n-is))

pub decimal-IsPart : (n : ℕ) → IsPart (decimal n)
unfolding decimal
decimal-IsPart n = numeral-IsPart 10 n (lit≤ tt)

pub decimal-injective : (m n : ℕ) → decimal m ≡ decimal n → m ≡ n
unfolding decimal
decimal-injective m n e = numeral-injective 10 m n (lit≤ tt) e

pub word-IsPart : (n : ℕ) → IsPart (word n)
unfolding word
word-IsPart n = numeral-IsPart 16 n (lit≤ tt)

pub word-injective : (m n : ℕ) → word m ≡ word n → m ≡ n
unfolding word
word-injective m n e = numeral-injective 16 m n (lit≤ tt) e

-- two lists with one element more at their ends
pub push-injective : {X : Type 0} (xs ys : List X) (x y : X) → xs ++ x ∷ [] ≡ ys ++ y ∷ [] → (xs ≡ ys) × (x ≡ y)
push-injective [] [] x y e = (refl, cc)
push-injective [] (z ∷ ys) x y e = absurd (omega (arith, ap length e, length-append ys (y ∷ [])))
push-injective (z ∷ xs) [] x y e = absurd (omega (arith, ap length e, length-append xs (x ∷ [])))
push-injective (w ∷ xs) (z ∷ ys) x y e =
    let heads : w ≡ z = cc in
    let tails : xs ++ x ∷ [] ≡ ys ++ y ∷ [] = cc in
    let rest : (xs ≡ ys) × (x ≡ y) = push-injective xs ys x y tails in
    (cc, rest.1)

pub length-fixed_hex : (count n : ℕ) → length (fixed_hex count n) ≡ count
unfolding fixed_hex
length-fixed_hex zero n = refl
length-fixed_hex (suc count) n =
    omega (arith, length-append (fixed_hex count (n / 16)) (glyph (n % 16) ∷ []), length-fixed_hex count (n / 16))

pub fixed_hex-plain : (count n : ℕ) → AllByRecursion IsPlain (fixed_hex count n)
unfolding fixed_hex
fixed_hex-plain zero n = tt
fixed_hex-plain (suc count) n =
    AllByRecursion-append IsPlain (fixed_hex count (n / 16)) (glyph (n % 16) ∷ []) (fixed_hex-plain count (n / 16)) (glyph-IsPlain (n % 16), tt)

pub fixed_hex-IsPart : (count n : ℕ) → 0 < count → IsPart (fixed_hex count n)
fixed_hex-IsPart count n h = record { some = omega (arith, length-fixed_hex count n); plain = fixed_hex-plain count n }

-- one digit more at the end
pub fixed_hex-suc : (count n : ℕ) → fixed_hex (suc count) n ≡ fixed_hex count (n / 16) ++ glyph (n % 16) ∷ []
unfolding fixed_hex
fixed_hex-suc count n = refl

-- numbers with room in so many digits have one spelling each
pub fixed_hex-injective : (count m n : ℕ) → m < 16 ^ count → n < 16 ^ count → fixed_hex count m ≡ fixed_hex count n → m ≡ n
fixed_hex-injective zero m n hm hn e = omega arith
fixed_hex-injective (suc count) m n hm hn e =
    let parts = push-injective (fixed_hex count (m / 16)) (fixed_hex count (n / 16)) _ _ (sym (fixed_hex-suc count m) ∙ e ∙ fixed_hex-suc count n) in
    let power : 16 ^ suc count ≡ 16 ^ count * 16 = pow-suc 16 count in
    let highs : m / 16 ≡ n / 16 = fixed_hex-injective count (m / 16) (n / 16) (omega arith) (omega arith) parts.0 in
    let lows : m % 16 ≡ n % 16 = glyph-injective (m % 16) (n % 16) parts.1 in
    omega arith

-- whether a part is in order, by computing
abbrev is_plain : List ℕ → Bool
is_plain [] = true
is_plain (byte ∷ bytes) = not (byte == 32) && not (byte == 10) && is_plain bytes

plain_from_test : (bytes : List ℕ) → is_plain bytes ≡ true → AllByRecursion IsPlain bytes
plain_from_test [] h = tt
plain_from_test (byte ∷ bytes) h =
    let space : byte ≢ 32 = grind (arith, nat_tests) in
    let newline : byte ≢ 10 = grind (arith, nat_tests) in
    let rest : is_plain bytes ≡ true = grind (arith, nat_tests) in
    ((space, newline), plain_from_test bytes rest)

-- bytes that are written out are a part where the test computes to true
pub IsPart-from_test : (byte : ℕ) (bytes : List ℕ) → is_plain (byte ∷ bytes) ≡ true → IsPart (byte ∷ bytes)
IsPart-from_test byte bytes h = record { some = omega arith; plain = plain_from_test (byte ∷ bytes) h }

-- ---- lines

pub not_spaces : (bytes : List ℕ) → AllByRecursion IsPlain bytes → All (λ byte. (byte == 32) ≡ false) bytes
not_spaces bytes h =
    All-weaker IsPlain (λ byte. (byte == 32) ≡ false) (λ byte plain. grind (arith, nat_tests)) bytes (All-from_recursion IsPlain bytes h)

no_newlines : (bytes : List ℕ) → AllByRecursion IsPlain bytes → AllByRecursion (λ byte. byte ≢ 10) bytes
no_newlines [] h = tt
no_newlines (byte ∷ bytes) h = (h.0.1, no_newlines bytes h.1)

-- the parts of a line are the ones that it was made of
pub parts_of-line_text : (parts : List (List ℕ)) → 0 < length parts → AllByRecursion IsPart parts → parts_of (line_text parts) ≡ parts
parts_of-line_text [] some h = absurd (omega arith)
parts_of-line_text (part ∷ []) some h = slice_split_none (λ byte. byte == 32) part (not_spaces part h.0.plain)
parts_of-line_text (part ∷ next ∷ parts) some h =
    slice_split_at (λ byte. byte == 32) part 32 (line_text (next ∷ parts)) (not_spaces part h.0.plain) refl
    ∙ ap (λ ps. part ∷ ps) (parts_of-line_text (next ∷ parts) (omega arith) h.1)

-- no line has a newline inside
pub line_text-has_no_newline : (parts : List (List ℕ)) → AllByRecursion IsPart parts → AllByRecursion (λ byte. byte ≢ 10) (line_text parts)
line_text-has_no_newline [] h = tt
line_text-has_no_newline (part ∷ []) h = no_newlines part h.0.plain
line_text-has_no_newline (part ∷ next ∷ parts) h =
    AllByRecursion-append (λ byte. byte ≢ 10) part (32 ∷ line_text (next ∷ parts)) (no_newlines part h.0.plain)
    ((λ e. absurd (omega arith)), line_text-has_no_newline (next ∷ parts) h.1)

-- ---- functions

-- the first of some functions that has the number
abbrev function_among : List FunctionId → ℕ → FunctionId
function_among [] n = Exit
function_among (f ∷ others) n = if number_of f == n then f else function_among others n

-- the function of a number
unfoldable pub function_numbered : ℕ → FunctionId
function_numbered n = function_among functions n

pub function_numbered-number_of : (f : FunctionId) → function_numbered (number_of f) ≡ f
unfolding function_numbered number_of
function_numbered-number_of GranuleDelegate = refl
function_numbered-number_of _ = refl

-- no two functions have one number
pub number_of-injective : (f g : FunctionId) → number_of f ≡ number_of g → f ≡ g
number_of-injective f g e = sym (function_numbered-number_of f) ∙ ap function_numbered e ∙ function_numbered-number_of g

-- each number has room in eight hex digits
pub number_of-lt : (f : FunctionId) → number_of f < 16 ^ 8
unfolding number_of
number_of-lt GranuleDelegate = lit< tt
number_of-lt _ = lit< tt

-- ---- commands and replies

words-are_parts : (words : List ℕ) → AllByRecursion IsPart (map word words)
words-are_parts [] = tt
words-are_parts (w ∷ words) = (word-IsPart w, words-are_parts words)

pub map-word-injective : (xs ys : List ℕ) → map word xs ≡ map word ys → xs ≡ ys
map-word-injective [] [] e = refl
map-word-injective [] (y ∷ ys) e = absurd (cc)
map-word-injective (x ∷ xs) [] e = absurd (cc)
map-word-injective (x ∷ xs) (y ∷ ys) e =
    let heads : word x ≡ word y = cc in
    let tails : map word xs ≡ map word ys = cc in
    let x-is : x ≡ y = word-injective x y heads in
    let xs-is : xs ≡ ys = map-word-injective xs ys tails in
    cc

pub command_parts-are_parts : (c : Command) → AllByRecursion IsPart (command_parts c)
unfolding command_parts
command_parts-are_parts c = (fixed_hex-IsPart 8 (number_of c.function) (lit< tt), words-are_parts c.words.items)

pub command_parts-some : (c : Command) → 0 < length (command_parts c)
unfolding command_parts
command_parts-some c = omega arith

-- no two commands have one text
pub command_parts-injective : (c d : Command) → command_parts c ≡ command_parts d → c ≡ d
unfolding command_parts
command_parts-injective c d e =
    let numbers : fixed_hex 8 (number_of c.function) ≡ fixed_hex 8 (number_of d.function) = ap (λ ps. get_or ps 0 []) e in
    let words : map word c.words.items ≡ map word d.words.items = ap (λ ps. drop 1 ps) e in
    let number : number_of c.function ≡ number_of d.function =
    fixed_hex-injective 8 _ _ (number_of-lt c.function) (number_of-lt d.function) numbers in
    let function : c.function ≡ d.function = number_of-injective c.function d.function number in
    let items : c.words.items ≡ d.words.items = map-word-injective c.words.items d.words.items words in
    λ i. record { function = function i; words = record { items = items i } }

pub reply_parts-are_parts : (r : Reply) → AllByRecursion IsPart (reply_parts r)
unfolding reply_parts
reply_parts-are_parts (reply.Ok words) = (IsPart-from_test _ _ refl, words-are_parts words.items)
reply_parts-are_parts (reply.Err status index) = (IsPart-from_test _ _ refl, (decimal-IsPart status, (decimal-IsPart index, tt)))
reply_parts-are_parts reply.Misplaced = (IsPart-from_test _ _ refl, tt)

pub reply_parts-some : (r : Reply) → 0 < length (reply_parts r)
unfolding reply_parts
reply_parts-some (reply.Ok words) = omega arith
reply_parts-some (reply.Err status index) = lit< tt
reply_parts-some reply.Misplaced = lit< tt

-- the first byte of the first part
abbrev first_byte : List (List ℕ) → ℕ
first_byte parts = get_or (get_or parts 0 []) 0 0

-- no two replies have one text
pub reply_parts-injective : (r s : Reply) → reply_parts r ≡ reply_parts s → r ≡ s
unfolding reply_parts
reply_parts-injective (reply.Ok xs) (reply.Ok ys) e =
    let words : map word xs.items ≡ map word ys.items = ap (λ ps. drop 1 ps) e in
    let items : xs.items ≡ ys.items = map-word-injective xs.items ys.items words in
    λ i. reply.Ok (record { items = items i })
reply_parts-injective (reply.Ok xs) (reply.Err status index) e = absurd (keys_apart 111 101 refl (ap first_byte e))
reply_parts-injective (reply.Ok xs) reply.Misplaced e = absurd (keys_apart 111 109 refl (ap first_byte e))
reply_parts-injective (reply.Err status index) (reply.Ok ys) e = absurd (keys_apart 101 111 refl (ap first_byte e))
reply_parts-injective (reply.Err status index) (reply.Err status' index') e =
    let status-is : status ≡ status' = decimal-injective status status' (ap (λ ps. get_or ps 1 []) e) in
    let index-is : index ≡ index' = decimal-injective index index' (ap (λ ps. get_or ps 2 []) e) in
    λ i. reply.Err (status-is i) (index-is i)
reply_parts-injective (reply.Err status index) reply.Misplaced e = absurd (keys_apart 101 109 refl (ap first_byte e))
reply_parts-injective reply.Misplaced (reply.Ok ys) e = absurd (keys_apart 109 111 refl (ap first_byte e))
reply_parts-injective reply.Misplaced (reply.Err status index) e = absurd (keys_apart 109 101 refl (ap first_byte e))
reply_parts-injective reply.Misplaced reply.Misplaced e = refl

-- ---- lines of histories and certificates

mark-IsPart : (version : Version) → IsPart (mark version)
mark-IsPart One = IsPart-from_test _ _ refl
mark-IsPart Two = IsPart-from_test _ _ refl
mark-IsPart Large = IsPart-from_test _ _ refl

mark-injective : (v w : Version) → mark v ≡ mark w → v ≡ w
mark-injective One One e = refl
mark-injective One Two e = absurd (keys_apart 49 50 refl (ap (λ (bs : List ℕ). get_or bs 3 0) e))
mark-injective Two One e = absurd (keys_apart 50 49 refl (ap (λ (bs : List ℕ). get_or bs 3 0) e))
mark-injective Two Two e = refl
mark-injective One Large e = absurd (keys_apart 104 108 refl (ap (λ (bs : List ℕ). get_or bs 2 0) e))
mark-injective Two Large e = absurd (keys_apart 104 108 refl (ap (λ (bs : List ℕ). get_or bs 2 0) e))
mark-injective Large One e = absurd (keys_apart 108 104 refl (ap (λ (bs : List ℕ). get_or bs 2 0) e))
mark-injective Large Two e = absurd (keys_apart 108 104 refl (ap (λ (bs : List ℕ). get_or bs 2 0) e))
mark-injective Large Large e = refl

pub config_parts-are_parts : (config : Config) → AllByRecursion IsPart (config_parts config)
config_parts-are_parts config = (mark-IsPart config.version, (decimal-IsPart config.granules, (decimal-IsPart config.cpus, tt)))

pub config_parts-injective : (s t : Config) → config_parts s ≡ config_parts t → s ≡ t
config_parts-injective s t e =
    let granules : s.granules ≡ t.granules = decimal-injective s.granules t.granules (ap (λ ps. get_or ps 1 []) e) in
    let cpus : s.cpus ≡ t.cpus = decimal-injective s.cpus t.cpus (ap (λ ps. get_or ps 2 []) e) in
    let version = mark-injective s.version t.version (ap (λ ps. get_or ps 0 []) e) in
    λ i. record { granules = granules i; cpus = cpus i; version = version i }

pub event_parts-are_parts : (event : Event) → AllByRecursion IsPart (event_parts event)
unfolding event_parts
event_parts-are_parts (Called cpu number command) =
    (IsPart-from_test _ _ refl, (decimal-IsPart cpu, (decimal-IsPart number, command_parts-are_parts command)))
event_parts-are_parts (Returned cpu number given) =
    (IsPart-from_test _ _ refl, (decimal-IsPart cpu, (decimal-IsPart number, reply_parts-are_parts given)))

pub event_parts-some : (event : Event) → 0 < length (event_parts event)
unfolding event_parts
event_parts-some (Called cpu number command) = omega arith
event_parts-some (Returned cpu number given) = omega arith

-- no two events have one line
pub event_parts-injective : (a b : Event) → event_parts a ≡ event_parts b → a ≡ b
unfolding event_parts
event_parts-injective (Called cpu number command) (Called cpu' number' command') e =
    let cpu-is : cpu ≡ cpu' = decimal-injective cpu cpu' (ap (λ ps. get_or ps 1 []) e) in
    let number-is : number ≡ number' = decimal-injective number number' (ap (λ ps. get_or ps 2 []) e) in
    let command-is : command ≡ command' = command_parts-injective command command' (ap (λ ps. drop 3 ps) e) in
    λ i. Called (cpu-is i) (number-is i) (command-is i)
event_parts-injective (Called cpu number command) (Returned cpu' number' given) e = absurd (keys_apart 99 114 refl (ap first_byte e))
event_parts-injective (Returned cpu number given) (Called cpu' number' command) e = absurd (keys_apart 114 99 refl (ap first_byte e))
event_parts-injective (Returned cpu number given) (Returned cpu' number' given') e =
    let cpu-is : cpu ≡ cpu' = decimal-injective cpu cpu' (ap (λ ps. get_or ps 1 []) e) in
    let number-is : number ≡ number' = decimal-injective number number' (ap (λ ps. get_or ps 2 []) e) in
    let given-is : given ≡ given' = reply_parts-injective given given' (ap (λ ps. drop 3 ps) e) in
    λ i. Returned (cpu-is i) (number-is i) (given-is i)

pub line_parts-are_parts : (line : Line) → AllByRecursion IsPart (line_parts line)
unfolding line_parts
line_parts-are_parts (Keep cpu number) = (IsPart-from_test _ _ refl, (decimal-IsPart cpu, (decimal-IsPart number, tt)))
line_parts-are_parts (Unfinished cpu number given) =
    (IsPart-from_test _ _ refl, (decimal-IsPart cpu, (decimal-IsPart number, reply_parts-are_parts given)))

pub line_parts-some : (line : Line) → 0 < length (line_parts line)
unfolding line_parts
line_parts-some (Keep cpu number) = lit< tt
line_parts-some (Unfinished cpu number given) = omega arith

-- no two lines of a certificate have one text
pub line_parts-injective : (a b : Line) → line_parts a ≡ line_parts b → a ≡ b
unfolding line_parts
line_parts-injective (Keep cpu number) (Keep cpu' number') e =
    let cpu-is : cpu ≡ cpu' = decimal-injective cpu cpu' (ap (λ ps. get_or ps 1 []) e) in
    let number-is : number ≡ number' = decimal-injective number number' (ap (λ ps. get_or ps 2 []) e) in
    λ i. Keep (cpu-is i) (number-is i)
line_parts-injective (Keep cpu number) (Unfinished cpu' number' given) e = absurd (keys_apart 107 117 refl (ap first_byte e))
line_parts-injective (Unfinished cpu number given) (Keep cpu' number') e = absurd (keys_apart 117 107 refl (ap first_byte e))
line_parts-injective (Unfinished cpu number given) (Unfinished cpu' number' given') e =
    let cpu-is : cpu ≡ cpu' = decimal-injective cpu cpu' (ap (λ ps. get_or ps 1 []) e) in
    let number-is : number ≡ number' = decimal-injective number number' (ap (λ ps. get_or ps 2 []) e) in
    let given-is : given ≡ given' = reply_parts-injective given given' (ap (λ ps. drop 3 ps) e) in
    λ i. Unfinished (cpu-is i) (number-is i) (given-is i)

pub commands_at : (programs : List (List Command)) (cpu : ℕ)
    → AllByRecursion (AllByRecursion IsCommand) programs → AllByRecursion IsCommand (get_or programs cpu [])
commands_at [] zero all = tt
commands_at [] (suc cpu) all = tt
commands_at (program ∷ programs) zero all = all.0
commands_at (program ∷ programs) (suc cpu) all = commands_at programs cpu all.1
