-- What parts can spell is read back from them, so that a text stands for nothing but what is read from it.
use Rattle.verdict_laws.proofs.Common.{◌≡◌, ℕ, zero, suc, ◌+◌, ◌-◌, ◌*◌, ◌≤◌, ◌==◌, if◌then◌else◌, nat_lt, List, [], ◌∷◌, map, refl, ap, ◌∙◌, arith, Command, Event, Called, Returned, Line, Keep, Unfinished, Reply, Config}
use Rattle.std.proofs.Common.{get_or, drop, lit≤}
use Rattle.std.specs.Int.Digits.{number_from_digits, digits_of}
use Rattle.std.proofs.lemmas.Bool.Decides.{nat_tests}
use Rattle.std.proofs.lemmas.Int.Digits.{number_digits_of, number_push}
use Rattle.rmm_spec.specs.declared.function_id.FunctionId.{FunctionId}
use Rattle.rmm_spec.specs.declared.function_id.FunctionId.TheVariants.{GranuleDelegate}
use Rattle.rmm_spec.specs.declared.reply.Reply.TheVariants as reply
use Rattle.rmm_spec.specs.CertificateText.{line_parts}
use Rattle.rmm_spec.specs.CommandText.{command_parts, reply_parts}
use Rattle.rmm_spec.specs.Function.{number_of}
use Rattle.rmm_spec.specs.declared.version.Version.{Version}
use Rattle.rmm_spec.specs.declared.version.Version.TheVariants.{One, Two, Large}
use Rattle.rmm_spec.specs.HistoryText.{mark, config_parts, event_parts}
use Rattle.rmm_spec.specs.Text.{glyph, numeral, decimal, word, fixed_hex}
use Rattle.spec_lemmas.proofs.Texts.{numeral_some, numeral-zero, function_numbered}

-- what is read back from each image is read back from the list of images
pub map-read : {X Y : Type 0} (f : X → Y) (read : Y → X) → ((x : X) → read (f x) ≡ x) → (xs : List X) → map read (map f xs) ≡ xs
map-read f read back [] = refl
map-read f read back (x ∷ xs) = λ i. back x i ∷ map-read f read back xs i

-- ---- numbers

-- the digit that a byte shows
abbrev unglyph : ℕ → ℕ
unglyph byte = if nat_lt byte 58 then byte - 48 else byte - 87

-- a digit is read back from its byte
unglyph-glyph : (d : ℕ) → unglyph (glyph d) ≡ d
unglyph-glyph d = grind (arith, nat_tests)

-- the number that a numeral shows
abbrev read_numeral : ℕ → List ℕ → ℕ
read_numeral base part = number_from_digits base (map unglyph part)

-- a number is read back from its numeral
read_numeral-numeral : (base n : ℕ) → 2 ≤ base → read_numeral base (numeral base n) ≡ n
read_numeral-numeral base zero two =
    let nothing : number_from_digits base [] * base + 0 ≡ 0 = omega arith in
    ap (λ part. read_numeral base part) (numeral-zero base) ∙ number_push base [] 0 ∙ nothing
read_numeral-numeral base (suc n) two =
    ap (λ part. read_numeral base part) (numeral_some base (suc n) (omega arith))
    ∙ ap (λ digits. number_from_digits base digits) (map-read glyph unglyph unglyph-glyph (digits_of base (suc n)))
    ∙ number_digits_of base (suc n) two

-- the same in base 10
read_decimal : List ℕ → ℕ
read_decimal part = read_numeral 10 part

-- a number is read back from its decimal
read_decimal-decimal : (n : ℕ) → read_decimal (decimal n) ≡ n
unfolding read_decimal decimal
read_decimal-decimal n = read_numeral-numeral 10 n (lit≤ tt)

-- the same in base 16
read_word : List ℕ → ℕ
read_word part = read_numeral 16 part

-- a word is read back from its text
read_word-word : (n : ℕ) → read_word (word n) ≡ n
unfolding read_word word
read_word-word n = read_numeral-numeral 16 n (lit≤ tt)

-- ---- functions

-- the function that a part names
read_function : List ℕ → FunctionId
read_function part = function_numbered (read_numeral 16 part)

-- a function is read back from its number
read_function-fixed_hex : (f : FunctionId) → read_function (fixed_hex 8 (number_of f)) ≡ f
unfolding read_function fixed_hex number_of function_numbered
read_function-fixed_hex GranuleDelegate = refl
read_function-fixed_hex _ = refl

-- ---- commands and replies

-- the part at a place
abbrev part : List (List ℕ) → ℕ → List ℕ
part parts i = get_or parts i []

-- the first byte of a line
abbrev first_byte : List (List ℕ) → ℕ
first_byte parts = get_or (part parts 0) 0 0

-- the command that a line spells
read_command : List (List ℕ) → Command
read_command parts = record { function = read_function (part parts 0); words = record { items = map read_word (drop 1 parts) } }

-- a command is read back from its parts
read_command-command_parts : (c : Command) → read_command (command_parts c) ≡ c
unfolding read_command command_parts
read_command-command_parts c =
    λ i. record { function = read_function-fixed_hex c.function i; words = record { items = map-read word read_word read_word-word c.words.items i } }

-- the reply, by its first byte
read_reply : List (List ℕ) → Reply
read_reply parts =
    if first_byte parts == 111 then reply.Ok (record { items = map read_word (drop 1 parts) })
    else (if first_byte parts == 101 then reply.Err (read_decimal (part parts 1)) (read_decimal (part parts 2)) else reply.Misplaced)

-- a reply is read back from its parts
read_reply-reply_parts : (given : Reply) → read_reply (reply_parts given) ≡ given
unfolding read_reply reply_parts
read_reply-reply_parts (reply.Ok words) = λ i. reply.Ok (record { items = map-read word read_word read_word-word words.items i })
read_reply-reply_parts (reply.Err status index) = λ i. reply.Err (read_decimal-decimal status i) (read_decimal-decimal index i)
read_reply-reply_parts reply.Misplaced = refl

-- ---- lines of histories and certificates

-- the version that a history begins with
pub read_mark : List ℕ → Version
read_mark bytes = if get_or bytes 2 0 == 108 then Large else (if get_or bytes 3 0 == 50 then Two else One)

read_mark-mark : (version : Version) → read_mark (mark version) ≡ version
unfolding read_mark
read_mark-mark One = refl
read_mark-mark Two = refl
read_mark-mark Large = refl

-- the configuration of a history's first line
pub read_config : List (List ℕ) → Config
read_config parts = record { granules = read_decimal (part parts 1); cpus = read_decimal (part parts 2); version = read_mark (part parts 0) }

-- a configuration is read back from its parts
pub read_config-config_parts : (config : Config) → read_config (config_parts config) ≡ config
unfolding read_config
read_config-config_parts config = λ i.
    record { granules = read_decimal-decimal config.granules i; cpus = read_decimal-decimal config.cpus i; version = read_mark-mark config.version i }

-- the event of a line, by its first byte
pub read_event : List (List ℕ) → Event
read_event parts =
    if first_byte parts == 99 then Called (read_decimal (part parts 1)) (read_decimal (part parts 2)) (read_command (drop 3 parts))
    else Returned (read_decimal (part parts 1)) (read_decimal (part parts 2)) (read_reply (drop 3 parts))

-- an event is read back from its parts
pub read_event-event_parts : (event : Event) → read_event (event_parts event) ≡ event
unfolding read_event event_parts
read_event-event_parts (Called cpu number command) =
    λ i. Called (read_decimal-decimal cpu i) (read_decimal-decimal number i) (read_command-command_parts command i)
read_event-event_parts (Returned cpu number given) =
    λ i. Returned (read_decimal-decimal cpu i) (read_decimal-decimal number i) (read_reply-reply_parts given i)

-- the line of a certificate, by its first byte
pub read_line : List (List ℕ) → Line
read_line parts =
    if first_byte parts == 107 then Keep (read_decimal (part parts 1)) (read_decimal (part parts 2))
    else Unfinished (read_decimal (part parts 1)) (read_decimal (part parts 2)) (read_reply (drop 3 parts))

-- a line is read back from its parts
pub read_line-line_parts : (line : Line) → read_line (line_parts line) ≡ line
unfolding read_line line_parts
read_line-line_parts (Keep cpu number) = λ i. Keep (read_decimal-decimal cpu i) (read_decimal-decimal number i)
read_line-line_parts (Unfinished cpu number given) =
    λ i. Unfinished (read_decimal-decimal cpu i) (read_decimal-decimal number i) (read_reply-reply_parts given i)
