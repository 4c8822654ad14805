-- How long the lines of histories and certificates are at most.
use Rattle.std.proofs.Common.{◌≡◌, ℕ, zero, suc, ◌+◌, ◌*◌, ◌^◌, ◌<◌, ◌≤◌, List, [], ◌∷◌, map, length, refl, arith, lit≤, length-append}
use Rattle.std.specs.Int.Digits.{digits_of}
use Rattle.std.proofs.lemmas.Int.Digits.{length-digits_of-le}
use Rattle.std.proofs.lemmas.List.{length-map}
use Rattle.rmi_codec.proofs.PartLaws.{word_count-le}
use Rattle.rmm_spec.specs.declared.command.Command.{Command}
use Rattle.rmm_spec.specs.declared.event.Event.TheVariants.{Called, Returned}
use Rattle.rmm_spec.specs.declared.line.Line.{Line}
use Rattle.rmm_spec.specs.declared.line.Line.TheVariants.{Keep, Unfinished}
use Rattle.rmm_spec.specs.declared.reply.Reply.{Reply}
use Rattle.rmm_spec.specs.declared.reply.Reply.TheVariants as reply
use Rattle.rmm_spec.specs.declared.version.Version.{Version}
use Rattle.rmm_spec.specs.declared.version.Version.TheVariants.{One, Two, Large}
use Rattle.rmm_spec.specs.CertificateText.{IsLine, line_parts}
use Rattle.rmm_spec.specs.CommandText.{AreWords, IsCommand, IsReply, command_parts, reply_parts}
use Rattle.rmm_spec.specs.Function.{number_of}
use Rattle.rmm_spec.specs.HistoryText.{Config, IsConfig, config_parts, event_parts, mark}
use Rattle.rmm_spec.specs.Text.{glyph, numeral, decimal, word, line_text}
use Rattle.spec_lemmas.proofs.Limits.{granule_limit_le}
use Rattle.spec_lemmas.proofs.Texts.{numeral-zero, numeral_some, length-fixed_hex}

-- a number below a power of its base has no more digits
length-numeral : (base most n : ℕ) → 2 ≤ base → 1 ≤ most → n < base ^ most → length (numeral base n) ≤ most
length-numeral base most zero h some below = rw (numeral-zero base) some
length-numeral base most (suc n) h some below =
    rw (numeral_some base (suc n) (let e : 0 < suc n = omega arith in e))
    (omega (arith, length-map (digits_of base (suc n)) glyph, length-digits_of-le base most (suc n) h below))

pub length-decimal : (most n : ℕ) → 1 ≤ most → n < 10 ^ most → length (decimal n) ≤ most
unfolding decimal
length-decimal most n some below = length-numeral 10 most n (lit≤ tt) some below

length-word : (n : ℕ) → n < 2 ^ 64 → length (word n) ≤ 16
unfolding word
length-word n below = length-numeral 16 16 n (lit≤ tt) (lit≤ tt) below

-- the bytes of parts, each with a space behind it
abbrev pub width : List (List ℕ) → ℕ
width [] = 0
width (part ∷ parts) = length part + 1 + width parts

-- a line is no longer than its parts with their spaces
pub length-line_text : (parts : List (List ℕ)) → length (line_text parts) ≤ width parts
length-line_text [] = omega arith
length-line_text (part ∷ []) = omega arith
length-line_text (part ∷ next ∷ parts) = omega (arith, length-append part (32 ∷ line_text (next ∷ parts)), length-line_text (next ∷ parts))

width-words : (words : List ℕ) → AreWords words → width (map word words) ≤ 17 * length words
width-words [] each = omega arith
width-words (w ∷ words) each = omega (arith, length-word w each.0, width-words words each.1)

width-command : (command : Command) → IsCommand command → width (command_parts command) ≤ 179
unfolding command_parts
width-command command is =
    omega (
      arith,
      length-fixed_hex 8 (number_of command.function),
      width-words command.words.items is.words,
      is.counted,
      word_count-le command.function,
    )

width-reply : (given : Reply) → IsReply given → width (reply_parts given) ≤ 173
unfolding reply_parts
width-reply (reply.Ok words) is = omega (arith, width-words words.items is.1, is.0)
width-reply (reply.Err status index) is =
    let status_below : status < 10 ^ 3 = omega (arith, is.0) in
    let index_below : index < 10 ^ 3 = omega (arith, is.1) in
    omega (arith, length-decimal 3 status (lit≤ tt) status_below, length-decimal 3 index (lit≤ tt) index_below)
width-reply reply.Misplaced is = lit≤ tt

-- the line of an event of such a machine
pub width-called : (cpu number : ℕ) (command : Command) → cpu < 8 → number < 1000000 → IsCommand command
    → width (event_parts (Called cpu number command)) ≤ 190
unfolding event_parts
width-called cpu number command cpu_below below is =
    let digit : cpu < 10 ^ 1 = omega arith in
    omega (arith, length-decimal 1 cpu (lit≤ tt) digit, length-decimal 6 number (lit≤ tt) below, width-command command is)

pub width-returned : (cpu number : ℕ) (given : Reply) → cpu < 8 → number < 1000000 → IsReply given
    → width (event_parts (Returned cpu number given)) ≤ 184
unfolding event_parts
width-returned cpu number given cpu_below below is =
    let digit : cpu < 10 ^ 1 = omega arith in
    omega (arith, length-decimal 1 cpu (lit≤ tt) digit, length-decimal 6 number (lit≤ tt) below, width-reply given is)

length-mark : (version : Version) → length (mark version) ≡ 4
length-mark One = refl
length-mark Two = refl
length-mark Large = refl

-- a header
pub width-config : (config : Config) → IsConfig config → width (config_parts config) ≤ 15
width-config config is =
    let granules_below : config.granules < 10 ^ 7 = omega (arith, is.most_granules, granule_limit_le config.version) in
    let cpus_below : config.cpus < 10 ^ 1 = omega (arith, is.most_cpus) in
    omega (
      arith,
      length-mark config.version,
      length-decimal 7 config.granules (lit≤ tt) granules_below,
      length-decimal 1 config.cpus (lit≤ tt) cpus_below,
    )

-- a line of a certificate
pub width-line : (line : Line) → IsLine line → width (line_parts line) ≤ 184
unfolding line_parts
width-line (Keep cpu number) is =
    let digit : cpu < 10 ^ 1 = omega (arith, is.0) in
    omega (arith, length-decimal 1 cpu (lit≤ tt) digit, length-decimal 6 number (lit≤ tt) is.1)
width-line (Unfinished cpu number given) is =
    let digit : cpu < 10 ^ 1 = omega (arith, is.0) in
    omega (arith, length-decimal 1 cpu (lit≤ tt) digit, length-decimal 6 number (lit≤ tt) is.1, width-reply given is.2)
