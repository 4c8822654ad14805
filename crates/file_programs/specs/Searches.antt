-- The command line of `rmmfind`.
use Rattle.std.specs.Prelude.{◌≡◌, ◌<◌, ◌^◌, ℕ, List, [], ◌∷◌, Option, Some, None, true, false, ◌&&◌, codes}
use Rattle.std.specs.Str.Parse.{IsNumeral, digits_value, without_leading_plus}
use Rattle.file_programs.specs.Arguments.{AskForNothing, AsksFor, command_of, flag_rule, is_set, option_rule}
use Rattle.file_programs.specs.declared.parsing.Refusal.{Refusal}
use Rattle.file_programs.specs.declared.search.Search.{Search}
use Rattle.clap.specs.Words.{App, Row, Rule, Text, first_of, new_rule}
use Rattle.clap.specs.declared.builder.value_parser.ValueParser.TheVariants.{Unsigned}

-- a number that 64 bits hold
abbrev pub limit_rule : Rule
limit_rule = record (option_rule (codes "limit")) { parser = Some (Unsigned 0 18446744073709551615) }

abbrev pub seconds_rule : Rule
seconds_rule = record (option_rule (codes "seconds")) { parser = Some (Unsigned 0 18446744073709551615) }

abbrev pub history_rule : Rule
history_rule = record (new_rule (codes "HISTORY")) { required = true }

abbrev pub search_command : App
search_command = command_of (codes "rmmfind") (limit_rule ∷ seconds_rule ∷ flag_rule (codes "explain") ∷ flag_rule (codes "json") ∷ history_rule ∷ [])

-- the number that is given, or ten million
abbrev pub IsLimit : Option Text → ℕ → Type 0
IsLimit None limit = limit ≡ 10000000
IsLimit (Some digits) limit =
    (limit < 2 ^ 64)
    × IsNumeral 10 (without_leading_plus digits) × (digits_value 10 (without_leading_plus digits) ≡ limit)

-- the seconds that are given, if any are
abbrev pub IsTime : Option Text → Option ℕ → Type 0
IsTime None seconds = seconds ≡ None
IsTime (Some digits) seconds =
    (count : ℕ) × (seconds ≡ Some count) × (count < 2 ^ 64)
    × IsNumeral 10 (without_leading_plus digits) × (digits_value 10 (without_leading_plus digits) ≡ count)

abbrev pub IsSearch : List Row → Search → Type 0
IsSearch rows search =
    IsLimit (first_of (codes "limit") rows) search.limit
    × IsTime (first_of (codes "seconds") rows) search.seconds
    × (search.has_reasons ≡ is_set (first_of (codes "explain") rows))
    × (search.has_json ≡ is_set (first_of (codes "json") rows))
    × (search.has_reasons && search.has_json ≡ false)
    × (first_of (codes "HISTORY") rows ≡ Some search.history.now)

-- the arguments ask for this search
abbrev pub AsksForSearch : List Text → Search → Type 0
AsksForSearch arguments search = AsksFor search_command IsSearch arguments search

-- the arguments ask for help or the version, or for no search
abbrev pub AskForNoSearch : List Text → Refusal → Type 0
AskForNoSearch arguments refusal = AskForNothing search_command IsSearch arguments refusal
