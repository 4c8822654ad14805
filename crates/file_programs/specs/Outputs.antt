-- What the options of `rmmexplain` ask to be made of a run.
use Rattle.std.specs.Prelude.{◌≡◌, ◌<◌, ◌^◌, ℕ, Bool, true, false, List, Option, Some, None, codes, option_map, bytes_eq, if◌then◌else◌}
use Rattle.std.specs.Str.Parse.{IsNumeral, digits_value, without_leading_plus}
use Rattle.file_programs.specs.Arguments.{is_set}
use Rattle.file_programs.specs.declared.options.Format.{Format}
use Rattle.file_programs.specs.declared.options.Format.TheVariants as form
use Rattle.file_programs.specs.declared.options.Options.{Options}
use Rattle.file_programs.specs.declared.options.Output.{Output}
use Rattle.file_programs.specs.declared.options.Output.TheVariants as output
use Rattle.clap.specs.Words.{Row, Text, first_of}

-- the options that are given
pub record Given : Type 0 where
  pub page : Option Text
  pub around : Option Text
  pub granule : Option Text
  pub format : Option Format
  pub has_json : Bool
  pub has_rows : Bool

-- a form of lines by its name
abbrev pub format_named : Text → Format
format_named name = if bytes_eq name (codes "gcc") then form.Gcc else form.Unknown

abbrev pub options_in : List Row → Given
options_in rows = record {
  page = first_of (codes "html") rows;
  around = first_of (codes "around") rows;
  granule = first_of (codes "granule") rows;
  format = option_map format_named (first_of (codes "format") rows);
  has_json = is_set (first_of (codes "json") rows);
  has_rows = is_set (first_of (codes "rows") rows);
}

abbrev pub options_seen : Options → Given
options_seen options = record {
  page = option_map (λ text. text.now) options.page;
  around = option_map (λ text. text.now) options.around;
  granule = option_map (λ text. text.now) options.granule;
  format = options.format;
  has_json = options.has_json;
  has_rows = options.has_rows;
}

-- the number of events that is given, or a hundred
abbrev pub IsWidth : Option Text → ℕ → Type 0
IsWidth None width = width ≡ 100
IsWidth (Some digits) width =
    (width < 2 ^ 64)
    × IsNumeral 10 (without_leading_plus digits) × (digits_value 10 (without_leading_plus digits) ≡ width)

-- these options that have a value are given, and no others
abbrev pub HasValues : Given → Option Text → Option Text → Option Format → Type 0
HasValues given page granule format = (given.page ≡ page) × (given.granule ≡ granule) × (given.format ≡ format)

-- these flags are given, and no others
abbrev pub HasFlags : Given → Bool → Bool → Type 0
HasFlags given json rows = (given.has_json ≡ json) × (given.has_rows ≡ rows)

abbrev pub HasNone : Given → Type 0
HasNone given = HasValues given None None None × HasFlags given false false × (given.around ≡ None)

-- the options ask for this output and for no other; only a page has a number of events
abbrev pub IsOutput : Given → Output → Type 0
IsOutput given output.Text = HasNone given
IsOutput given (output.Page file around) = HasValues given (Some file.now) None None × HasFlags given false false × IsWidth given.around around
IsOutput given output.Json = HasValues given None None None × HasFlags given true false × (given.around ≡ None)
IsOutput given output.Gcc = HasValues given None None (Some form.Gcc) × HasFlags given false false × (given.around ≡ None)
IsOutput given (output.Granule address) = HasValues given None (Some address.now) None × HasFlags given false false × (given.around ≡ None)
IsOutput given output.Rows = HasValues given None None None × HasFlags given false true × (given.around ≡ None)
