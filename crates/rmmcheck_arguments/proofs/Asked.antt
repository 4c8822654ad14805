-- From clap's clauses to the words that ask for something.
use Rattle.std.proofs.Common.{◌≡◌, ◌∙◌, List, Option, Some, None, Bool, true, false, ◌||◌, ap, ap₂, sym, refl, option_map}
use Rattle.clap.specs.Words.{App, Row, Text, HasMatchesOf, app_of, first_of, is_simple, is_simple_and_free, subcommand_of, subcommand_rows_of}
use Rattle.clap.specs.declared.builder.command.Command.{Command}
use Rattle.clap.specs.declared.parser.matches.ArgMatches.{ArgMatches}
use Rattle.clap.proofs.OnLiterals.{clap_on_literals}
use Rattle.rmmcheck_arguments.specs.Words.{rmmcheck_command, value_of}

-- of two false values none is true
pub neither : {x y : Bool} → x ≡ false → y ≡ false → (x || y) ≡ false
neither p q = ap₂ (λ (a b : Bool). a || b) p q

-- the value is read from the rows of the subcommand
pub value_of-rows : (id : Text) (sub : Option (Text × List Row)) (rows : List Row) → Some rows ≡ option_map (λ found. found.1) sub
    → value_of id sub ≡ first_of id rows
value_of-rows id None rows e = absurd (let bad : Some rows ≡ None = e in cc)
value_of-rows id (Some found) rows e = ap (λ (o : Option (List Row)). value_rows o) (sym e)
  where
    value_rows : Option (List Row) → Option Text
    value_rows None = None
    value_rows (Some given) = first_of id given

is_simple-rmmcheck : is_simple rmmcheck_command ≡ true
unfolding clap_on_literals
is_simple-rmmcheck = refl

pub is_free-rmmcheck : is_simple_and_free rmmcheck_command ≡ true
unfolding clap_on_literals
is_free-rmmcheck = refl

-- the subcommand that a parse of the command entered is the one that the words name
pub subcommand-given : (command : Command) (words : List Text) (m : ArgMatches) → app_of command ≡ rmmcheck_command
    → HasMatchesOf (app_of command) words m → subcommand_rows_of m ≡ subcommand_of rmmcheck_command words
subcommand-given command words m e has = (has (ap is_simple e ∙ is_simple-rmmcheck)).1 ∙ ap (λ (a : App). subcommand_of a words) e
