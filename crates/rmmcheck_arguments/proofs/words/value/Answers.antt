use Rattle.std.proofs.Common.{rules, ◌∙◌, sym}
use Rattle.clap.specs.Words.{rows_of, found_of, subcommand_rows_of}
use Rattle.clap.proofs.WalkLemmas.{first_value-rows}
use Rattle.rmmcheck_arguments.proofs.Asked.{value_of-rows}
use Rattle.rmmcheck_arguments.proofs.words.value.Goals as goal

pub returns-in-Some : goal.returns-in-Some
returns-in-Some c =
    let found = found_of c.in-Some.entered.now in
    c.get_str.ensures ∙ first_value-rows found c.args.id.now
    ∙ sym (value_of-rows c.args.id.now (subcommand_rows_of c.args.matches.now) (rows_of found) (search rules))
