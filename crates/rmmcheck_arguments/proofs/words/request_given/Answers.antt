use Rattle.std.proofs.Common.{◌≡◌, ◌∙◌, List, [], ap, sym, subst, map, string_bytes, ⊎_elim}
use Rattle.clap.specs.Words.{App, Text, fault_of, is_simple_and_free, subcommand_rows_of}
use Rattle.rmmcheck_arguments.specs.Words.{forms, rmmcheck_command}
use Rattle.rmmcheck_arguments.proofs.Asked.{is_free-rmmcheck, subcommand-given}
use Rattle.rmmcheck_arguments.proofs.Given.{GivesOne, fault_of-none}
use Rattle.rmmcheck_arguments.proofs.words.request_given.Goals as goal

pub unreachable-requires : goal.unreachable-requires
unreachable-requires c =
    let matches = c.in-Ok-try_get_matches_from.matches in
    let is_program = c.in-Ok.ensures in
    let parsed = c.in-Ok-try_get_matches_from.ensures in
    let words : List Text = map string_bytes c.args.words.now in
    let none : fault_of rmmcheck_command words ≡ [] =
    sym (ap (λ (a : App). fault_of a words) is_program) ∙ parsed.kinds (ap is_simple_and_free is_program ∙ is_free-rmmcheck) in
    let given = subcommand-given c.in-Ok.program words matches is_program parsed.matches in
    let gives : GivesOne forms (subcommand_rows_of matches) = subst (GivesOne forms) (sym given) (fault_of-none words none) in
    let asked = c.in-None.ensures in
    ⊎_elim (λ check. asked.no_check check.1.0.0 check.1.1.0.0 check.0 check.1.0.1 check.1.1.0.1)
    (λ other. ⊎_elim (λ run. asked.no_run run.1.0.0 run.0 run.1.0.1)
    (λ last. ⊎_elim (λ threads. asked.no_threads threads.1.0.0 threads.0 threads.1.0.1) (λ none. none) last) other) gives
