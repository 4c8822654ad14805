use Rattle.std.proofs.Common.{◌∙◌, List, ap, map, string_bytes, subst, sym}
use Rattle.clap.specs.Words.{App, HasKind, Text, fault_of, is_simple, is_simple_and_free, kind_of, matches_of}
use Rattle.file_programs.proofs.Refused.{AskForNothing-kind}
use Rattle.file_programs.proofs.parsing.parsed.Goals as goal

pub matched-requires-clause-simple : goal.matched-requires-clause-simple
matched-requires-clause-simple g c = ap is_simple c.in_ok-command.ensures.app ∙ c.in_ok-command.ensures.simple

pub matched-requires-clause-free : goal.matched-requires-clause-free
matched-requires-clause-free g c = ap is_simple_and_free c.in_ok-command.ensures.app ∙ c.in_ok-command.ensures.free

pub returns-in-Ok-clause-rows : goal.returns-in-Ok-clause-rows
returns-in-Ok-clause-rows g c =
    let arguments : List Text = map string_bytes c.args.arguments.now in
    c.in-Ok.ensures.rows ∙ ap (λ (app : App). matches_of app arguments) c.in_ok-command.ensures.app

pub returns-in-Ok-clause-accepted : goal.returns-in-Ok-clause-accepted
returns-in-Ok-clause-accepted g c =
    let arguments : List Text = map string_bytes c.args.arguments.now in
    sym (ap (λ (app : App). fault_of app arguments) c.in_ok-command.ensures.app) ∙ c.in-Ok.ensures.kinds

pub returns-in-Err-clause-refused : goal.returns-in-Err-clause-refused
returns-in-Err-clause-refused g c =
    let arguments : List Text = map string_bytes c.args.arguments.now in
    let told = subst (λ (app : App). HasKind (fault_of app arguments) c.in-Err.error) c.in_ok-command.ensures.app c.in-Err.ensures.kinds in
    AskForNothing-kind g.F.Form.app g.F.Form.is_asked arguments (kind_of c.in-Err.error) c.refused_by.result told c.refused_by.ensures
