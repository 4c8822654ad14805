use Rattle.std.proofs.Common.{◌∙◌, ap, true}
use Rattle.clap.specs.Words.{App}
use Rattle.clap.specs.Simple.{app_of_fields}
use Rattle.file_programs.proofs.parsing.command_named.Goals as goal

pub returns : goal.returns
returns c =
    ap app_of_fields c.about.ensures ∙ ap app_of_fields c.version.ensures
    ∙ ap (λ (a : App). let b : App = record a { top = record a.top { has_version = true } } in b) c.new.ensures.app
