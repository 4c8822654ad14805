use Rattle.file_programs.proofs.search.SearchForm.command.Goals as goal

pub returns-clause-app : goal.returns-clause-app
returns-clause-app c =
    let with_limit = c.with_argument-command.ensures _ _ c.command_named.ensures c.limit.ensures.rule in
    let with_seconds = c.with_argument-command-2.ensures _ _ with_limit c.seconds.ensures.rule in
    let with_explain = c.with_argument-command-3.ensures _ _ with_seconds c.flag_named.ensures.rule in
    let with_json = c.with_argument-command-4.ensures _ _ with_explain c.flag_named-2.ensures.rule in
    c.with_argument.ensures _ _ with_json c.history.ensures.rule
