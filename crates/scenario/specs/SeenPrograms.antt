-- What programs that are held stand for.
use Rattle.std.specs.Prelude.{List, map, Vec}
use Rattle.std.specs.declared.alloc.Global.{Global}
use Rattle.rmm_spec.specs.declared.command.Command.{Command}

abbrev pub seen_programs : List (Vec Command Global) → List (List Command)
seen_programs programs = map (λ program. program.items) programs
